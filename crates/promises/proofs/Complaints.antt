-- How an error comes, of the call for C: a message that breaks a rule is answered by the reply of that rule and by nothing else, and of the
-- rules those of a datagram alone are answered with UDERROR_IND.
use Rattle.std.proofs.Common.{Err, None, Ok, Option, Result, Some}
use Prim.Native.Nat.{ℕ, ◌≤◌}
use native.Mathlib.Omega.{arith}
use mathlib.Core.Path.{◌≡◌, refl, sym, ap, subst, ◌∙◌}
use mathlib.Core.Bool.{true, not}
use mathlib.Core.List.{List, [], ◌∷◌}
use lib.ListN.{length}
use Rattle.ledger.specs.Tally.{has}
use Rattle.ledger.proofs.Tallies.{chosen, either-false}
use Rattle.paper.specs.Base.{Table, stream}
use Rattle.paper.specs.ErrorCodes.{out_state, Complaint, error_ack, uderror_ind, complaint_of, error_of, reply_by}
use Rattle.paper.specs.ErrorOrder.{without_row, verdict_by, verdict_on}
use Rattle.paper.specs.Messages.{code_in, primitive_of, sized, read_as, asked_by}
use Rattle.paper.specs.RecordsIn.{message_in, input_of}
use Rattle.paper.specs.RecordsOut.{up, all_bytes}
use Rattle.paper.specs.Refusals.{Outcome}
use Rattle.paper.specs.Replies.{content_of}
use Rattle.paper.specs.Sight.{request_asks, sight_by}
use Rattle.paper.specs.StateRows.{state_rows, found}
use Rattle.paper.specs.declared.Input.TheVariants as input
use Rattle.paper.specs.declared.Primitive.{Primitive}
use Rattle.paper.specs.declared.Primitive.TheVariants as primitive
use Rattle.paper.specs.declared.Request.{Request}
use Rattle.paper.specs.declared.Request.TheVariants as request
use Rattle.paper.specs.declared.Rule.{Rule}
use Rattle.paper.specs.declared.UnitdataRequest.{UnitdataRequest}
use Rattle.paper.proofs.Fair.{asks, Faulty, unknown_ppa, unknown_mode, managed, automatic, not_allowed, typed, listened_for, connect_qos, not_seven, too_early, too_late, odd}
use Rattle.paper.proofs.Fair.{not_open, accept_qos, others_open, of_none, not_idle, other_ppa, connectionless, denial_not_open, not_zero}
use Rattle.paper.proofs.Fair.{other_form, sent_early, sent_late, not_bindable, Judged, fails, serves, judged_fairly}
use Rattle.paper.proofs.Walk.{Replied, failing, serving}
use Rattle.table_image.specs.Layout.{table_of, sound_image}
use Rattle.promises.specs.Answers.{errors_told, complaint_to, complaint_bytes, Complete, has_row}
use Rattle.promises.specs.Harness.{Lending, left_on, came_back}
use Rattle.promises.specs.History.{Answered}
use Rattle.promises.proofs.Demand2.{call-passed, call_gets_out_state, errors_of_the_call}
use Rattle.promises.proofs.Harness.{outcome, sound-call}
use Rattle.promises.proofs.Verdicts.{errors_by, answer_tells}
use Rattle.paper.specs.declared.Service.{Service}
use Rattle.paper.specs.declared.StateRow.{StateRow}

-- rule w is answered as a message that asks this is
abbrev Fit : Result Request Rule → Rule → Type 0
Fit a w = complaint_of w ≡ complaint_to a (error_of w)

-- ---- step 1: another code than a served request's, or L under the size

abbrev WrongFits : Result Request Rule → Type 0
WrongFits (Err w) = Fit (Err w) w
WrongFits (Ok q) = 0 ≤ 0

module _ (m : List ℕ) where
  of_size : (n : ℕ) (q : Request) → WrongFits (sized n m q)
  unfolding sized
  of_size n q = chosen WrongFits _ _ _ (λ _. refl) (λ _. omega arith)

  wrong_as : (p : Primitive) → WrongFits (read_as p m)
  wrong_as primitive.Info = of_size 4 request.Info
  wrong_as primitive.Attach = of_size 8 (request.Attach _)
  wrong_as primitive.Detach = of_size 4 request.Detach
  wrong_as primitive.Bind = of_size 20 (request.Bind _)
  wrong_as primitive.Unbind = of_size 4 request.Unbind
  wrong_as primitive.Connect = of_size 24 (request.Connect _)
  wrong_as primitive.ConnectRes = of_size 24 (request.ConnectRes _)
  wrong_as primitive.Token = of_size 4 request.Token
  wrong_as primitive.Disconnect = of_size 12 (request.Disconnect _)
  wrong_as primitive.Reset = of_size 4 request.Reset
  wrong_as primitive.ResetRes = of_size 4 request.ResetRes
  wrong_as primitive.Unitdata = of_size 20 (request.Unitdata _)
  wrong_as primitive.NotSupported = refl
  wrong_as primitive.NotServed = refl

  wrong_fits : WrongFits (asked_by m)
  unfolding asked_by
  wrong_fits = wrong_as (primitive_of (code_in m))

-- ---- step 2: no row

rowless_fits : (q : Request) → Fit (Ok q) (without_row q)
unfolding without_row
rowless_fits request.Info = refl
rowless_fits request.Token = refl
rowless_fits (request.Attach p) = refl
rowless_fits request.Detach = refl
rowless_fits (request.Bind b) = refl
rowless_fits request.Unbind = refl
rowless_fits (request.Connect c) = refl
rowless_fits (request.ConnectRes a) = refl
rowless_fits (request.Disconnect d) = refl
rowless_fits request.Reset = refl
rowless_fits request.ResetRes = refl
rowless_fits (request.Unitdata u) = refl

-- ---- the other steps

module _ (t : Table) (i : ℕ) (m : List ℕ) where
  faulty_fits : {q : Request} {w : Rule} → Faulty t i q w → Fit (Ok q) w
  faulty_fits (unknown_ppa h) = refl
  faulty_fits (unknown_mode h) = refl
  faulty_fits (managed h) = refl
  faulty_fits (automatic h) = refl
  faulty_fits (not_allowed h) = refl
  faulty_fits (typed h) = refl
  faulty_fits (listened_for h) = refl
  faulty_fits (connect_qos h) = refl
  faulty_fits (not_seven h) = refl
  faulty_fits (too_early h) = refl
  faulty_fits (too_late h) = refl
  faulty_fits (odd h) = refl
  faulty_fits (not_open h) = refl
  faulty_fits (accept_qos h n) = refl
  faulty_fits (others_open f n) = refl
  faulty_fits (of_none f) = refl
  faulty_fits (not_idle f n) = refl
  faulty_fits (other_ppa f n p) = refl
  faulty_fits (connectionless f n e) = refl
  faulty_fits (denial_not_open e h) = refl
  faulty_fits (not_zero e h) = refl
  faulty_fits (other_form h) = refl
  faulty_fits (sent_early h) = refl
  faulty_fits (sent_late h) = refl
  faulty_fits (not_bindable h) = refl

  -- ---- all of them, on message m

  abbrev FailFits : Result Request Rule → Result Service Rule → Type 0
  FailFits a (Ok v) = 0 ≤ 0
  FailFits a (Err w) = Fit a w

  judged_fits : {q : Request} {c : ℕ} {v : Result Service Rule} → Judged t i m q c v → FailFits (Ok q) v
  judged_fits (serves f) = omega arith
  judged_fits (fails f) = faulty_fits f

  verdict-fits : (a : Result Request Rule) → asked_by m ≡ a → WrongFits a → FailFits a (verdict_on state_rows t i m a)
  verdict-fits (Err w) e h = h
  verdict-fits (Ok q) e h = go (found state_rows (stream t i) (request_asks q).cause)
    where
      go : (f : Option StateRow) → FailFits (Ok q) (verdict_by (sight_by t i f (request_asks q).question) (Ok q) f)
      go None = rowless_fits q
      go (Some x) = judged_fits (judged_fairly t i m x q (asks m e))

  -- what is then written
  bytes_of : (code : ℕ) (x : Complaint) → all_bytes (up i (reply_by code x) [] ∷ []) ≡ complaint_bytes i code x
  unfolding content_of
  bytes_of code (error_ack error) = refl
  bytes_of code (uderror_ind error) = refl

  answer-bytes : {r : List ℕ} (a : Result Request Rule) {o : Outcome} {error : ℕ} → FailFits a (verdict_on state_rows t i m a) → Replied state_rows t i m r a o
      → errors_by (verdict_on state_rows t i m a) ≡ error ∷ [] → all_bytes o.records ≡ complaint_bytes i (code_in m) (complaint_to a error)
  answer-bytes a {error = error} f (failing {w = w} v) h =
      let k : error_of w ∷ [] ≡ error ∷ [] = ap errors_by (sym v) ∙ h in
      let z : error_of w ≡ error = cc in
      bytes_of (code_in m) (complaint_of w) ∙ ap (complaint_bytes i (code_in m)) (subst (FailFits a) v f ∙ ap (complaint_to a) z)
  answer-bytes a f (serving v h g) k = absurd (omega (arith, ap length (ap errors_by (sym v) ∙ k)))

-- A message that is not refused and tells an error is answered with ERROR_ACK, or a datagram of full size with UDERROR_IND, and nothing
-- else is written.
pub call_complains : (img : List ℕ) (c : Lending) (i l n error : ℕ) → sound_image img ≡ true → input_of c.bytes ≡ input.Message i l n
    → (came_back c (left_on img c)).refusal ≡ 0 → errors_told (came_back c (left_on img c)).written ≡ error ∷ []
    → (came_back c (left_on img c)).written ≡ complaint_bytes i (code_in (message_in c.bytes l)) (complaint_to (asked_by (message_in c.bytes l)) error)
call_complains img c i l n error s e z h =
    let m : List ℕ = message_in c.bytes l in
    let a : Replied state_rows (table_of img) i m c.bytes (asked_by m) (outcome (table_of img) c) = (call-passed img c i l n s e z).answer in
    ap (λ (a : Answered). a.written) (sound-call img s c).answer
    ∙ answer-bytes (table_of img) i m (asked_by m) (verdict-fits (table_of img) i m (asked_by m) refl (wrong_fits m)) a
    (sym (answer_tells state_rows (table_of img) a) ∙ sym (errors_of_the_call img c s) ∙ h)

-- So a complete datagram gets UDERROR_IND with OUTSTATE exactly if the state table has no row for it.
pub datagram_gets_out_state : (img : List ℕ) (c : Lending) (i : ℕ) (u : UnitdataRequest) → sound_image img ≡ true
    → Complete (table_of img) c.bytes (length c.room) i (request.Unitdata u)
    → has out_state (errors_told (came_back c (left_on img c)).written) ≡ not (has_row state_rows (stream (table_of img) i) (request.Unitdata u))
datagram_gets_out_state img c i u e m =
    call_gets_out_state img c i (request.Unitdata u) e m ∙ either-false (not (has_row state_rows (stream (table_of img) i) (request.Unitdata u)))
