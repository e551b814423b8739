-- Demand 2: "A complete message that we serve gets DL_OUTSTATE exactly if the paper's state table has no row for it, or if an accept, with
-- no earlier error in the paper's order, offers another stream that isn't idle." Of the rules only these have that error: no row, of a
-- datagram or of any other message, and a carrier that isn't idle.
use Rattle.std.proofs.Common.{None, Ok, Option, Result, Some}
use Prim.Native.Nat.{ℕ}
use mathlib.Core.Path.{◌≡◌, refl, sym, ap, ◌∙◌}
use mathlib.Core.Bool.{true, false, not}
use mathlib.Core.List.{List, [], ◌∷◌}
use borrow.Author.Tests.{eq-eqb}
use Rattle.ledger.specs.Choice.{either}
use Rattle.ledger.specs.Tally.{has}
use Rattle.paper.specs.Base.{Table, stream}
use Rattle.paper.specs.ErrorCodes.{error_of, out_state}
use Rattle.paper.specs.ErrorOrder.{without_row, verdict_by, verdict_on}
use Rattle.paper.specs.RecordsIn.{message_in}
use Rattle.paper.specs.Sight.{request_asks, sight_by}
use Rattle.paper.specs.Sound.{sound}
use Rattle.paper.specs.StateRows.{state_rows, found, is_found}
use Rattle.paper.specs.Step.{step}
use Rattle.paper.specs.declared.Carrier.{Carrier}
use Rattle.paper.specs.declared.ConnectResponse.{ConnectResponse}
use Rattle.paper.specs.declared.Request.{Request}
use Rattle.paper.specs.declared.Request.TheVariants as request
use Rattle.paper.specs.declared.Rule.{Rule}
use Rattle.paper.specs.declared.Service.{Service}
use Rattle.paper.specs.declared.StateRow.{StateRow}
use Rattle.paper.proofs.Fair.{Asks, asks, Fair, informs, tells_token, attaches, detaches, binds, unbinds, connects, accepts_here, accepts_on, denies, disconnects, resets}
use Rattle.paper.proofs.Fair.{answers_reset, sends_data, Offers, Faulty, unknown_ppa, unknown_mode, managed, automatic, not_allowed, typed, listened_for, connect_qos, not_seven, too_early, too_late, odd}
use Rattle.paper.proofs.Fair.{not_open, accept_qos, others_open, of_none, not_idle, other_ppa, connectionless, denial_not_open, not_zero}
use Rattle.paper.proofs.Fair.{other_form, sent_early, sent_late, not_bindable, Judged, fails, serves, judged_fairly}
use Rattle.paper.proofs.Effects.{errors_in}
use Rattle.promises.specs.Answers.{Complete, has_row, is_busy, offers_busy}
use Rattle.promises.proofs.Verdicts.{errors_by, complete_tells}

-- ---- the verdict on a request

-- with no row
rowless : (q : Request) → error_of (without_row q) ≡ out_state
unfolding without_row
rowless request.Info = refl
rowless request.Token = refl
rowless (request.Attach p) = refl
rowless request.Detach = refl
rowless (request.Bind b) = refl
rowless request.Unbind = refl
rowless (request.Connect c) = refl
rowless (request.ConnectRes a) = refl
rowless (request.Disconnect d) = refl
rowless request.Reset = refl
rowless request.ResetRes = refl
rowless (request.Unitdata u) = refl

module _ (t : Table) (i : ℕ) (m : List ℕ) where
  -- an accept with no error before its carrier is looked at offers a busy stream exactly if that carrier is one
  offered : {a : ConnectResponse} {c : Carrier} → Offers t i a c → offers_busy t i (request.ConnectRes a) ≡ is_busy c
  offered f = rw (f.number_open, eq-eqb _ 0 f.no_qos, f.names)

  -- what serves a request says no error; of the rules that fail one with a row, one says OUTSTATE
  served_says : {q : Request} {c : ℕ} {v : Service} → Fair t i m q c v → false ≡ offers_busy t i q
  served_says informs = refl
  served_says tells_token = refl
  served_says (attaches k) = refl
  served_says detaches = refl
  served_says (binds h) = refl
  served_says unbinds = refl
  served_says (connects h) = refl
  served_says (accepts_here f n) = sym (offered f)
  served_says (accepts_on f k) = sym (offered f ∙ ap not k.idle)
  served_says (denies e h) = refl
  served_says (disconnects e z) = refl
  served_says resets = refl
  served_says answers_reset = refl
  served_says (sends_data h) = refl

  rule_says : {q : Request} {w : Rule} → Faulty t i q w → has out_state (error_of w ∷ []) ≡ offers_busy t i q
  rule_says (unknown_ppa h) = refl
  rule_says (unknown_mode h) = refl
  rule_says (managed h) = refl
  rule_says (automatic h) = refl
  rule_says (not_allowed h) = refl
  rule_says (typed h) = refl
  rule_says (listened_for h) = refl
  rule_says (connect_qos h) = refl
  rule_says (not_seven h) = refl
  rule_says (too_early h) = refl
  rule_says (too_late h) = refl
  rule_says (odd h) = refl
  rule_says (not_open h) = rw h
  rule_says (accept_qos h n) = rw (h, n)
  rule_says (others_open f n) = sym (offered f)
  rule_says (of_none f) = sym (offered f)
  rule_says (not_idle f n) = sym (offered f ∙ ap not n)
  rule_says (other_ppa f n p) = sym (offered f ∙ ap not n)
  rule_says (connectionless f n e) = sym (offered f ∙ ap not n)
  rule_says (denial_not_open e h) = refl
  rule_says (not_zero e h) = refl
  rule_says (other_form h) = refl
  rule_says (sent_early h) = refl
  rule_says (sent_late h) = refl
  rule_says (not_bindable h) = refl

  judged_says : {q : Request} {c : ℕ} {v : Result Service Rule} → Judged t i m q c v → has out_state (errors_by v) ≡ offers_busy t i q
  judged_says (serves f) = served_says f
  judged_says (fails f) = rule_says f

  -- of all requests, such an accept and those with no row: the sentence, of the order of errors alone
  out_state-exactly : (rows : List StateRow) (q : Request) → Asks m q
      → has out_state (errors_by (verdict_on rows t i m (Ok q))) ≡ either (not (has_row rows (stream t i) q)) (offers_busy t i q)
  out_state-exactly rows q a = go (found rows (stream t i) (request_asks q).cause)
    where
      go : (f : Option StateRow) → has out_state (errors_by (verdict_by (sight_by t i f (request_asks q).question) (Ok q) f)) ≡ either (not (is_found f)) (offers_busy t i q)
      go None = ap (λ (n : ℕ). has out_state (n ∷ [])) (rowless q)
      go (Some x) = judged_says (judged_fairly t i m x q a)

-- ---- of a call

-- "A complete message that we serve gets DL_OUTSTATE exactly if the paper's state table has no row for it, or if an
-- accept, with no earlier error in the paper's order, offers another stream that isn't idle."
pub gets_out_state : (t : Table) → sound t ≡ true → (r : List ℕ) (room i : ℕ) (q : Request) → Complete t r room i q
    → has out_state (errors_in (step t r room).records) ≡ either (not (has_row state_rows (stream t i) q)) (offers_busy t i q)
gets_out_state t s r room i q c = ap (has out_state) (complete_tells state_rows t s r room i q c) ∙ out_state-exactly t i (message_in r c.size) state_rows q (asks (message_in r c.size) c.asks)
