-- Demand 2's two sentences on answers, of the call for C: on a sound image the errors that the bytes written tell are those of the
-- records of `step`, and on any other nothing is written.
use Rattle.std.proofs.Common.{Err, Ok, Result}
use Prim.Native.Nat.{ℕ, ◌≤◌, ◌<◌}
use mathlib.Core.Path.{◌≡◌, refl, sym, ap, subst, ◌∙◌}
use mathlib.Core.Bool.{Bool, true, false, not}
use mathlib.Core.List.{List, [], ◌∷◌}
use lib.ListN.{length}
use native.Mathlib.Omega.{arith}
use Rattle.ledger.specs.Choice.{either}
use Rattle.ledger.specs.Tally.{has}
use Rattle.paper.specs.Base.{Table, stream}
use Rattle.paper.specs.ErrorCodes.{error_of, out_state}
use Rattle.paper.specs.Messages.{asked_by}
use Rattle.paper.specs.RecordsIn.{input_of, message_in}
use Rattle.paper.specs.Refusals.{Outcome}
use Rattle.paper.specs.Sound.{sound}
use Rattle.paper.specs.StateRows.{state_rows}
use Rattle.paper.specs.Step.{serve_by, step}
use Rattle.paper.specs.Room.{room_size, room_for}
use Rattle.paper.specs.declared.Input.{Input}
use Rattle.paper.specs.declared.Input.TheVariants as input
use Rattle.paper.specs.declared.Request.{Request}
use Rattle.paper.specs.declared.Rule.{Rule}
use Rattle.paper.specs.declared.Service.{Service}
use Rattle.paper.proofs.Walk.{Replied, Sent, Way, refusing, answering, bringing, walk, step_by_lem}
use Rattle.paper.proofs.Effects.{errors_in}
use Rattle.table_image.specs.Layout.{table_of, sound_image}
use Rattle.call_outcomes.specs.Leaving.{Left}
use Rattle.call_outcomes.proofs.Laws.{unsound_gives_sixteen}
use Rattle.promises.specs.Answers.{errors_told, Complete, verdict_of, has_row, offers_busy}
use Rattle.promises.specs.Harness.{Lending, left_on, came_back}
use Rattle.promises.specs.History.{Answered}
use Rattle.promises.proofs.Demand1.{refusal-is_the_papers}
use Rattle.promises.proofs.ErrorAck.{error_leaves_image}
use Rattle.promises.proofs.Harness.{outcome, sound-call}
use Rattle.keeping.proofs.Images.{table-sound}
use Rattle.promises.proofs.OutState.{gets_out_state}
use Rattle.keeping.proofs.Tested.{sound_test}
use Rattle.promises.proofs.Verdicts.{errors_by, answer_tells}
use Rattle.promises.proofs.Whole.{told-step}

pub errors_of_the_call : (img : List ℕ) (c : Lending) → sound_image img ≡ true
    → errors_told (came_back c (left_on img c)).written ≡ errors_in (outcome (table_of img) c).records
errors_of_the_call img c e =
    ap (λ (a : Answered). errors_told a.written) (sound-call img e c).answer ∙ told-step (table_of img) (table-sound img e) c.bytes (length c.room)

-- A message that is not refused was sent to an open stream, has 4 to 96 bytes, at most 64 of data, and had room; and is answered as what
-- it asks.
pub record Passed (t : Table) (r : List ℕ) (room i l n : ℕ) (o : Outcome) : Type 0 where
  pub sent : Sent t i l n
  pub roomy : room_size ≤ room
  pub answer : Replied state_rows t i (message_in r l) r (asked_by (message_in r l)) o

module _ (t : Table) (r : List ℕ) (room i l n : ℕ) where
  served-passed : room_size ≤ room → {o : Outcome} → Way state_rows t r (input.Message i l n) o → o.refusal ≡ 0 → Passed t r room i l n o
  served-passed b (refusing some few) z = absurd (omega (arith, some, z))
  served-passed b {o} (answering s e a) z = record {
    sent = s;
    roomy = b;
    answer = subst (λ (w : Result Request Rule). Replied state_rows t i (message_in r l) r w o) (sym e) a;
  }
  served-passed b (bringing {e = e} y _ _) z = elim y [ ]

  step-passed : sound t ≡ true → input_of r ≡ input.Message i l n → (step t r room).refusal ≡ 0 → Passed t r room i l n (step t r room)
  step-passed k e =
      step_by_lem state_rows t r room (λ (o : Outcome). o.refusal ≡ 0 → Passed t r room i l n o) k (λ n some few z. absurd (omega (arith, some, z)))
      (λ _ b. served-passed (omega (arith, b, ap room_for e)) (subst (λ (q : Input). Way state_rows t r q (serve_by state_rows t r (input_of r))) e (walk state_rows t r (input_of r))))

pub call-passed : (img : List ℕ) (c : Lending) (i l n : ℕ) → sound_image img ≡ true → input_of c.bytes ≡ input.Message i l n → (came_back c (left_on img c)).refusal ≡ 0
    → Passed (table_of img) c.bytes (length c.room) i l n (outcome (table_of img) c)
call-passed img c i l n s e z =
    step-passed (table_of img) c.bytes (length c.room) i l n (sound_test (table_of img) (table-sound img s)) e (sym (refusal-is_the_papers img c.bytes c.room s) ∙ z)

-- A message of a code that we serve, of its full size, is complete where it is not refused.
pub complete_by : (img : List ℕ) (c : Lending) (i l n : ℕ) (q : Request) → sound_image img ≡ true → input_of c.bytes ≡ input.Message i l n
    → asked_by (message_in c.bytes l) ≡ Ok q
    → (came_back c (left_on img c)).refusal ≡ 0 → Complete (table_of img) c.bytes (length c.room) i q
complete_by img c i l n q s e a z =
    let p : Passed (table_of img) c.bytes (length c.room) i l n (outcome (table_of img) c) = call-passed img c i l n s e z in
    record { size = l; data_length = n; read = e; is_open = p.sent.is_open; coded = p.sent.coded; whole = p.sent.whole; few = p.sent.few; roomy = p.roomy; asks = a }

-- ---- what a message tells: the error of its verdict

message_tells : (img : List ℕ) (c : Lending) (i l n : ℕ) → sound_image img ≡ true → input_of c.bytes ≡ input.Message i l n → (came_back c (left_on img c)).refusal ≡ 0
    → errors_told (came_back c (left_on img c)).written ≡ errors_by (verdict_of state_rows (table_of img) i (message_in c.bytes l))
message_tells img c i l n s e z = errors_of_the_call img c s ∙ answer_tells state_rows (table_of img) (call-passed img c i l n s e z).answer

-- A message that is not refused tells the error of the first rule that applies, in the paper's order, and nothing else;
pub rule_tells : (img : List ℕ) (c : Lending) (i l n : ℕ) (a : Rule) → sound_image img ≡ true → input_of c.bytes ≡ input.Message i l n → (came_back c (left_on img c)).refusal ≡ 0
    → verdict_of state_rows (table_of img) i (message_in c.bytes l) ≡ Err a → errors_told (came_back c (left_on img c)).written ≡ error_of a ∷ []
rule_tells img c i l n a s e z v = message_tells img c i l n s e z ∙ ap errors_by v

-- where none applies it tells none.
pub row_tells_none : (img : List ℕ) (c : Lending) (i l n : ℕ) (a : Service) → sound_image img ≡ true → input_of c.bytes ≡ input.Message i l n → (came_back c (left_on img c)).refusal ≡ 0
    → verdict_of state_rows (table_of img) i (message_in c.bytes l) ≡ Ok a → errors_told (came_back c (left_on img c)).written ≡ []
row_tells_none img c i l n a s e z v = message_tells img c i l n s e z ∙ ap errors_by v

-- "A complete message that we serve gets DL_OUTSTATE exactly if the paper's state table has no row for it, or if an
-- accept, with no earlier error in the paper's order, offers another stream that isn't idle."
pub call_gets_out_state : (img : List ℕ) (c : Lending) (i : ℕ) (q : Request) → sound_image img ≡ true → Complete (table_of img) c.bytes (length c.room) i q
    → has out_state (errors_told (came_back c (left_on img c)).written) ≡ either (not (has_row state_rows (stream (table_of img) i) q)) (offers_busy (table_of img) i q)
call_gets_out_state img c i q e m = ap (has out_state) (errors_of_the_call img c e) ∙ gets_out_state (table_of img) (sound_test (table_of img) (table-sound img e)) c.bytes (length c.room) i q m

-- "A message answered with DL_ERROR_ACK changes no stream", nor any byte of the image, whatever image is lent; nor does a datagram
-- answered with DL_UDERROR_IND.
pub call_error_leaves_image : (img : List ℕ) (c : Lending) → 0 < length (errors_told (came_back c (left_on img c)).written) → (left_on img c).image ≡ img
call_error_leaves_image img c h = go (sound_image img) refl
  where
    go : (b : Bool) → sound_image img ≡ b → (left_on img c).image ≡ img
    go true e = error_leaves_image img c.bytes c.room (omega (arith, h, ap length (errors_of_the_call img c e)))
    go false e = ap (λ (l : Left). l.image) (unsound_gives_sixteen img c.bytes c.room e)
