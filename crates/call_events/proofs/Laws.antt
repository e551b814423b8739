-- What the line brings is decided by the row by which it may come: by none it is refused, else it does what that row says.
use Rattle.std.proofs.Common.{None, Ok, Option, Some}
use Prim.Native.Nat.{ℕ, ◌<◌, ◌≤◌}
use native.Mathlib.Omega.{arith}
use mathlib.Core.Path.{◌≡◌, refl, sym, ap, ◌∙◌}
use mathlib.Core.Bool.{Bool, true, false, false≢true}
use mathlib.Core.List.{List}
use lib.ListN.{length}
use borrow.Author.Tests.{ltb-true}
use Rattle.ledger.specs.Choice.{◌⇒◌∣◌}
use Rattle.paper.specs.Base.{Table, slot, stream, waiting}
use Rattle.paper.specs.Refusals.{Outcome, not_a_record, refused}
use Rattle.paper.specs.StateRows.{state_rows, found, is_found}
use Rattle.paper.specs.Sight.{nothing, brings, letter_of, answer_to, sight_by}
use Rattle.paper.specs.Effects.{event_effect}
use Rattle.paper.specs.Decide.{is_due, decide_by}
use Rattle.paper.specs.Step.{conclude, comes, serve_by}
use Rattle.paper.specs.declared.PpaNumber.{PpaNumber}
use Rattle.paper.specs.declared.Correlation.{Correlation}
use Rattle.paper.specs.declared.Input.{Input}
use Rattle.paper.specs.declared.Input.TheVariants as input
use Rattle.paper.specs.declared.Stream.{Stream}
use Rattle.paper.specs.declared.StateRow.{StateRow}
use Rattle.paper.specs.declared.Event.{Event}
use Rattle.paper.specs.declared.Event.TheVariants as event
use Rattle.paper.specs.declared.Effect.{Effect}
use Rattle.call_outcomes.specs.Takes.{takes}
use Rattle.call_outcomes.specs.Deciding.{outcome_of}
use Rattle.call_outcomes.specs.Deciding as deciding
use Rattle.call_events.specs.DueRow.{due_row}
use Rattle.call_events.specs.Bringing.{is_of_line}
use Rattle.paper.specs.Saps.{most_open}

module _ (t : Table) (i : ℕ) (r : List ℕ) (refusal : ℕ) (e : Event) where
  -- an effect of what the line brings: it names no stream that would carry
  abbrev doing : Effect → Outcome
  doing w = outcome_of t r (Ok (deciding.doing i i w))

  abbrev by : Option StateRow → Outcome
  by None = refused t refusal
  by (Some x) = doing (event_effect x (stream t i) e)

  by_due-row : by (due_row t i e) ≡ comes state_rows t i r (brings refusal e)
  unfolding comes conclude decide_by answer_to ◌⇒◌∣◌
  by_due-row = go (is_due (slot t i) e) refl (found state_rows (stream t i) (letter_of e))
    where
      go : (b : Bool) → is_due (slot t i) e ≡ b → (f : Option StateRow)
          → by (b ⇒ f ∣ None) ≡ conclude t i r (sight_by t i f nothing) (decide_by (sight_by t i f nothing) (brings refusal e) f)
      go true p None = refl
      go false p None = refl
      go true p (Some x) = rw p
      go false p (Some x) = rw p

  module _ (f : Option StateRow) (d : f ≡ due_row t i e) where
    pub no_row : f ≡ None → refused t refusal ≡ comes state_rows t i r (brings refusal e)
    no_row h = ap by (sym h ∙ d) ∙ by_due-row

    pub by_row : (x : StateRow) (s : Stream) (w : Effect) → f ≡ Some x → s ≡ stream t i → w ≡ event_effect x s e
        → doing w ≡ comes state_rows t i r (brings refusal e)
    by_row x s w h es z = ap doing (z ∙ ap (λ (s : Stream). event_effect x s e) es) ∙ ap by (sym h ∙ d) ∙ by_due-row

-- ---- an indication that is due finds a place; no other event takes one

due : (t : Table) (i : ℕ) (e : Event) (x : StateRow) → due_row t i e ≡ Some x → is_due (slot t i) e ≡ true
unfolding ◌⇒◌∣◌
due t i e x h = go (is_due (slot t i) e) h
  where
    go : (b : Bool) → (b ⇒ found state_rows (stream t i) (letter_of e) ∣ None) ≡ Some x → b ≡ true
    go true h = refl
    go false h = absurd (false≢true (ap is_found h))

has-place : (t : Table) (i : ℕ) (x : StateRow) (s : Stream) (e : Event) → is_due (slot t i) e ≡ true → (stream t i).granted ≤ most_open
    → takes (event_effect x s e).change ≡ true → length (waiting t i) < most_open
unfolding event_effect
has-place t i x s (event.Arrives n) d g h = omega (arith, ltb-true (length (waiting t i)) (stream t i).granted d)
has-place t i x s event.Accepted d g h = absurd (false≢true h)
has-place t i x s (event.Gone reason) d g h = absurd (false≢true h)
has-place t i x s (event.Withdrawn n reason) d g h = absurd (false≢true h)
has-place t i x s (event.Resets reason) d g h = absurd (false≢true h)
has-place t i x s event.Confirmed d g h = absurd (false≢true h)

pub place : (t : Table) (i : ℕ) (e : Event) (f : Option StateRow) (x : StateRow) (s : Stream) (w : Effect) → f ≡ due_row t i e → f ≡ Some x → w ≡ event_effect x s e
    → (stream t i).granted ≤ most_open → takes w.change ≡ true → length (waiting t i) < most_open
place t i e f x s w d h z g k = has-place t i x s e (due t i e x (sym d ∙ h)) g (ap (λ (w : Effect). takes w.change) (sym z) ∙ k)

-- ---- of the records that bring no event, those that are not the line's are ruled out, and the others cannot be read

pub not-read : (t : Table) (r : List ℕ) (q : Input) → ((p : PpaNumber) (sap : ℕ) → q ≡ input.CallArrives p sap → ⊥)
    → ((i : ℕ) → q ≡ input.PeerAccepted i → ⊥)
    → ((i : ℕ) (reason : ℕ) → q ≡ input.PeerGone i reason → ⊥)
    → ((i : ℕ) (n : Correlation) (reason : ℕ) → q ≡ input.CallWithdrawn i n reason → ⊥)
    → ((i : ℕ) (reason : ℕ) → q ≡ input.PeerReset i reason → ⊥)
    → ((i : ℕ) → q ≡ input.ResetConfirmed i → ⊥) → is_of_line q ≡ true → refused t not_a_record ≡ serve_by state_rows t r q
not-read t r input.Unreadable n1 n2 n3 n4 n5 n6 h = refl
not-read t r input.Malformed n1 n2 n3 n4 n5 n6 h = refl
not-read t r (input.AddPpa p) n1 n2 n3 n4 n5 n6 h = absurd (false≢true h)
not-read t r input.Open n1 n2 n3 n4 n5 n6 h = absurd (false≢true h)
not-read t r (input.Close i) n1 n2 n3 n4 n5 n6 h = absurd (false≢true h)
not-read t r (input.Message i l n) n1 n2 n3 n4 n5 n6 h = absurd (false≢true h)
not-read t r (input.CallArrives p sap) n1 n2 n3 n4 n5 n6 h = absurd (n1 p sap refl)
not-read t r (input.PeerAccepted i) n1 n2 n3 n4 n5 n6 h = absurd (n2 i refl)
not-read t r (input.PeerGone i reason) n1 n2 n3 n4 n5 n6 h = absurd (n3 i reason refl)
not-read t r (input.CallWithdrawn i n reason) n1 n2 n3 n4 n5 n6 h = absurd (n4 i n reason refl)
not-read t r (input.PeerReset i reason) n1 n2 n3 n4 n5 n6 h = absurd (n5 i reason refl)
not-read t r (input.ResetConfirmed i) n1 n2 n3 n4 n5 n6 h = absurd (n6 i refl)
not-read t r (input.Frame f) n1 n2 n3 n4 n5 n6 h = absurd (false≢true h)
