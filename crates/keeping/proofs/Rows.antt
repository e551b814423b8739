-- The row that a stream has for what comes passes each test that the list passes, and is one for that stream: so a test of it is a
-- test of the stream, and of where the row leads.
use Rattle.std.proofs.Common.{Some}
use Prim.Native.Nat.{ℕ}
use mathlib.Core.Path.{◌≡◌, refl, ap}
use mathlib.Core.Bool.{Bool, true, false, not}
use mathlib.Core.List.{List}
use lib.Dec.{eqb}
use borrow.Author.Tests.{eqb-true, not-true}
use Rattle.ledger.specs.Choice.{both, asks, ◌⇒◌∣◌}
use Rattle.ledger.specs.Tally.{has, all_of}
use Rattle.ledger.proofs.Tallies.{both_of}
use Rattle.ledger.proofs.Sums.{of-asks}
use Rattle.paper.specs.Base.{number_of, state_of, number, is_in, bound_states, connection_states}
use Rattle.paper.specs.StateRows.{state_rows, found}
use Rattle.paper.proofs.RowFound.{row-cause, row_from, row-mode, has_all}
use Rattle.paper.specs.declared.State.{State}
use Rattle.paper.specs.declared.Stream.{Stream}
use Rattle.paper.specs.declared.StateRow.{StateRow}
use Rattle.keeping.specs.RowsFit.{holds_for, may_lead, RowsFit}
use Rattle.keeping.proofs.Changes.{Fits}

-- The paper's rows pass.
pub state_rows_fit : RowsFit state_rows
unfolding state_of ◌⇒◌∣◌
state_rows_fit = record { staying = refl; moving = refl; disconnecting = refl; attaching = refl; binding = refl; taking = refl; losing = refl }

-- a stream's row for c, with the stream's own state and mode in it
abbrev pub row_of : Stream → ℕ → StateRow → StateRow
row_of s c x = record { from = number s; mode = s.mode; cause = c; to = x.to; last = x.last }

pub passes : (rows : List StateRow) (s : Stream) (c : ℕ) {x : StateRow} → found rows s c ≡ Some x → (p : StateRow → Bool) → all_of p rows ≡ true → p (row_of s c x) ≡ true
passes rows s c {x} h p a = at c (number s) s.mode (row-cause rows s c h) (row_from rows s c h) (row-mode rows s c h) (has_all rows s c h p a)
  where
    at : (c n m : ℕ) → x.cause ≡ c → x.from ≡ n → x.mode ≡ m → p x ≡ true → p (record { from = n; mode = m; cause = c; to = x.to; last = x.last }) ≡ true
    at c n m e f g h = rw (← e, ← f, ← g) h

-- ---- what the tests say of a stream and the state that it goes to

holds_fits : (s : Stream) (q : State) → holds_for (number s) s.mode (number_of q) ≡ true → Fits s q
holds_fits s q h =
    let n : ℕ = number_of q in
    let a : (asks (not (eqb n 0)) (not (is_in 0 s)) ≡ true) × (both (asks (has n bound_states) (has (number s) bound_states)) (asks (has n connection_states) (eqb s.mode 1)) ≡ true) = both_of _ _ h in
    let b : (asks (has n bound_states) (has (number s) bound_states) ≡ true) × (asks (has n connection_states) (eqb s.mode 1) ≡ true) = both_of _ _ a.1 in
    record { attached = λ e. not-true _ (of-asks _ _ a.0 (ap not e)); bound = λ e. of-asks _ _ b.0 e; connected = λ e. eqb-true _ _ (of-asks _ _ b.1 e) }

pub record Moves (s : Stream) (q : State) : Type 0 where
  pub quiet : is_in 9 s ≡ false
  pub calm : eqb (number_of q) 9 ≡ false
  pub fits : Fits s q

pub leads_moves : (s : Stream) (q : State) → may_lead (number s) s.mode (number_of q) ≡ true → Moves s q
leads_moves s q h =
    let n : ℕ = number_of q in
    let a : (not (is_in 9 s) ≡ true) × (both (not (eqb n 9)) (holds_for (number s) s.mode n) ≡ true) = both_of _ _ h in
    let b : (not (eqb n 9) ≡ true) × (holds_for (number s) s.mode n ≡ true) = both_of _ _ a.1 in
    record { quiet = not-true _ a.0; calm = not-true _ b.0; fits = holds_fits s q b.1 }
