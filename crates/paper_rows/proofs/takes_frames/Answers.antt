-- The list has one row for frames, which is found by its state and its mode.
use Prim.Native.Nat.{ℕ}
use mathlib.Core.Path.{◌≡◌}
use mathlib.Core.List.{[], ◌∷◌}
use lib.Dec.{eqb}
use borrow.Author.Tests.{ne_eqb}
use Rattle.ledger.proofs.Tallies.{by_same, differs}
use Rattle.paper.specs.StateRows.{frame_arrives, seat, stays, found_in, found, is_found}
use Rattle.paper_rows.proofs.takes_frames.Goals as goal

in_six : (mode : ℕ) → eqb mode 2 ≡ is_found (found_in (stays frame_arrives (seat 6 2) ∷ []) 6 mode frame_arrives)
in_six mode = by_same mode 2 (λ e. simp e) (λ e. simp (ne_eqb _ _ e, differs 2 _ e))

pub returns-then-number-eq6 : goal.returns-then-number-eq6
unfolding found
returns-then-number-eq6 c =
    rw (← c.number.ensures, c.if-number-eq6.true) (in_six c.args.s.mode)

pub returns-else-number-eq6 : goal.returns-else-number-eq6
unfolding found
returns-else-number-eq6 c = simp (← c.number.ensures, ne_eqb _ _ c.if-number-eq6.false, differs 6 _ c.if-number-eq6.false)
