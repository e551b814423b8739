-- The states with a connection are 8 and those from 11 on: computed for each of the eight states.
use Prim.Native.Nat.{ℕ}
use lib.Dec.{eqb}
use borrow.Author.Tests.{eq-eqb, ne_eqb}
use mathlib.Core.Path.{sym, ap, ◌∙◌}
use Rattle.paper.proofs.StateNumbers.{calling_from}
use Rattle.paper.proofs.State.is_calling.Goals as goal

pub returns-then-number-eq8 : goal.returns-then-number-eq8
returns-then-number-eq8 c = rw (calling_from c.args.self) (simp (← c.number.ensures, eq-eqb _ _ c.if-number-eq8.true))

pub returns-else-number-eq8 : goal.returns-else-number-eq8
returns-else-number-eq8 c =
    rw (
      calling_from c.args.self,
      ap (λ (n : ℕ). eqb n 8) (sym c.number.ensures) ∙ ne_eqb _ _ c.if-number-eq8.false,
    ) c.is_joined.ensures
