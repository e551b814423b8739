-- A list of one row is found by the test of that row.
use borrow.Author.Tests.{eq-eqb, ne_eqb}
use mathlib.Core.Path.{refl}
use Rattle.paper_rows.proofs.row_in.Goals as goal

pub returns-then-x-state : goal.returns-then-x-state
returns-then-x-state c = simp (eq-eqb c.args.x.cause _ refl, ne_eqb _ _ c.if-x-state.true)

pub returns-then-x-mode : goal.returns-then-x-mode
returns-then-x-mode c = simp (eq-eqb c.args.x.cause _ refl, eq-eqb _ _ c.if-x-state.false, ne_eqb _ _ c.if-x-mode.true)

pub returns : goal.returns
returns c = simp (eq-eqb c.args.x.cause _ refl, eq-eqb _ _ c.if-x-state.false, eq-eqb _ _ c.if-x-mode.false)
