-- The smaller of two numbers is found by one test.
use borrow.Author.Tests.{eq-eqb, ne_eqb}
use Prim.Native.Nat.{◌≤◌}
use native.Mathlib.Nat.{min-eq_left, min-eq_right}
use native.Mathlib.Omega.{arith}
use Rattle.paper.specs.Saps.{most_open, grant_of}
use Rattle.paper_rules.proofs.saps.grant_of.Goals as goal

pub returns-then-mode-eq2 : goal.returns-then-mode-eq2
unfolding grant_of
returns-then-mode-eq2 c = simp (eq-eqb _ _ c.if-mode-eq2.true)

pub returns-then-most : goal.returns-then-most
unfolding grant_of
returns-then-most c = let h : c.args.most ≤ most_open = omega (arith, c.if-most.true) in simp (ne_eqb _ _ c.if-mode-eq2.false, min-eq_left h)

pub returns : goal.returns
unfolding grant_of
returns c = simp (ne_eqb _ _ c.if-mode-eq2.false, min-eq_right c.if-most.false)
