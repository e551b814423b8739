-- The three tests are the paper's, in its order.
use borrow.Author.Tests.{lt-ltb, le-ltb, eq-eqb, ne_eqb}
use Rattle.paper_rules.proofs.order.listens_too.Goals as goal

pub returns-then-b-ne1 : goal.returns-then-b-ne1
returns-then-b-ne1 c = simp (ne_eqb _ _ c.if-b-ne1.true)

pub returns-then-b-gt0 : goal.returns-then-b-gt0
returns-then-b-gt0 c = simp (eq-eqb _ _ c.if-b-ne1.false, lt-ltb _ _ c.if-b-gt0.true)

pub returns-else-b-gt0 : goal.returns-else-b-gt0
returns-else-b-gt0 c = simp (eq-eqb _ _ c.if-b-ne1.false, le-ltb _ _ c.if-b-gt0.false)
