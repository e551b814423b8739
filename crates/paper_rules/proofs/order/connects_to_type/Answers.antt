-- The two tests are the paper's, in its order.
use borrow.Author.Tests.{eq-eqb, ne_eqb}
use Rattle.paper_rules.proofs.order.connects_to_type.Goals as goal

pub returns-then-b-eq1 : goal.returns-then-b-eq1
returns-then-b-eq1 c = simp (eq-eqb _ _ c.if-b-eq1.true) c.is_type.ensures

pub returns-else-b-eq1 : goal.returns-else-b-eq1
returns-else-b-eq1 c = simp (ne_eqb _ _ c.if-b-eq1.false)
