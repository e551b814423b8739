-- The two modes are tested as the paper does: one is enough.
use borrow.Author.Tests.{eq-eqb, ne_eqb}
use Rattle.paper_rules.proofs.order.is_mode.Goals as goal

pub returns-then-mode-eq1 : goal.returns-then-mode-eq1
returns-then-mode-eq1 c = simp (eq-eqb _ _ c.if-mode-eq1.true)

pub returns-else-mode-eq1 : goal.returns-else-mode-eq1
returns-else-mode-eq1 c = simp (ne_eqb _ _ c.if-mode-eq1.false)
