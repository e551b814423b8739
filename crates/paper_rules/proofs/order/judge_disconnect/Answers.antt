-- The state says which rule of step 7 is asked, and each is one test.
use borrow.Author.Tests.{eq-eqb, ne_eqb}
use Rattle.ledger.specs.Choice.{◌⇒◌∣◌}
use Rattle.paper.specs.ErrorOrder.{judge_disconnect}
use Rattle.paper_rules.proofs.order.judge_disconnect.Goals as goal

pub returns-then-number-eq9 : goal.returns-then-number-eq9
unfolding judge_disconnect ◌⇒◌∣◌
returns-then-number-eq9 c = simp (← c.number.ensures, eq-eqb _ _ c.if-number-eq9.true) c.judge_denial.ensures

pub returns-then-d-ne0 : goal.returns-then-d-ne0
unfolding judge_disconnect ◌⇒◌∣◌
returns-then-d-ne0 c = simp (← c.number.ensures, ne_eqb _ _ c.if-number-eq9.false, ne_eqb _ _ c.if-d-ne0.true)

pub returns : goal.returns
unfolding judge_disconnect ◌⇒◌∣◌
returns c = simp (← c.number.ensures, ne_eqb _ _ c.if-number-eq9.false, eq-eqb _ _ c.if-d-ne0.false)
