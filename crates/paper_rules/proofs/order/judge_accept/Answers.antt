-- The number is tested first and the QOS next, as in step 6; what is left is the carrier's.
use borrow.Author.Tests.{eq-eqb, ne_eqb}
use Rattle.ledger.specs.Choice.{◌⇒◌∣◌}
use Rattle.paper.specs.ErrorOrder.{judge_accept}
use Rattle.paper_rules.proofs.order.judge_accept.Goals as goal

pub returns-then-not-is_open : goal.returns-then-not-is_open
unfolding judge_accept ◌⇒◌∣◌
returns-then-not-is_open c = simp c.if-not-is_open.true

pub returns-then-a-ne0 : goal.returns-then-a-ne0
unfolding judge_accept ◌⇒◌∣◌
returns-then-a-ne0 c = simp (c.if-not-is_open.false, ne_eqb _ _ c.if-a-ne0.true)

pub returns : goal.returns
unfolding judge_accept ◌⇒◌∣◌
returns c = simp (c.if-not-is_open.false, eq-eqb _ _ c.if-a-ne0.false) c.judge_carrier.ensures
