-- A denial is one test: whether the number is open here.
use Rattle.ledger.specs.Choice.{◌⇒◌∣◌}
use Rattle.paper.specs.ErrorOrder.{judge_denial}
use Rattle.paper_rules.proofs.order.judge_denial.Goals as goal

pub returns-then-not-is_open : goal.returns-then-not-is_open
unfolding judge_denial ◌⇒◌∣◌
returns-then-not-is_open c = simp c.if-not-is_open.true

pub returns : goal.returns
unfolding judge_denial ◌⇒◌∣◌
returns c = simp c.if-not-is_open.false
