-- Step 3 is one test: whether the PPA is known.
use Rattle.ledger.specs.Choice.{◌⇒◌∣◌}
use Rattle.paper.specs.ErrorOrder.{judge_attach}
use Rattle.paper_rules.proofs.order.judge_attach.Goals as goal

pub returns-then-not-known : goal.returns-then-not-known
unfolding judge_attach ◌⇒◌∣◌
returns-then-not-known c = simp c.if-not-known.true

pub returns : goal.returns
unfolding judge_attach ◌⇒◌∣◌
returns c = simp c.if-not-known.false
