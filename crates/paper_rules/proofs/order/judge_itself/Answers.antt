-- A stream that carries the call itself is one test: whether more than one is open.
use borrow.Author.Tests.{lt-ltb, le-ltb}
use Rattle.ledger.specs.Choice.{◌⇒◌∣◌}
use Rattle.paper.specs.ErrorOrder.{judge_itself}
use Rattle.paper_rules.proofs.order.judge_itself.Goals as goal

pub returns-then-count-gt1 : goal.returns-then-count-gt1
unfolding judge_itself ◌⇒◌∣◌
returns-then-count-gt1 c = simp (lt-ltb _ _ c.if-count-gt1.true)

pub returns : goal.returns
unfolding judge_itself ◌⇒◌∣◌
returns c = simp (le-ltb _ _ c.if-count-gt1.false)
