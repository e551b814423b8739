-- Each carrier that a token can name has its own rule.
use Rattle.paper.specs.ErrorOrder.{judge_carrier}
use Rattle.paper_rules.proofs.order.judge_carrier.Goals as goal

pub returns-in-Itself : goal.returns-in-Itself
unfolding judge_carrier
returns-in-Itself c = rw c.in-Itself.is c.judge_itself.ensures

pub returns-in-None : goal.returns-in-None
unfolding judge_carrier
returns-in-None c = rw c.in-None.is

pub returns-in-Other : goal.returns-in-Other
unfolding judge_carrier
returns-in-Other c = rw c.in-Other.is c.judge_other.ensures
