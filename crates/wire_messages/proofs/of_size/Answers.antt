-- The length is compared with the size, as the paper does.
use borrow.Author.Tests.{lt-ltb, le-ltb}
use Rattle.ledger.specs.Choice.{◌⇒◌∣◌}
use Rattle.paper.specs.Messages.{sized}
use Rattle.wire_messages.proofs.of_size.Goals as goal

pub returns-then-m-size : goal.returns-then-m-size
unfolding sized ◌⇒◌∣◌
returns-then-m-size c = simp (lt-ltb _ _ c.if-m-size.true)

pub returns : goal.returns
unfolding sized ◌⇒◌∣◌
returns c = simp (le-ltb _ _ c.if-m-size.false)
