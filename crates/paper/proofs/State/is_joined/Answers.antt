-- The states with a connection that is up are those from 11 on.
use Rattle.paper.proofs.StateNumbers.{joined_from}
use Rattle.paper.proofs.State.is_joined.Goals as goal

pub returns : goal.returns
returns c = rw c.number.ensures (joined_from c.args.self)
