-- The states bound in mode 1 alone are those from 8 on.
use Rattle.paper.proofs.StateNumbers.{connection_from}
use Rattle.paper.proofs.State.is_connection.Goals as goal

pub returns : goal.returns
returns c = rw c.number.ensures (connection_from c.args.self)
