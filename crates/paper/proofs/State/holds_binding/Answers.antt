-- The bound states are those from 6 on.
use Rattle.paper.proofs.StateNumbers.{bound_from}
use Rattle.paper.proofs.State.holds_binding.Goals as goal

pub returns : goal.returns
returns c = rw c.number.ensures (bound_from c.args.self)
