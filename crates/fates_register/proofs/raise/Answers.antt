-- The cell that is read is the cell that is written.
use Rattle.fates_register.specs.Register.{raised}
use Rattle.fates_register.proofs.raise.Goals as goal

pub returns : goal.returns
unfolding raised
returns c = rw c.one_more.ensures
