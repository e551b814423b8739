-- The counter is read where the layout has it.
use Rattle.table_image.specs.Layout.{table_of}
use Rattle.table_image.proofs.LentTable.counter.Goals as goal

pub returns : goal.returns
unfolding table_of
returns c = c.number_inside.ensures
