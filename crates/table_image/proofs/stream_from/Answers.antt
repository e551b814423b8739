-- Each field is read where the layout has it.
use Rattle.table_image.specs.Layout.{stream_from}
use Rattle.table_image.proofs.stream_from.Goals as goal

pub returns : goal.returns
unfolding stream_from
returns c = rw (c.number_inside.ensures, c.number_inside-sap.ensures, c.of_number-state.ensures)
