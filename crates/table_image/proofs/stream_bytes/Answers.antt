-- The bytes stand in the order of the layout, the top byte of a number first.
use Rattle.table_image.specs.Layout.{stream_bytes}
use Rattle.table_image.proofs.stream_bytes.Goals as goal

pub returns : goal.returns
unfolding stream_bytes
returns c = rw c.number.ensures
