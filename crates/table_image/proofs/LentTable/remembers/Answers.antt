-- The table remembers an opening exactly if its byte is 1.
use mathlib.Core.Path.{refl}
use Rattle.table_image.specs.Layout.{table_of}
use Rattle.table_image.proofs.LentTable.remembers.Goals as goal

pub returns : goal.returns
unfolding table_of
returns c = refl
