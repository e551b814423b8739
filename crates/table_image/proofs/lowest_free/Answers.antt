-- The lowest bit that is 1 is that of the lowest closed stream; a mask of zeros has 16 zeros at its end.
use mathlib.Core.Path.{ap, ◌∙◌}
use lib.Count.{count_trailing_zeros}
use Rattle.table_image.specs.Layout.{table_of}
use Rattle.table_image.proofs.Bits.{lowest_free_lem}
use Rattle.table_image.proofs.Lending.{mask_lent}
use Rattle.paper.specs.Base.{stream_total}
use Rattle.table_image.proofs.lowest_free.Goals as goal

pub returns : goal.returns
returns c =
    let img = c.args.img.now in
    ap (count_trailing_zeros stream_total) (c.mask_in.ensures ∙ mask_lent img c.requires) ∙ lowest_free_lem (table_of img) c.requires.shaped
