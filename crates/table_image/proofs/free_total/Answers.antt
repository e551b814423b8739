-- A bit of the mask is 1 for each closed stream, so the ones count them.
use mathlib.Core.Path.{ap, ◌∙◌}
use lib.Count.{ones}
use Rattle.table_image.specs.Layout.{table_of}
use Rattle.table_image.proofs.Bits.{free_total}
use Rattle.table_image.proofs.Lending.{mask_lent}
use Rattle.table_image.proofs.free_total.Goals as goal

pub returns : goal.returns
returns c =
    let img = c.args.img.now in
    ap ones (c.mask_in.ensures ∙ mask_lent img c.requires) ∙ free_total (table_of img).slots
