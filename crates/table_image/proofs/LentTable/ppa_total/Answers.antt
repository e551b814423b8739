-- There are as many PPAs as the byte before them tells.
use mathlib.Core.Path.{sym}
use lib.ListN.{get_or}
use Rattle.table_image.specs.Layout.{ppa_at, table_of}
use Rattle.ledger.proofs.Lists.{listed-length}
use Rattle.table_image.proofs.LentTable.ppa_total.Goals as goal

pub returns : goal.returns
unfolding table_of
returns c =
    let img = c.args.self.image.now in
    sym (listed-length (ppa_at img) 0 (get_or img 3 0))
