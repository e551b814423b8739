-- The first four bytes of a place are its number.
use native.Mathlib.Nat.{add-sub_cancel_left}
use Rattle.table_image.specs.Layout.{ppa_at, ppa_from}
use Rattle.table_lookup.proofs.Laws.{ppa-place}
use Rattle.table_lookup.proofs.is_ppa.Goals as goal

pub returns : goal.returns
unfolding ppa_at ppa_from
returns c =
    rw (c.number_inside.ensures, add-sub_cancel_left, ppa-place c.args.table.image.now c.args.k c.requires)
