-- The last six bytes of a place are its MAC, and they fill the array.
use native.Mathlib.Nat.{add-sub_cancel_left}
use native.Mathlib.Omega.{arith}
use Rattle.octets.specs.Runs.{part}
use Rattle.table_image.specs.Layout.{ppa_base, ppa_at, ppa_from, place_size, ppa_part, mac_offset}
use Rattle.table_lookup.proofs.Laws.{ppa-place}
use lib.ListN.{replicate}
use Rattle.octets.proofs.Runs.{part_length, paste-whole}
use Rattle.paper.specs.Base.{mac_size}
use Rattle.table_lookup.proofs.mac_at_place.Goals as goal

pub returns : goal.returns
unfolding ppa_at ppa_from
returns c =
    let img = c.args.table.image.now in
    let at = ppa_base c.args.k in
    let n = part_length img at place_size (omega (arith, c.requires, c.args.table.lent.held.long, c.args.table.lent.shaped.few)) in
    let place = ppa_part img c.args.k in
    rw (ppa-place img c.args.k c.requires, c.put_bytes.ensures, add-sub_cancel_left)
    (paste-whole (replicate mac_size 0) (part place mac_offset mac_size) (omega (arith, n, part_length place mac_offset mac_size (omega (arith, n)))))
