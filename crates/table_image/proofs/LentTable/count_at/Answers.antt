-- The count of the open numbers stands before them in the slot.
use Prim.Native.Nat.{◌+◌}
use mathlib.Core.Path.{refl, sym, ap, ◌∙◌}
use native.Mathlib.Omega.{arith}
use lib.ListN.{length, get_or}
use Rattle.octets.specs.Numbers.{be32_at}
use Rattle.octets.proofs.Runs.{part_byte}
use Rattle.paper.specs.Base.{Slot}
use Rattle.table_image.specs.Layout.{slot_base, waiting_from, slot_at, count_offset, slot_size, number_base, slot_part}
use Rattle.table_image.proofs.TableBack.{slot-at}
use Rattle.ledger.proofs.Lists.{listed-length}
use Rattle.table_image.proofs.LentTable.count_at.Goals as goal

pub returns : goal.returns
unfolding slot_at waiting_from
returns c =
    let img = c.args.self.image.now in
    let i = c.args.i in
    let bytes = slot_part img i in
    let byte = part_byte img (slot_base i) slot_size count_offset (slot_base i + count_offset) (omega arith) refl in
    sym (ap (λ (x : Slot). length x.waiting) (slot-at img i c.requires)
    ∙ listed-length (λ k. be32_at bytes (number_base k)) 0 (get_or bytes count_offset 0)
    ∙ byte)
