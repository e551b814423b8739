-- The bytes of a slot are bytes of the image, so the count granted is read where the layout has it.
use Prim.Native.Nat.{◌+◌}
use mathlib.Core.Path.{refl, sym, ap, ◌∙◌}
use native.Mathlib.Omega.{arith}
use Rattle.paper.specs.Base.{Slot}
use Rattle.table_image.specs.Layout.{slot_base, stream_from, slot_at, granted_offset, slot_size}
use Rattle.table_image.proofs.TableBack.{slot-at}
use Rattle.octets.proofs.Runs.{part_byte}
use Rattle.table_image.proofs.LentTable.granted_at.Goals as goal

pub returns : goal.returns
unfolding slot_at stream_from
returns c =
    let img = c.args.self.image.now in
    let i = c.args.i in
    sym (ap (λ (x : Slot). x.stream.granted) (slot-at img i c.requires) ∙ part_byte img (slot_base i) slot_size granted_offset (slot_base i + granted_offset) (omega arith) refl)
