-- The bytes of a slot are bytes of the image, so the state is read where the layout has it.
use Prim.Native.Nat.{◌+◌}
use mathlib.Core.Path.{refl, sym, ap, ◌∙◌}
use native.Mathlib.Omega.{arith}
use Rattle.paper.specs.Base.{Slot, state_of}
use Rattle.table_image.specs.Layout.{slot_base, stream_from, slot_at, state_offset, slot_size}
use Rattle.table_image.proofs.TableBack.{slot-at}
use Rattle.octets.proofs.Runs.{part_byte}
use Rattle.table_image.proofs.LentTable.state_at.Goals as goal

pub returns : goal.returns
unfolding slot_at stream_from
returns c =
    let img = c.args.self.image.now in
    let i = c.args.i in
    let byte = part_byte img (slot_base i) slot_size state_offset (slot_base i + state_offset) (omega arith) refl in
    c.of_number.ensures ∙ sym (ap (λ (x : Slot). x.stream.state) (slot-at img i c.requires) ∙ ap state_of byte)
