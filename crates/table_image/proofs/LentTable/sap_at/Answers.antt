-- The bytes of a slot are bytes of the image, so the SAP is read where the layout has it.
use Prim.Native.Nat.{◌+◌}
use mathlib.Core.Path.{refl, sym, ap, ◌∙◌}
use native.Mathlib.Omega.{arith}
use Rattle.paper.specs.Base.{Slot}
use Rattle.table_image.specs.Layout.{slot_base, stream_from, slot_at, sap_offset, slot_size}
use Rattle.table_image.proofs.TableBack.{slot-at}
use Rattle.octets.proofs.Numbers.{part-be16}
use Rattle.table_image.proofs.LentTable.sap_at.Goals as goal

pub returns : goal.returns
unfolding slot_at stream_from
returns c =
    let img = c.args.self.image.now in
    let i = c.args.i in
    c.number_inside.ensures ∙ sym (ap (λ (x : Slot). x.stream.sap) (slot-at img i c.requires) ∙ part-be16 img (slot_base i) slot_size sap_offset (slot_base i + sap_offset) (omega arith) refl)
