-- The bytes of a slot are bytes of the image, so the PPA's number is read where the layout has it.
use Prim.Native.Nat.{ℕ, ◌+◌}
use mathlib.Core.Path.{refl, sym, ap, ◌∙◌}
use native.Mathlib.Omega.{arith}
use Rattle.paper.specs.Base.{Slot}
use Rattle.table_image.specs.Layout.{slot_base, stream_from, slot_at, attached_offset, slot_size}
use Rattle.table_image.proofs.TableBack.{slot-at}
use Rattle.octets.proofs.Numbers.{part-be32}
use Rattle.table_image.proofs.attached_at.Goals as goal

pub returns : goal.returns
unfolding slot_at stream_from
returns c =
    let img = c.args.img.now in
    let i = c.args.i in
    let number = part-be32 img (slot_base i) slot_size attached_offset (slot_base i + attached_offset) (omega arith) refl in
    ap (λ (n : ℕ). record { 0 = n })
    (c.number_inside.ensures ∙ sym (ap (λ (x : Slot). x.stream.ppa.0) (slot-at img i c.requires.within) ∙ number))
