-- Every call keeps a sound image sound, so the table is sound again, and the answer tells whether it was refused, whatever stood in the room.
use mathlib.Core.Path.{sym, ap, subst, ◌∙◌}
use Prim.Native.Nat.{ℕ}
use native.Mathlib.Omega.{arith}
use lib.Dec.{ltb}
use lib.ListN.{replicate}
use Rattle.paper.specs.Room.{frame_room_size}
use Rattle.table_image.specs.Layout.{sound_image}
use Rattle.call_outcomes.specs.Leaving.{Left, call_made, refusal_in}
use Rattle.call_outcomes.proofs.Rooms.{SameBack, made_in}
use Rattle.keeping.proofs.Images.{call_keeps}
use Rattle.inner.proofs.one_call.Goals as goal

pub returns : goal.returns
returns c =
    let a = c.args in
    let made = call_made a.table.now a.bytes.now in
    let same =
    subst (λ (l : Left). SameBack l made) (sym c.call_sound.ensures) (made_in a.table.now a.bytes.now a.room.now c.requires.roomy) in
    let kept = call_keeps a.table.now a.bytes.now (replicate frame_room_size 0) c.requires.sound (λ j. omega (arith, c.type_inv.bytes j)) in
    record {
      image = same.image;
      sound = ap sound_image same.image ∙ kept;
      told = c.is_refused.ensures ∙ ap (λ (k : ℕ). ltb 0 (refusal_in k)) same.number;
    }
