-- The table and the refusal are those that the call is defined to leave, whatever stood in the room, and so is the mark.
use Prim.Native.Nat.{ℕ, ◌+◌, ◌*◌}
use native.Mathlib.Omega.{arith}
use mathlib.Core.Path.{refl, sym, ap, subst, ◌∙◌}
use mathlib.Core.List.{[], ◌∷◌}
use lib.Dec.{ltb}
use lib.ListN.{replicate}
use Rattle.text.proofs.Putting.{added, added_as}
use Rattle.paper.specs.Room.{frame_room_size}
use Rattle.table_image.specs.Layout.{sound_image}
use Rattle.call_outcomes.specs.Leaving.{Left, refusal_in, call_made}
use Rattle.call_outcomes.proofs.Rooms.{SameBack, made_in}
use Rattle.keeping.proofs.Images.{call_keeps}
use Rattle.totals.specs.Counted.{mark}
use Rattle.totals.proofs.TotalsProgram.call.Goals as goal

pub returns : goal.returns
returns c =
    let a = c.args in
    let made = call_made a.table.now a.bytes.now in
    let same =
    subst (λ (l : Left). SameBack l made) (sym c.call_sound.ensures) (made_in a.table.now a.bytes.now a.room.now c.requires.roomy) in
    let kept = call_keeps a.table.now a.bytes.now (replicate frame_room_size 0) c.requires.holds (λ k. omega (arith, c.type_inv.bytes k)) in
    let told = c.is_refused-refused.ensures ∙ ap (λ (k : ℕ). ltb 0 (refusal_in k)) same.number in
    record {
      image = same.image;
      kept = refl;
      holds = ap sound_image same.image ∙ kept;
      wrote = added_as (ap (λ (k : ℕ). (43 + 2 * k) ∷ []) c.from.ensures ∙ ap mark told) (added c.put_word.ensures);
      told = told;
    }
