-- What is printed is the text of the answer and of the bytes that the call wrote, and those are what the call is defined to leave, whatever
-- stood in the room.
use Prim.Native.Nat.{ℕ, ◌%◌}
use native.Mathlib.Omega.{arith}
use mathlib.Core.Path.{◌≡◌, refl, sym, ap, subst, ◌∙◌}
use lib.Dec.{ltb}
use lib.ListN.{take, replicate}
use Rattle.text.proofs.Putting.{put_as}
use Rattle.paper.specs.Room.{frame_room_size}
use Rattle.table_image.specs.Layout.{sound_image}
use Rattle.call_outcomes.specs.Leaving.{Left, refusal_in, call_made}
use Rattle.call_outcomes.proofs.Rooms.{SameBack, made_in}
use Rattle.keeping.proofs.Images.{call_keeps}
use Rattle.replay_transcript.specs.Transcript.{call_text}
use Rattle.replay_transcript.proofs.Laws.{text_of-written}
use Rattle.replay.specs.Printed.{printed}
use Rattle.replay.proofs.ReplayLentProgram.call.Goals as goal

same_text : (n : ℕ) (l m : Left) → SameBack l m → printed n l ≡ printed n m
same_text n l m same =
    ap (λ (k : ℕ). call_text n k l.room) same.number
    ∙ text_of-written n m.number l.room m.room (ap (λ (k : ℕ). take (k % 65536) l.room) (sym same.number) ∙ same.written)

pub returns : goal.returns
returns c =
    let a = c.args in
    let made = call_made a.table.now a.bytes.now in
    let same =
    subst (λ (l : Left). SameBack l made) (sym c.call_sound-answer.ensures) (made_in a.table.now a.bytes.now a.room.now c.requires.roomy) in
    let kept = call_keeps a.table.now a.bytes.now (replicate frame_room_size 0) c.requires.holds (λ k. omega (arith, c.type_inv.bytes k)) in
    record {
      image = same.image;
      kept = refl;
      holds = ap sound_image same.image ∙ kept;
      wrote =
          put_as (ap (λ (k : ℕ). call_text a.n k c.call_sound-answer.new.room) c.call_number-number.ensures ∙ same_text a.n _ made same)
          c.put_call.ensures;
      told = c.is_refused.ensures ∙ ap (λ (k : ℕ). ltb 0 (refusal_in k)) same.number;
    }
