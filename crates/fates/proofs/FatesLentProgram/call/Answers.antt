-- What is entered and printed are the lines of the answer and of the bytes that the call wrote, and those are what the call is defined to
-- leave, whatever stood in the room.
use native.Mathlib.Omega.{arith}
use Prim.Native.Nat.{ℕ}
use mathlib.Core.Path.{◌≡◌, refl, sym, ap, subst, ◌∙◌}
use mathlib.Core.List.{List}
use Rattle.text.proofs.Putting.{put_as}
use Rattle.call_outcomes.specs.Leaving.{Left, token_in, call_made}
use Rattle.call_outcomes.proofs.Rooms.{SameBack, made_in}
use Rattle.fates_book.specs.declared.Line.{Line}
use Rattle.fates_book.specs.Lines.{lines_of}
use Rattle.fates_register.specs.Register.{entered_all}
use Rattle.fates_report.specs.Report.{all_text, lines_told}
use Rattle.fates.specs.Told.{lines_by}
use Rattle.fates.proofs.Telling.{told-next, told-sound}
use Rattle.fates.proofs.FatesLentProgram.call.Goals as goal

same_lines : (r : List ℕ) (l m : Left) → SameBack l m → lines_by r l ≡ lines_by r m
same_lines r l m same i = lines_of r (token_in (same.number i)) (same.written i)

pub call_sound-requires : goal.call_sound-requires
call_sound-requires c =
    told-sound c.args.table.now c.args.self.now.register c.requires.holds

pub returns : goal.returns
returns c =
    let a = c.args in
    let register = a.self.now.register in
    let made = call_made a.table.now a.bytes.now in
    let same =
    subst (λ (l : Left). SameBack l made) (sym c.call_sound.ensures) (made_in a.table.now a.bytes.now a.room.now c.requires.roomy) in
    let number = ap (λ (k : ℕ). lines_told a.bytes.now k c.call_sound.new.room) c.call_number-answer.ensures in
    let lines = number ∙ same_lines a.bytes.now _ made same in
    let told = c.tell_call.ensures in
    let entered = told.entered ∙ ap (λ (ys : List Line). entered_all ys register) lines in
    let next = told-next a.table.now register a.bytes.now c.requires.holds (λ k. omega (arith, c.type_inv.bytes k)) in
    record {
      image = same.image;
      kept = λ i. record { register = entered i };
      holds = rw (same.image, entered) next;
      wrote = put_as (ap (λ (ys : List Line). all_text ys register) lines) told.wrote;
      told = refl;
    }
