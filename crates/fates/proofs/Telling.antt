-- A call of the program is one more call of a harness: it makes the same call, and enters the lines that come back.
use Prim.Native.Nat.{ℕ}
use mathlib.Core.Path.{◌≡◌, refl, sym, ap, ◌∙◌}
use mathlib.Core.Bool.{true}
use mathlib.Core.List.{List, []}
use lib.ListN.{replicate}
use Rattle.octets.specs.Runs.{Bytes}
use Rattle.octets.proofs.Runs.{to_are_bytes}
use Rattle.ledger.specs.Choice.{◌⇒◌∣◌}
use Rattle.paper.specs.Base.{fresh}
use Rattle.paper.specs.Room.{frame_room_size}
use Rattle.table_image.specs.Layout.{image_of, sound_image, image_size}
use Rattle.call_outcomes.specs.Leaving.{call_made}
use Rattle.call_outcomes.specs.Fresh.{fresh_of}
use Rattle.fates_book.specs.declared.Line.{Line}
use Rattle.fates_register.specs.Register.{blank, entered_all}
use Rattle.fates_register.proofs.Laws.{entered_append}
use Rattle.promises.specs.History.{said_by, lines}
use Rattle.promises.specs.Harness.{Lending, image_after, heard, Harness, heard_in, next_in, and_then}
use Rattle.promises.proofs.Demand3.{stays_lent}
use Rattle.promises.proofs.Harness.{fresh-taken, image-more, lines_more}
use Rattle.fates.specs.Told.{Told, lines_by}

pub told-next : (img register r : List ℕ) → Told img register → Bytes r → Told (call_made img r).image (entered_all (lines_by r (call_made img r)) register)
told-next img register r w b =
    let x : Harness = w.harness in
    let c : Lending = record { bytes = r; are_bytes = to_are_bytes r b; room = replicate frame_room_size 0 } in
    rw (w.table, w.entered) (record {
      harness = and_then x c;
      table = sym (image-more x c);
      entered = sym (entered_append (lines (heard_in x)) (said_by (next_in x c)) blank) ∙ ap (λ (ys : List Line). entered_all ys blank) (sym (lines_more x c));
    })

-- and so every call meets a sound table
pub told-sound : (img register : List ℕ) → Told img register → sound_image img ≡ true
told-sound img register w = ap sound_image w.table ∙ stays_lent w.harness

zeros_taken : (fresh_of (replicate image_size 0)).number ≡ 0
unfolding fresh_of ◌⇒◌∣◌
zeros_taken = refl

-- a fresh table and a blank register
pub told-first : Told (image_of fresh) blank
unfolding image_after heard lines entered_all
told-first = record { harness = first; table = sym (fresh-taken first.lent first.taken); entered = refl }
  where
    first : Harness
    first = record { lent = replicate image_size 0; taken = zeros_taken; calls = [] }
