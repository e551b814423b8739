-- What a call leaves: its number, the lent image and the lent room.
use Rattle.std.specs.Prelude.{ℕ, ◌+◌, ◌*◌, ◌/◌, ◌%◌, Bool, not, List, length, replicate, ltb}
use Rattle.ledger.specs.Choice.{◌⇒◌∣◌}
use Rattle.octets.specs.Runs.{over}
use Rattle.paper.specs.RecordsOut.{all_bytes}
use Rattle.paper.specs.Refusals.{not_sound, Outcome}
use Rattle.paper.specs.Room.{frame_room_size}
use Rattle.paper.specs.Step.{step}
use Rattle.table_image.specs.Layout.{table_of, image_of, tidy}

pub record Left : Type 0 where
  pub number : ℕ
  pub image : List ℕ
  pub room : List ℕ

abbrev pub left : ℕ → List ℕ → List ℕ → Left
left n img room = record { number = n; image = img; room = room }

-- A call's number: the bytes written in bits 0 to 15, the refusal number in 16 to 23, the token of the stream just opened
-- in 24 to 31.
abbrev pub refusing : ℕ → ℕ
refusing n = n * 65536

abbrev pub writing : ℕ → ℕ → ℕ
writing bytes opened = bytes + opened * 16777216

-- and how it is taken apart again: the refusal number, 0 where the call was served; the token, 0 where no stream was opened; how
-- many bytes of the room were written
abbrev pub refusal_in : ℕ → ℕ
refusal_in n = n / 65536 % 256

abbrev pub token_in : ℕ → ℕ
token_in n = n / 16777216

abbrev pub written_in : ℕ → ℕ
written_in n = n % 65536

-- A refusal leaves image and room as they stood. Else the image is that of the outcome's table, and its records stand at
-- the start of the room, whose other bytes stay.
unfoldable pub leaving : List ℕ → List ℕ → Outcome → Left
leaving img room o =
    ltb 0 o.refusal ⇒ left (refusing o.refusal) img room
    ∣ left (writing (length (all_bytes o.records)) o.opened) (image_of o.table) (over (all_bytes o.records) room)

-- The call, whole, on the image, the record and the room that it is lent. An image that is not one of a table is not sound.
unfoldable pub call_of : List ℕ → List ℕ → List ℕ → Left
call_of img r room = not (tidy img) ⇒ left (refusing not_sound) img room ∣ leaving img room (step (table_of img) r (length room))

-- ---- as the programs make it: in a room as large as any call needs

-- What stood in the room before is not seen in what they print: for them it is zeros.
abbrev pub call_made : List ℕ → List ℕ → Left
call_made img r = call_of img r (replicate frame_room_size 0)

abbrev pub is_refused : Left → Bool
is_refused l = ltb 0 (refusal_in l.number)
