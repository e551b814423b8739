-- The image of a table, byte by byte (docs/IMAGE.md): what table an image holds, and the image of a table.
use Rattle.std.specs.Prelude.{ℕ, ◌+◌, ◌-◌, ◌*◌, ◌/◌, ◌%◌, ◌^◌, Bool, not, List, [], ◌∷◌, ◌++◌, length, get_or, eqb, leb}
use Rattle.ledger.specs.Choice.{both}
use Rattle.ledger.specs.Tally.{one_if, has, all_of}
use Rattle.ledger.specs.Lists.{listed, joined}
use Rattle.octets.specs.Numbers.{be16_at, be32_at, be16, be32}
use Rattle.octets.specs.Runs.{part, all_zero, are_bytes}
use Rattle.octets.specs.Blocks.{flat, pad_to}
use Rattle.paper.specs.Base.{number_of, state_of, stream_total, most_ppas, mac_size, Slot, Table, every_state}
use Rattle.paper.specs.Saps.{most_open}
use Rattle.paper.specs.Sound.{sound}
use Rattle.paper.specs.declared.Stream.{Stream}
use Rattle.paper.specs.declared.Ppa.{Ppa}

-- ---- sizes and offsets

-- the image begins with the mask, the memory of an opening, the count of PPAs and the counter
abbrev pub mask_offset : ℕ
mask_offset = 0

abbrev pub memory_offset : ℕ
memory_offset = 2

abbrev pub ppa_count_offset : ℕ
ppa_count_offset = 3

abbrev pub counter_offset : ℕ
counter_offset = 4

-- then come the places for PPAs, each for a number and a MAC
abbrev pub places_offset : ℕ
places_offset = 8

abbrev pub mac_offset : ℕ
mac_offset = 4

abbrev pub place_size : ℕ
place_size = mac_offset + mac_size

abbrev pub places_size : ℕ
places_size = most_ppas * place_size

-- A slot has how the stream stands, the count of its open numbers and the numbers.
abbrev pub state_offset : ℕ
state_offset = 0

abbrev pub mode_offset : ℕ
mode_offset = 1

abbrev pub sap_offset : ℕ
sap_offset = 2

abbrev pub attached_offset : ℕ
attached_offset = 4

abbrev pub granted_offset : ℕ
granted_offset = 8

abbrev pub count_offset : ℕ
count_offset = 9

abbrev pub numbers_offset : ℕ
numbers_offset = count_offset + 1

abbrev pub numbers_size : ℕ
numbers_size = most_open * 4

abbrev pub slot_size : ℕ
slot_size = numbers_offset + numbers_size

-- the slots end the image
abbrev pub slots_offset : ℕ
slots_offset = places_offset + places_size

abbrev pub slots_size : ℕ
slots_size = stream_total * slot_size

abbrev pub image_size : ℕ
image_size = slots_offset + slots_size

-- where the place of PPA k begins, the slot of stream i, and open number k in a slot
abbrev pub ppa_base : ℕ → ℕ
ppa_base k = k * place_size + places_offset

abbrev pub slot_base : ℕ → ℕ
slot_base i = i * slot_size + slots_offset

abbrev pub number_base : ℕ → ℕ
number_base k = k * 4 + numbers_offset

-- their bytes
abbrev pub ppa_part : List ℕ → ℕ → List ℕ
ppa_part img k = part img (ppa_base k) place_size

abbrev pub slot_part : List ℕ → ℕ → List ℕ
slot_part img i = part img (slot_base i) slot_size

-- ---- what table an image holds

-- bit i of a mask
abbrev pub bit : ℕ → ℕ → ℕ
bit m i = m / 2 ^ i % 2

-- the bytes of a place
unfoldable pub ppa_from : List ℕ → Ppa
ppa_from c = record { number = record { 0 = be32_at c 0 }; mac = part c mac_offset mac_size }

-- the bytes of a slot
unfoldable pub stream_from : List ℕ → Stream
stream_from c =
    record {
      state = state_of (get_or c state_offset 0);
      mode = get_or c mode_offset 0;
      sap = be16_at c sap_offset;
      ppa = record { 0 = be32_at c attached_offset };
      granted = get_or c granted_offset 0;
    }

unfoldable pub waiting_from : List ℕ → List ℕ
waiting_from c = listed (λ k. be32_at c (number_base k)) 0 (get_or c count_offset 0)

abbrev pub mask_in : List ℕ → ℕ
mask_in img = be16_at img mask_offset

unfoldable pub slot_at : List ℕ → ℕ → Slot
slot_at img i =
    record {
      is_open = eqb (bit (mask_in img) i) 0;
      stream = stream_from (slot_part img i);
      waiting = waiting_from (slot_part img i);
    }

unfoldable pub ppa_at : List ℕ → ℕ → Ppa
ppa_at img k = ppa_from (ppa_part img k)

unfoldable pub table_of : List ℕ → Table
table_of img =
    record {
      remembers = eqb (get_or img memory_offset 0) 1;
      counter = be32_at img counter_offset;
      ppas = listed (ppa_at img) 0 (get_or img ppa_count_offset 0);
      slots = listed (slot_at img) 0 stream_total;
    }

-- ---- the image of a table: what is unused is zero

-- bit i is 1 exactly if stream i is closed
abbrev pub mask_of : List Slot → ℕ
mask_of [] = 0
mask_of (x ∷ l) = one_if (not x.is_open) + 2 * mask_of l

abbrev pub ppa_bytes : Ppa → List ℕ
ppa_bytes p = be32 p.number.0 ++ p.mac

-- state, mode, SAP, PPA, count granted
unfoldable pub stream_bytes : Stream → List ℕ
stream_bytes s = (number_of s.state ∷ s.mode ∷ []) ++ be16 s.sap ++ be32 s.ppa.0 ++ (s.granted ∷ [])

-- the count of open indications, their numbers
unfoldable pub waiting_bytes : List ℕ → List ℕ
waiting_bytes w = length w ∷ pad_to numbers_size (flat w)

abbrev pub slot_bytes : Slot → List ℕ
slot_bytes x = stream_bytes x.stream ++ waiting_bytes x.waiting

unfoldable pub header_bytes : Table → List ℕ
header_bytes t =
    be16 (mask_of t.slots) ++ (one_if t.remembers ∷ length t.ppas ∷ []) ++ be32 t.counter
    ++ pad_to places_size (joined ppa_bytes t.ppas)

unfoldable pub image_of : Table → List ℕ
image_of t = header_bytes t ++ joined slot_bytes t.slots

-- ---- a tidy image holds one table, whose image it is

unfoldable pub is_state : ℕ → Bool
is_state n = has n every_state

unfoldable pub tidy_slot : List ℕ → Bool
tidy_slot c =
    let n : ℕ = get_or c count_offset 0 in
    both (is_state (get_or c state_offset 0)) (both (leb n most_open) (all_zero (part c (number_base n) (numbers_size - n * 4))))

abbrev pub slot_parts : List ℕ → List (List ℕ)
slot_parts img = listed (slot_part img) 0 stream_total

-- the unused places for PPAs
abbrev pub tidy_ppas : List ℕ → Bool
tidy_ppas img =
    let n : ℕ = get_or img ppa_count_offset 0 in
    both (leb n most_ppas) (all_zero (part img (ppa_base n) (places_size - n * place_size)))

unfoldable pub tidy : List ℕ → Bool
tidy img =
    both (eqb (length img) image_size)
    (both (are_bytes img) (both (leb (get_or img memory_offset 0) 1) (both (tidy_ppas img) (all_of tidy_slot (slot_parts img)))))

-- A table is lent soundly if its image is tidy and the table is sound. Any other image is refusal 16.
unfoldable pub sound_image : List ℕ → Bool
sound_image img = both (tidy img) (sound (table_of img))
