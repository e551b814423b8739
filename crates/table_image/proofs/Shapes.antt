-- How long the bytes of a shaped table's parts are, and that a stream, its open numbers and the counter can change within its shape.
use Prim.Native.Nat.{ℕ, ◌*◌, ◌≤◌, ◌<◌}
use native.Mathlib.Omega.{arith}
use mathlib.Core.Path.{◌≡◌, refl, ◌∙◌}
use mathlib.Core.List.{List}
use lib.ListN.{length, get_or, length-append, length-set}
use lib.Dec.{eqb}
use mathlib.Core.Bool.{true}
use Rattle.octets.specs.Blocks.{flat}
use Rattle.octets.proofs.Blocks.{flat-length, pad-length}
use Rattle.paper.specs.Base.{Slot, Table, slot, waiting, closed, no_ppa, with_slot, with_stream, with_numbers, with_counter, mac_of, stream_total, mac_size}
use Rattle.paper.specs.declared.Stream.{Stream}
use Rattle.paper.specs.declared.Ppa.{Ppa}
use Rattle.paper.specs.declared.PpaNumber.{PpaNumber}
use Rattle.table_image.specs.Layout.{ppa_bytes, stream_bytes, waiting_bytes, slot_bytes, header_bytes, image_of, place_size, places_size, count_offset, numbers_size, slot_size, slots_offset, image_size}
use Rattle.table_image.specs.Shape.{Shaped}
use Rattle.octets.proofs.Pieces.{joined_length}
use Rattle.ledger.proofs.Lists.{each_set}
use Rattle.ledger.specs.Lists.{joined}
use Rattle.ledger.specs.Tally.{first_of}
use Rattle.ledger.proofs.Tallies.{within}
use Rattle.paper.specs.Saps.{most_open}

-- ---- lengths

-- the bytes of a stream
pub stream-length : (s : Stream) → length (stream_bytes s) ≡ count_offset
unfolding stream_bytes
stream-length s = refl

-- with those of its open numbers
pub slot-length : (x : Slot) → length x.waiting ≤ most_open → length (slot_bytes x) ≡ slot_size
unfolding waiting_bytes
slot-length x h =
    let p = pad-length numbers_size (flat x.waiting) (omega (arith, flat-length x.waiting)) in
    omega (arith, stream-length x.stream, length-append (stream_bytes x.stream) (waiting_bytes x.waiting))

module _ (t : Table) (s : Shaped t) where
  -- the bytes of slot i
  pub slots-wide : (i : ℕ) → length (slot_bytes (slot t i)) ≡ slot_size
  slots-wide i = slot-length (slot t i) (s.eight i)

  -- the bytes of PPA k
  pub ppas-wide : (k : ℕ) → length (ppa_bytes (get_or t.ppas k no_ppa)) ≡ place_size
  ppas-wide k = omega (arith, s.macs k)

  -- the bytes of all PPAs
  pub ppas-length : length (joined ppa_bytes t.ppas) ≡ length t.ppas * place_size
  ppas-length = joined_length ppa_bytes no_ppa place_size t.ppas ppas-wide

  -- the bytes before the slots
  pub header_length : length (header_bytes t) ≡ slots_offset
  unfolding header_bytes
  header_length = let p = pad-length places_size (joined ppa_bytes t.ppas) (omega (arith, ppas-length, s.few)) in omega arith

  -- the whole image
  pub image-length : length (image_of t) ≡ image_size
  unfolding image_of
  image-length =
      let b = joined_length slot_bytes closed slot_size t.slots slots-wide in
      omega (arith, length-append (header_bytes t) (joined slot_bytes t.slots), header_length, s.sixteen)

  -- ---- updates

  -- a slot with no more open numbers than there are places for
  shaped-slot : (i : ℕ) (x : Slot) → length x.waiting ≤ most_open → Shaped (with_slot t i x)
  unfolding with_slot
  shaped-slot i x h = record {
    sixteen = length-set t.slots i x ∙ s.sixteen;
    few = s.few;
    macs = s.macs;
    eight = each_set (λ (y : Slot). length y.waiting ≤ most_open) t.slots i x closed s.eight h;
  }

  -- a stream with its open numbers
  pub shaped-numbers : (i : ℕ) (q : Stream) (w : List ℕ) → length w ≤ most_open → Shaped (with_numbers t i q w)
  unfolding with_numbers
  shaped-numbers i q w h = shaped-slot i (record { is_open = (slot t i).is_open; stream = q; waiting = w }) h

  -- a stream alone
  pub shaped-stream : (i : ℕ) (q : Stream) → Shaped (with_stream t i q)
  unfolding with_stream
  shaped-stream i q = shaped-numbers i q (waiting t i) (s.eight i)

  -- the counter
  pub shaped-counter : (n : ℕ) → Shaped (with_counter t n)
  unfolding with_counter
  shaped-counter n = record { sixteen = s.sixteen; few = s.few; macs = s.macs; eight = s.eight }

-- a MAC of a shaped table has six bytes
pub mac-length : (t : Table) → Shaped t → (p : PpaNumber) → length (mac_of t p) ≡ mac_size
unfolding mac_of
mac-length t s p = s.macs (first_of (λ (q : Ppa). eqb q.number.0 p.0) t.ppas)

-- an open stream is one of the 16
pub open_within : (t : Table) → Shaped t → (i : ℕ) → (slot t i).is_open ≡ true → i < stream_total
open_within t s i e = omega (arith, within (λ (x : Slot). x.is_open) closed refl t.slots i e, s.sixteen)
