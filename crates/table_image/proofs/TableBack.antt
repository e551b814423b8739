-- The image of a table holds that table: each part of it is written where it is read.
use Prim.Native.Nat.{ℕ, ◌+◌, ◌-◌, ◌<◌}
use native.Mathlib.Omega.{arith}
use mathlib.Core.Path.{◌≡◌, refl, sym, ap, ◌∙◌}
use mathlib.Core.Bool.{Bool, true, false, not}
use mathlib.Core.List.{List, [], ◌∷◌, ◌++◌, append_assoc, append-nil}
use lib.ListN.{length, get_or, replicate}
use lib.Seq.{take_all}
use lib.Dec.{eqb}
use Rattle.ledger.specs.Tally.{one_if}
use Rattle.ledger.specs.Lists.{listed, joined}
use Rattle.ledger.proofs.Lists.{listed_at, listed_back}
use Rattle.octets.specs.Numbers.{be32_at, be32}
use Rattle.octets.specs.Blocks.{flat}
use Rattle.octets.proofs.Numbers.{be16_at-be16, be32_at-be32, be32_at-part}
use Rattle.paper.specs.Base.{Slot, Table, slot, closed, no_ppa, stream_total, mac_size}
use Rattle.paper.specs.declared.Stream.{Stream}
use Rattle.paper.specs.declared.Ppa.{Ppa}
use Rattle.paper.proofs.StateNumbers.{state_back}
use Rattle.table_image.specs.Layout.{bit, ppa_from, stream_from, waiting_from, mask_in, slot_at, ppa_at, table_of, mask_of, ppa_bytes}
use Rattle.table_image.specs.Layout.{stream_bytes, waiting_bytes, slot_bytes, header_bytes, image_of, memory_offset, ppa_count_offset}
use Rattle.table_image.specs.Layout.{counter_offset, places_offset, place_size, places_size, numbers_offset, numbers_size, slot_size}
use Rattle.table_image.specs.Layout.{slots_offset, number_base, ppa_part, slot_part}
use Rattle.table_image.specs.Shape.{Shaped}
use Rattle.table_image.proofs.Bits.{mask_bit}
use Rattle.octets.proofs.Pieces.{joined_at}
use Rattle.table_image.proofs.Shapes.{slots-wide, ppas-wide, header_length}
use Rattle.table_image.proofs.Stored.{first_bytes}

-- a stream of the table that an image holds
pub slot-at : (img : List ℕ) (i : ℕ) → i < stream_total → slot (table_of img) i ≡ slot_at img i
unfolding table_of
slot-at img i h = let z : 0 + i ≡ i = omega arith in listed_at (slot_at img) 0 stream_total i closed h ∙ ap (slot_at img) z

-- ---- numbers and pieces out of their bytes again

flag_back : (b : Bool) → (eqb (one_if b) 1 ≡ b) × (eqb (one_if (not b)) 0 ≡ b)
flag_back true = (refl, refl)
flag_back false = (refl, refl)

stream_back : (s : Stream) (r : List ℕ) → stream_from (stream_bytes s ++ r) ≡ s
unfolding stream_from stream_bytes
stream_back s r =
    λ i. record {
      state = state_back s.state i;
      mode = s.mode;
      sap = be16_at-be16 s.sap [] i;
      ppa = record { 0 = be32_at-be32 s.ppa.0 [] i };
      granted = s.granted;
    }

waiting_back : (s : Stream) (w : List ℕ) → waiting_from (stream_bytes s ++ waiting_bytes w) ≡ w
unfolding waiting_from stream_bytes waiting_bytes
waiting_back s w =
    let c : List ℕ = stream_bytes s ++ waiting_bytes w in
    let first : List ℕ = stream_bytes s ++ (length w ∷ []) in
    let zeros : List ℕ = replicate (numbers_size - length (flat w)) 0 in
    listed_back (λ k. be32_at c (number_base k)) w (length w) 0 refl λ k h.
    sym (be32_at-part c (number_base k))
    ∙ ap (λ (r : List ℕ). be32_at r 0) (joined_at be32 0 4 first numbers_offset w k refl (λ i. refl) h zeros)
    ∙ be32_at-be32 (get_or w k 0) []

ppa_back : (p : Ppa) → length p.mac ≡ mac_size → ppa_from (ppa_bytes p) ≡ p
unfolding ppa_from
ppa_back p h = λ i. record { number = record { 0 = be32_at-be32 p.number.0 [] i }; mac = take_all mac_size p.mac (omega arith) i }

-- ---- the table

module _ (t : Table) (s : Shaped t) where
  pub mask_back : mask_in (image_of t) ≡ mask_of t.slots
  unfolding image_of header_bytes
  mask_back = be16_at-be16 (mask_of t.slots) []

  memory_back : eqb (get_or (image_of t) memory_offset 0) 1 ≡ t.remembers
  unfolding image_of header_bytes
  memory_back = (flag_back t.remembers).0

  count_back : get_or (image_of t) ppa_count_offset 0 ≡ length t.ppas
  unfolding image_of header_bytes
  count_back = refl

  counter_back : be32_at (image_of t) counter_offset ≡ t.counter
  unfolding image_of header_bytes
  counter_back = be32_at-be32 t.counter []

  ppas_back : (k : ℕ) → k < length t.ppas → ppa_at (image_of t) k ≡ get_or t.ppas k no_ppa
  unfolding image_of header_bytes ppa_at
  ppas_back k h =
      let first : List ℕ = first_bytes (mask_of t.slots) t.remembers (length t.ppas) t.counter in
      let pieces : List ℕ = joined ppa_bytes t.ppas in
      let zeros : List ℕ = replicate (places_size - length pieces) 0 in
      let rest : List ℕ = joined slot_bytes t.slots in
      ap (λ (r : List ℕ). ppa_from (ppa_part (first ++ r) k)) (append_assoc pieces zeros rest)
      ∙ ap ppa_from (joined_at ppa_bytes no_ppa place_size first places_offset t.ppas k refl (ppas-wide t s) h (zeros ++ rest))
      ∙ ppa_back (get_or t.ppas k no_ppa) (s.macs k)

  -- the bytes of a slot
  pub slot-part : (i : ℕ) → i < stream_total → slot_part (image_of t) i ≡ slot_bytes (slot t i)
  unfolding image_of
  slot-part i h =
      ap (λ (r : List ℕ). slot_part (header_bytes t ++ r) i) (sym (append-nil (joined slot_bytes t.slots)))
      ∙ joined_at slot_bytes closed slot_size (header_bytes t) slots_offset t.slots i (header_length t s) (slots-wide t s) (omega (arith, s.sixteen)) []

  slots_back : (i : ℕ) → i < stream_total → slot_at (image_of t) i ≡ slot t i
  unfolding slot_at
  slots_back i h =
      let x : Slot = slot t i in
      let c : slot_part (image_of t) i ≡ slot_bytes x = slot-part i h in
      let m : bit (mask_in (image_of t)) i ≡ one_if (not x.is_open) = rw mask_back (mask_bit t.slots i (omega (arith, s.sixteen))) in
      λ d. record {
        is_open = (ap (λ (n : ℕ). eqb n 0) m ∙ (flag_back x.is_open).1) d;
        stream = (ap stream_from c ∙ stream_back x.stream (waiting_bytes x.waiting)) d;
        waiting = (ap waiting_from c ∙ waiting_back x.stream x.waiting) d;
      }

  -- the image of a table holds that table
  pub table_back : table_of (image_of t) ≡ t
  unfolding table_of
  table_back =
      let f : ℕ → Ppa = ppa_at (image_of t) in
      λ d. record {
        remembers = memory_back d;
        counter = counter_back d;
        ppas = (ap (listed f 0) count_back ∙ listed_back f t.ppas (length t.ppas) no_ppa refl ppas_back) d;
        slots = listed_back (slot_at (image_of t)) t.slots stream_total closed s.sixteen slots_back d;
      }
