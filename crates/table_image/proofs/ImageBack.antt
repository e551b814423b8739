-- The image of the table that a tidy image holds is that image: each byte is read into one place of the table and written back from
-- it, and what is read nowhere is zero.
use Prim.Native.Nat.{ℕ, zero, suc, ◌+◌, ◌≤◌, ◌<◌}
use native.Mathlib.Omega.{arith}
use mathlib.Core.Path.{◌≡◌, refl, sym, ap, ap₂, ◌∙◌}
use mathlib.Core.Bool.{true, not}
use mathlib.Core.List.{List, [], ◌∷◌, ◌++◌}
use lib.ListN.{length, get_or, take, drop, take-append-drop, length-drop}
use lib.Seq.{drop-cons, length-take-le, take_all, get_or-take}
use lib.Dec.{eqb}
use borrow.Author.Tests.{eqb-true}
use Rattle.ledger.specs.Tally.{one_if}
use Rattle.ledger.specs.Lists.{listed, joined}
use Rattle.ledger.proofs.Lists.{listed-length, listed_back}
use Rattle.octets.specs.Numbers.{be16_at, be32_at, be16, be32}
use Rattle.octets.specs.Runs.{Bytes, part}
use Rattle.octets.proofs.Runs.{part_length, part_bytes, part_add}
use Rattle.octets.proofs.Numbers.{be32_at-part, be16_back, be32_back}
use Rattle.octets.specs.Blocks.{pad_to}
use Rattle.paper.specs.Base.{number_of, Slot, state_of, stream_total, mac_size}
use Rattle.paper.proofs.StateNumbers.{state-told}
use Rattle.table_image.specs.Layout.{ppa_base, slot_base, bit, ppa_from, stream_from, waiting_from, mask_in, slot_at, ppa_at, table_of, mask_of}
use Rattle.table_image.specs.Layout.{ppa_bytes, stream_bytes, waiting_bytes, slot_bytes, header_bytes, image_of, is_state, tidy, memory_offset}
use Rattle.table_image.specs.Layout.{ppa_count_offset, places_offset, place_size, places_size, count_offset, numbers_offset, numbers_size}
use Rattle.table_image.specs.Layout.{slot_size, slots_offset, slots_size, image_size, number_base, ppa_part, slot_part}
use Rattle.table_image.proofs.Bits.{mask_only}
use Rattle.octets.proofs.Pieces.{joined-listed, pad-listed}
use Rattle.table_image.proofs.TableBack.{slot-at}
use Rattle.table_image.proofs.TidyImage.{TidySlot, Tidy, tidy_parts}

-- the first bytes of a list, one by one
front : (c : List ℕ) (n : ℕ) → n ≤ length c → listed (λ k. get_or c k 0) 0 n ≡ take n c
front c n h = listed_back (λ k. get_or c k 0) (take n c) n 0 (length-take-le n c h) (λ k b. sym (get_or-take n c k 0 b))

-- the number of the state that a byte tells
number_back : (n : ℕ) → is_state n ≡ true → number_of (state_of n) ≡ n
unfolding is_state
number_back n h = eqb-true _ _ (state-told n ∙ h)

-- ---- pieces

module _ (c : List ℕ) (h : Bytes c) where
  number_again : (at : ℕ) → at + 4 ≤ length c → be32 (be32_at c at) ≡ part c at 4
  number_again at b =
      let r : List ℕ = part c at 4 in
      let l : length r ≡ 4 = part_length c at 4 b in
      let y = part_bytes c at 4 h in
      ap be32 (sym (be32_at-part c at))
      ∙ be32_back (get_or r 0 0) (get_or r 1 0) (get_or r 2 0) (get_or r 3 0) (y 1) (y 2) (y 3)
      ∙ front r 4 (omega arith)
      ∙ take_all 4 r (omega arith)

  ppa_again : length c ≡ place_size → ppa_bytes (ppa_from c) ≡ c
  unfolding ppa_from
  ppa_again e =
      let r : part c 4 mac_size ≡ drop 4 c = take_all mac_size (drop 4 c) (omega (arith, length-drop 4 c)) in
      ap₂ (λ (a b : List ℕ). a ++ b) (number_again 0 (omega arith)) r ∙ take-append-drop 4 c

  module _ (e : length c ≡ slot_size) (t : TidySlot c) where
    stream_again : stream_bytes (stream_from c) ≡ take count_offset c
    unfolding stream_bytes stream_from
    stream_again =
        let g : ℕ → ℕ = λ k. get_or c k 0 in
        let n : number_of (state_of (g 0)) ≡ g 0 = number_back (g 0) t.state in
        let s : be16 (be16_at c 2) ≡ g 2 ∷ g 3 ∷ [] = be16_back (g 2) (g 3) (h 3) in
        let p : be32 (be32_at c 4) ≡ g 4 ∷ g 5 ∷ g 6 ∷ g 7 ∷ [] = be32_back (g 4) (g 5) (g 6) (g 7) (h 5) (h 6) (h 7) in
        (λ i. (n i ∷ g 1 ∷ []) ++ s i ++ p i ++ (g 8 ∷ [])) ∙ front c count_offset (omega arith)

    waiting_again : waiting_bytes (waiting_from c) ≡ get_or c count_offset 0 ∷ part c numbers_offset numbers_size
    unfolding waiting_bytes waiting_from
    waiting_again =
        let n : ℕ = get_or c count_offset 0 in
        let g : ℕ → ℕ = λ k. be32_at c (number_base k) in
        let p : pad_to numbers_size (joined be32 (listed g 0 n)) ≡ part c numbers_offset numbers_size =
        pad-listed be32 g c 4 numbers_offset n numbers_size (λ k b. number_again (number_base k) (omega (arith, t.eight))) (omega (arith, t.eight)) (omega arith) t.unused in
        (λ i. listed-length g 0 n i ∷ p i)

    slot_again : stream_bytes (stream_from c) ++ waiting_bytes (waiting_from c) ≡ c
    slot_again =
        let r : part c numbers_offset numbers_size ≡ drop numbers_offset c = take_all numbers_size (drop numbers_offset c) (omega (arith, length-drop numbers_offset c)) in
        rw (stream_again, waiting_again, r, ← drop-cons c count_offset 0 (omega arith)) (take-append-drop count_offset c)

-- ---- the image

-- 0 and 1, as flags
flag_again : (n : ℕ) → n ≤ 1 → (one_if (eqb n 1) ≡ n) × (one_if (not (eqb n 0)) ≡ n)
flag_again zero h = (refl, refl)
flag_again (suc zero) h = (refl, refl)
flag_again (suc (suc n)) h = absurd (omega arith)

module _ (img : List ℕ) (t : Tidy img) where
  h : Bytes img
  h = t.bytes

  bit_again : (i : ℕ) → one_if (not (slot_at img i).is_open) ≡ bit (mask_in img) i
  unfolding slot_at
  bit_again i = (flag_again (bit (mask_in img) i) (omega arith)).1

  slots_length : length (table_of img).slots ≡ stream_total
  unfolding table_of
  slots_length = refl

  mask_again : mask_of (table_of img).slots ≡ mask_in img
  mask_again =
      mask_only (table_of img).slots (mask_in img) (rw slots_length (omega (arith, h 0, h 1))) λ i b.
      let e : i < stream_total = omega (arith, slots_length) in
      sym (ap (λ (x : Slot). one_if (not x.is_open)) (slot-at img i e) ∙ bit_again i)

  memory_again : one_if (table_of img).remembers ≡ get_or img memory_offset 0
  unfolding table_of
  memory_again = (flag_again (get_or img memory_offset 0) t.memory).0

  count_again : length (table_of img).ppas ≡ get_or img ppa_count_offset 0
  unfolding table_of
  count_again = listed-length (ppa_at img) 0 (get_or img ppa_count_offset 0)

  counter_again : be32 (table_of img).counter ≡ get_or img 4 0 ∷ get_or img 5 0 ∷ get_or img 6 0 ∷ get_or img 7 0 ∷ []
  unfolding table_of
  counter_again = be32_back (get_or img 4 0) (get_or img 5 0) (get_or img 6 0) (get_or img 7 0) (h 5) (h 6) (h 7)

  ppas_again : pad_to places_size (joined ppa_bytes (table_of img).ppas) ≡ part img places_offset places_size
  unfolding table_of ppa_at
  ppas_again =
      pad-listed ppa_bytes (ppa_at img) img place_size places_offset (get_or img ppa_count_offset 0) places_size
      (λ k b. ppa_again (ppa_part img k) (part_bytes img (ppa_base k) place_size h) (part_length img (ppa_base k) place_size (omega (arith, t.size, t.few))))
      (omega (arith, t.few)) (omega (arith, t.size)) t.unused

  slots_again : joined slot_bytes (table_of img).slots ≡ part img slots_offset slots_size
  unfolding table_of slot_at
  slots_again =
      joined-listed slot_bytes (slot_at img) img slot_size slots_offset 0 stream_total λ i b.
      slot_again (slot_part img i) (part_bytes img (slot_base i) slot_size h) (part_length img (slot_base i) slot_size (omega (arith, t.size))) (t.slots i (omega arith))

  image_again : image_of (table_of img) ≡ img
  unfolding image_of header_bytes
  image_again =
      let m : be16 (mask_of (table_of img).slots) ≡ get_or img 0 0 ∷ get_or img 1 0 ∷ [] = rw mask_again (be16_back (get_or img 0 0) (get_or img 1 0) (h 1)) in
      (λ i. m i ++ (memory_again i ∷ count_again i ∷ []) ++ counter_again i ++ ppas_again i ++ slots_again i)
      ∙ ap (λ (r : List ℕ). r ++ part img places_offset places_size ++ part img slots_offset slots_size) (front img places_offset (omega (arith, t.size)))
      ∙ ap (λ (r : List ℕ). r ++ part img slots_offset slots_size) (sym (part_add img 0 places_offset places_size))
      ∙ sym (part_add img 0 slots_offset slots_size)
      ∙ take_all image_size img (omega (arith, t.size))

-- a tidy image is that of the table that it holds
pub image_back : (img : List ℕ) → tidy img ≡ true → image_of (table_of img) ≡ img
image_back img e = image_again img (tidy_parts img e)
