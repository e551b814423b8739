-- Storing a part of a table over its image gives the image of the table with that part replaced.
use Prim.Native.Nat.{ℕ, suc, ◌+◌, ◌-◌, ◌^◌, ◌≤◌, ◌<◌}
use native.Mathlib.Omega.{arith}
use mathlib.Core.Path.{◌≡◌, refl, sym, ap, ap₂, ◌∙◌}
use mathlib.Core.Bool.{Bool, true}
use mathlib.Core.List.{List, [], ◌∷◌, ◌++◌, append-nil}
use lib.ListN.{length, set, replicate, length-append}
use Rattle.ledger.specs.Tally.{one_if}
use Rattle.ledger.specs.Lists.{joined}
use Rattle.ledger.proofs.Lists.{joined-more, joined-kept}
use Rattle.octets.specs.Numbers.{be16, be32}
use Rattle.octets.specs.Runs.{paste}
use Rattle.octets.specs.Blocks.{pad_to}
use Rattle.paper.specs.Base.{Slot, Table, slot, stream, waiting, closed, just_opened, with_slot, with_stream, with_numbers, with_counter, with_ppa, remembering, stream_total, most_ppas, mac_size}
use Rattle.paper.specs.declared.Stream.{Stream}
use Rattle.paper.specs.declared.Ppa.{Ppa}
use Rattle.table_image.specs.Layout.{ppa_base, slot_base, mask_of, ppa_bytes, stream_bytes, waiting_bytes, slot_bytes, header_bytes, image_of}
use Rattle.table_image.specs.Layout.{mask_offset, ppa_count_offset, counter_offset, places_size, slot_size, slots_offset}
use Rattle.table_image.specs.Shape.{Shaped}
use Rattle.table_image.proofs.Bits.{mask_kept, mask_opened, mask_closed}
use Rattle.octets.proofs.Pieces.{joined-paste}
use Rattle.octets.proofs.Blocks.{pad-more}
use Rattle.table_image.proofs.Shapes.{stream-length, slot-length, slots-wide, ppas-length, header_length}
use Rattle.paper.specs.Saps.{most_open}

-- the first eight bytes: a mask, a memory of openings, a count of PPAs, a counter
abbrev pub first_bytes : ℕ → Bool → ℕ → ℕ → List ℕ
first_bytes m r n c = be16 m ++ (one_if r ∷ n ∷ []) ++ be32 c

-- a table's header with another mask and memory
abbrev headed : ℕ → Bool → Table → List ℕ
headed m r t = first_bytes m r (length t.ppas) t.counter ++ pad_to places_size (joined ppa_bytes t.ppas)

module _ (t : Table) (s : Shaped t) (i : ℕ) (b : i < stream_total) where
  inside : i < length t.slots
  inside = omega (arith, s.sixteen)

  -- bytes c over the front a of slot i, which is x then, behind any mask
  front : (m : ℕ) (x : Slot) (a c z : List ℕ) → slot_bytes (slot t i) ≡ a ++ z → slot_bytes x ≡ c ++ z → length a ≡ length c
      → paste (headed m t.remembers t ++ joined slot_bytes t.slots) (slot_base i) c
      ≡ headed m t.remembers t ++ joined slot_bytes (set t.slots i x)
  unfolding header_bytes
  front m x a c z e f g =
      joined-paste slot_bytes closed slot_size (headed m t.remembers t) slots_offset t.slots i (header_length t s) (slots-wide t s) inside x a c z e f g

  -- the same, where the slot stays open or closed
  store_front : (x : Slot) (a c z : List ℕ) → x.is_open ≡ (slot t i).is_open → slot_bytes (slot t i) ≡ a ++ z → slot_bytes x ≡ c ++ z
      → length a ≡ length c → paste (image_of t) (slot_base i) c ≡ image_of (with_slot t i x)
  unfolding image_of header_bytes with_slot
  store_front x a c z o e f g =
      front (mask_of t.slots) x a c z e f g
      ∙ ap (λ (m : ℕ). headed m t.remembers t ++ joined slot_bytes (set t.slots i x)) (sym (mask_kept t.slots i x inside o))

  -- a stream without its open numbers
  pub store_stream : (q : Stream) → paste (image_of t) (slot_base i) (stream_bytes q) ≡ image_of (with_stream t i q)
  unfolding with_stream with_numbers
  store_stream q =
      store_front (record { is_open = (slot t i).is_open; stream = q; waiting = waiting t i })
      (stream_bytes (stream t i)) (stream_bytes q) (waiting_bytes (waiting t i)) refl refl refl
      (stream-length (stream t i) ∙ sym (stream-length q))

  -- a stream with them
  pub store_numbers : (q : Stream) (w : List ℕ) → length w ≤ most_open
      → paste (image_of t) (slot_base i) (stream_bytes q ++ waiting_bytes w) ≡ image_of (with_numbers t i q w)
  unfolding with_numbers
  store_numbers q w h =
      let x : Slot = record { is_open = (slot t i).is_open; stream = q; waiting = w } in
      store_front x (slot_bytes (slot t i)) (slot_bytes x) [] refl (sym (append-nil (slot_bytes (slot t i)))) (sym (append-nil (slot_bytes x)))
      (slots-wide t s i ∙ sym (slot-length x h))

  -- a stream is opened: its bit is taken out of the mask, and the table remembers an opening
  pub store_opening : slot t i ≡ closed
      → paste (image_of t) mask_offset (be16 (mask_of t.slots - 2 ^ i) ++ (1 ∷ [])) ≡ image_of (with_slot (remembering t) i just_opened)
  unfolding image_of header_bytes with_slot remembering
  store_opening e =
      ap₂ (λ (m : ℕ) (l : List ℕ). headed m true t ++ l)
      (sym (mask_opened t.slots i just_opened inside (ap (λ (x : Slot). x.is_open) e) refl))
      (sym (joined-kept slot_bytes closed t.slots i just_opened (ap slot_bytes (sym e))))

  -- a stream is closed: its bit is put into the mask, and its slot is zero
  pub store_closing : (slot t i).is_open ≡ true
      → paste (paste (image_of t) mask_offset (be16 (mask_of t.slots + 2 ^ i))) (slot_base i) (replicate slot_size 0) ≡ image_of (with_slot t i closed)
  unfolding image_of header_bytes with_slot stream_bytes waiting_bytes
  store_closing e =
      front (mask_of t.slots + 2 ^ i) closed (slot_bytes (slot t i)) (replicate slot_size 0) []
      (sym (append-nil (slot_bytes (slot t i)))) refl (slots-wide t s i)
      ∙ ap (λ (m : ℕ). headed m t.remembers t ++ joined slot_bytes (set t.slots i closed))
      (sym (mask_closed t.slots i closed inside e refl))

-- the counter
pub store_counter : (t : Table) (n : ℕ) → paste (image_of t) counter_offset (be32 n) ≡ image_of (with_counter t n)
unfolding image_of header_bytes with_counter
store_counter t n = refl

-- one PPA more, and their number
pub store_ppa : (t : Table) → Shaped t → (p : Ppa) → length t.ppas < most_ppas → length p.mac ≡ mac_size
    → paste (paste (image_of t) (ppa_base (length t.ppas)) (ppa_bytes p)) ppa_count_offset (suc (length t.ppas) ∷ []) ≡ image_of (with_ppa t p)
unfolding image_of header_bytes with_ppa
store_ppa t s p h e =
    let n : ℕ = length t.ppas in
    let first : ℕ → List ℕ = λ k. first_bytes (mask_of t.slots) t.remembers k t.counter in
    let rest : List ℕ = joined slot_bytes t.slots in
    let l : suc n ≡ length (t.ppas ++ (p ∷ [])) = omega (arith, length-append t.ppas (p ∷ [])) in
    ap (λ (r : List ℕ). paste r ppa_count_offset (suc n ∷ []))
    (pad-more (first n) (joined ppa_bytes t.ppas) (ppa_bytes p) rest places_size (ppa_base n) (omega (arith, ppas-length t s)) (omega (arith, ppas-length t s)))
    ∙ ap₂ (λ (k : ℕ) (r : List ℕ). first k ++ (pad_to places_size r ++ rest)) l (sym (joined-more ppa_bytes t.ppas p))
