-- The image of a sound table is one of bytes, and has its shape: each number that it holds fits in the bytes of its place.
use Prim.Native.Nat.{ℕ, zero, suc, ◌+◌, ◌*◌, ◌-◌, ◌/◌, ◌%◌, ◌^◌, ◌≤◌, ◌<◌}
use mathlib.Core.Path.{◌≡◌, refl, ap}
use mathlib.Core.Bool.{Bool, true, false, not}
use mathlib.Core.List.{List, [], ◌∷◌, ◌++◌, map}
use lib.ListN.{length, get_or, replicate}
use lib.Dec.{ltb}
use native.Mathlib.Omega.{arith}
use native.Mathlib.Nat.{pow-succ'}
use borrow.Author.Tests.{ltb-true, lt-ltb, eq-eqb}
use Rattle.ledger.specs.Tally.{one_if, occ}
use Rattle.ledger.proofs.Tallies.{both_of, to_both, at_all}
use Rattle.ledger.proofs.Sums.{sum_at}
use Rattle.ledger.specs.Lists.{joined}
use Rattle.octets.specs.Numbers.{be16, be32}
use Rattle.octets.specs.Blocks.{flat, pad_to}
use Rattle.octets.specs.Runs.{are_bytes}
use Rattle.paper.specs.Base.{number_of, is_in, is_among, bound_states, Slot, closed, Table, slot, stream, waiting, ppa_numbers, no_ppa}
use Rattle.paper.specs.Correlations.{occurrences}
use Rattle.paper.specs.declared.Stream.{Stream}
use Rattle.paper.specs.declared.Ppa.{Ppa}
use Rattle.paper.proofs.StateNumbers.{state_byte}
use Rattle.paper.proofs.Saps.{Small, bind_small}
use Rattle.paper.specs.Saps.{most_open}
use Rattle.table_image.specs.Layout.{mask_of, ppa_bytes, stream_bytes, waiting_bytes, slot_bytes, header_bytes, image_of, places_size, numbers_size}
use Rattle.table_image.specs.Shape.{Shaped}
use Rattle.keeping.specs.Soundness.{Sound}
use Rattle.keeping.proofs.Changes.{eight}

pub shaped : (t : Table) → Sound t → Shaped t
shaped t k = record { sixteen = k.sixteen; few = k.most; macs = λ j. (k.macs j).six; eight = λ i. omega (arith, (k.each i).few, eight (ppa_numbers t) (slot t i) (k.each i)) }

-- ---- bytes
append_bytes : (a b : List ℕ) → are_bytes a ≡ true → are_bytes b ≡ true → are_bytes (a ++ b) ≡ true
append_bytes [] b h g = g
append_bytes (x ∷ a) b h g = let c : (ltb x 256 ≡ true) × (are_bytes a ≡ true) = both_of _ _ h in to_both _ _ c.0 (append_bytes a b c.1 g)

byte : (n : ℕ) (l : List ℕ) → n < 256 → are_bytes l ≡ true → are_bytes (n ∷ l) ≡ true
byte n l h g = to_both _ _ (lt-ltb n 256 h) g

zero-bytes : (n : ℕ) → are_bytes (replicate n 0) ≡ true
zero-bytes zero = refl
zero-bytes (suc n) = zero-bytes n

pad-bytes : (n : ℕ) (l : List ℕ) → are_bytes l ≡ true → are_bytes (pad_to n l) ≡ true
pad-bytes n l h = append_bytes l (replicate (n - length l) 0) h (zero-bytes (n - length l))

be16-bytes : (v : ℕ) → v < 65536 → are_bytes (be16 v) ≡ true
be16-bytes v h = byte (v / 256) (v % 256 ∷ []) (omega arith) (byte (v % 256) [] (omega arith) refl)

be32-bytes : (v : ℕ) → v < 2 ^ 32 → are_bytes (be32 v) ≡ true
be32-bytes v h =
    byte (v / 16777216) (v / 65536 % 256 ∷ v / 256 % 256 ∷ v % 256 ∷ []) (omega arith) (byte (v / 65536 % 256) (v / 256 % 256 ∷ v % 256 ∷ []) (omega arith)
    (byte (v / 256 % 256) (v % 256 ∷ []) (omega arith) (byte (v % 256) [] (omega arith) refl)))

joined_bytes : {A : Type 0} (f : A → List ℕ) (d : A) (l : List A) → ((j : ℕ) → are_bytes (f (get_or l j d)) ≡ true) → are_bytes (joined f l) ≡ true
joined_bytes f d [] h = refl
joined_bytes f d (x ∷ l) h = append_bytes (f x) (joined f l) (h 0) (joined_bytes f d l (λ j. h (suc j)))

flat-bytes : (w : List ℕ) → ((n : ℕ) → 0 < occ n w → n < 2 ^ 32) → are_bytes (flat w) ≡ true
flat-bytes [] h = refl
flat-bytes (x ∷ w) h = append_bytes (be32 x) (flat w) (be32-bytes x (h x (rw (eq-eqb x x refl) (omega arith)))) (flat-bytes w (λ n m. h n (omega arith)))

mask_below : (l : List Slot) → mask_of l < 2 ^ length l
mask_below [] = omega arith
mask_below (x ∷ l) = go (not x.is_open) (mask_below l)
  where
    go : (b : Bool) → mask_of l < 2 ^ length l → one_if b + 2 * mask_of l < 2 ^ suc (length l)
    go true h = omega (arith, pow-succ' 2 (length l))
    go false h = omega (arith, pow-succ' 2 (length l))

-- ---- a stream

number_small : (l : List Ppa) → ((p : ℕ) → 0 < occ p (map (λ (x : Ppa). x.number.0) l) → p < 2 ^ 32) → (j : ℕ) → (get_or l j no_ppa).number.0 < 2 ^ 32
number_small [] h j = omega arith
number_small (x ∷ l) h zero = h x.number.0 (rw (eq-eqb x.number.0 x.number.0 refl) (omega arith))
number_small (x ∷ l) h (suc j) = number_small l (λ p m. h p (omega arith)) j

module _ (t : Table) (k : Sound t) where
  seat-small : (i : ℕ) → Small (stream t i)
  seat-small i = go (is_among bound_states (stream t i)) refl
    where
      go : (b : Bool) → is_among bound_states (stream t i) ≡ b → Small (stream t i)
      go true e = bind_small (stream t i) ((k.each i).bound e)
      go false e = let u = (k.each i).unbound e in record { mode = omega (arith, u.mode); sap = omega (arith, u.sap) }

  ppa-small : (i : ℕ) → (stream t i).ppa.0 < 2 ^ 32
  ppa-small i = go (is_in 0 (stream t i)) refl
    where
      go : (b : Bool) → is_in 0 (stream t i) ≡ b → (stream t i).ppa.0 < 2 ^ 32
      go true e = omega (arith, (k.each i).loose e)
      go false e = omega (arith, ltb-true 0 (occ (stream t i).ppa.0 (ppa_numbers t)) ((k.each i).attached e), k.differ (stream t i).ppa.0)

  open_small : (i n : ℕ) → 0 < occ n (waiting t i) → n < 2 ^ 32
  unfolding occurrences
  open_small i n h = omega (arith, sum_at (λ (x : Slot). occ n x.waiting) closed refl t.slots i, k.once n)

  slot-bytes : (i : ℕ) → are_bytes (slot_bytes (slot t i)) ≡ true
  unfolding stream_bytes waiting_bytes
  slot-bytes i =
      let s : Stream = stream t i in
      let w : List ℕ = waiting t i in
      let e : s.granted ≤ most_open = eight (ppa_numbers t) (slot t i) (k.each i) in
      append_bytes (stream_bytes s) (waiting_bytes w)
      (append_bytes ((number_of s.state ∷ s.mode ∷ []) ++ be16 s.sap ++ be32 s.ppa.0) (s.granted ∷ [])
      (append_bytes ((number_of s.state ∷ s.mode ∷ []) ++ be16 s.sap) (be32 s.ppa.0)
      (append_bytes (number_of s.state ∷ s.mode ∷ []) (be16 s.sap) (byte (number_of s.state) (s.mode ∷ []) (state_byte s.state) (byte s.mode [] (seat-small i).mode refl))
      (be16-bytes s.sap (seat-small i).sap))
      (be32-bytes s.ppa.0 (ppa-small i)))
      (byte s.granted [] (omega arith) refl))
      (byte (length w) (pad_to numbers_size (flat w)) (omega (arith, (k.each i).few)) (pad-bytes numbers_size (flat w) (flat-bytes w (open_small i))))

  ppa-bytes : (j : ℕ) → are_bytes (ppa_bytes (get_or t.ppas j no_ppa)) ≡ true
  ppa-bytes j =
      let p : Ppa = get_or t.ppas j no_ppa in
      append_bytes (be32 p.number.0) p.mac (be32-bytes p.number.0 (number_small t.ppas (λ p h. omega (arith, k.differ p)) j))
      (at_all (λ (n : ℕ). ltb n 256) 0 p.mac (λ b. lt-ltb _ _ ((k.macs j).bytes b)))

  header_bytes_lem : are_bytes (header_bytes t) ≡ true
  unfolding header_bytes
  header_bytes_lem =
      append_bytes (be16 (mask_of t.slots) ++ (one_if t.remembers ∷ length t.ppas ∷ []) ++ be32 t.counter) (pad_to places_size (joined ppa_bytes t.ppas))
      (append_bytes (be16 (mask_of t.slots) ++ (one_if t.remembers ∷ length t.ppas ∷ [])) (be32 t.counter)
      (append_bytes (be16 (mask_of t.slots)) (one_if t.remembers ∷ length t.ppas ∷ []) (be16-bytes (mask_of t.slots) below)
      (byte (one_if t.remembers) (length t.ppas ∷ []) (flag t.remembers) (byte (length t.ppas) [] (omega (arith, k.most)) refl)))
      (be32-bytes t.counter k.small))
      (pad-bytes places_size (joined ppa_bytes t.ppas) (joined_bytes ppa_bytes no_ppa t.ppas ppa-bytes))
    where
      flag : (b : Bool) → one_if b < 256
      flag true = omega arith
      flag false = omega arith

      below : mask_of t.slots < 65536
      below = let e : 2 ^ length t.slots ≡ 65536 = ap (λ (n : ℕ). 2 ^ n) k.sixteen in omega (arith, e, mask_below t.slots)

  -- the image of a sound table is one of bytes
  pub image-bytes : are_bytes (image_of t) ≡ true
  unfolding image_of
  image-bytes = append_bytes (header_bytes t) (joined slot_bytes t.slots) header_bytes_lem (joined_bytes slot_bytes closed t.slots slot-bytes)
