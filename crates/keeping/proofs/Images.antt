-- Sound tables as images. The image of one is sound, since it is tidy and holds that table; a sound image holds a sound table; so every
-- call, which keeps a sound table sound, keeps a sound image sound.
use Prim.Native.Nat.{ℕ, zero, suc, ◌+◌, ◌*◌, ◌-◌, ◌^◌, ◌≤◌, ◌<◌}
use mathlib.Core.Path.{◌≡◌, refl, sym, ap, ◌∙◌}
use mathlib.Core.Bool.{true}
use mathlib.Core.List.{List, [], ◌∷◌, ◌++◌, map, append_assoc, append-nil}
use lib.ListN.{length, get_or, take, drop, replicate}
use lib.Seq.{drop_at}
use lib.Dec.{leb}
use native.Mathlib.Omega.{arith}
use borrow.Author.Tests.{eq-eqb, ne_eqb, le-leb}
use Rattle.ledger.specs.Tally.{occ, all_of}
use Rattle.ledger.proofs.Tallies.{both_of, to_both, at_all, chosen, one_most, sum_none}
use Rattle.ledger.specs.Lists.{listed, joined}
use Rattle.ledger.proofs.Lists.{each-listed}
use Rattle.octets.specs.Numbers.{be32_at}
use Rattle.octets.specs.Runs.{Bytes, all_zero}
use Rattle.octets.specs.Blocks.{flat}
use Rattle.octets.proofs.Runs.{part_bytes, zero-bytes, zeros_pass}
use Rattle.octets.proofs.Numbers.{be32_at-small}
use Rattle.octets.proofs.Blocks.{flat-length}
use Rattle.paper.specs.Base.{Slot, closed, Table, slot, ppa_numbers, no_ppa, fresh, stream_total, mac_size}
use Rattle.paper.specs.Correlations.{occurrences}
use Rattle.paper.specs.Sound.{sound}
use Rattle.paper.specs.Step.{step}
use Rattle.paper.specs.declared.Ppa.{Ppa}
use Rattle.paper.proofs.StateNumbers.{in_every}
use Rattle.paper.specs.Saps.{most_open}
use Rattle.table_image.specs.Layout.{ppa_base, slot_base, ppa_from, waiting_from, slot_at, ppa_at, table_of, ppa_bytes, stream_bytes, waiting_bytes}
use Rattle.table_image.specs.Layout.{slot_bytes, header_bytes, image_of, is_state, tidy_slot, slot_parts, tidy_ppas, tidy, sound_image}
use Rattle.table_image.specs.Layout.{ppa_count_offset, places_offset, place_size, places_size, count_offset, numbers_offset, numbers_size, slot_size}
use Rattle.table_image.specs.Layout.{number_base, ppa_part, slot_part}
use Rattle.table_image.specs.Shape.{Shaped}
use Rattle.table_image.proofs.Shapes.{ppas-length, image-length}
use Rattle.table_image.proofs.TableBack.{slot-part, table_back}
use Rattle.table_image.proofs.TidyImage.{tidy_parts, shaped-table}
use Rattle.call_outcomes.specs.Leaving.{Left, leaving, call_of}
use Rattle.keeping.specs.Soundness.{Sound}
use Rattle.keeping.proofs.Lent.{shaped, image-bytes}
use Rattle.keeping.proofs.NextNumber.{counter-small}
use Rattle.keeping.proofs.Kept.{keeps, fresh-sound}
use Rattle.keeping.proofs.Tested.{sound_test, sound_tested}

-- what stands in the second of two lists
drop_past : (a b : List ℕ) (n m : ℕ) → length a ≡ m → drop (n + m) (a ++ b) ≡ drop n b
drop_past [] b n zero e = let z : n + 0 ≡ n = omega arith in ap (λ (k : ℕ). drop k b) z
drop_past [] b n (suc m) e = absurd (omega arith)
drop_past (x ∷ a) b n zero e = absurd (omega arith)
drop_past (x ∷ a) b n (suc m) e = let z : n + suc m ≡ suc (n + m) = omega arith in ap (λ (k : ℕ). drop k (x ∷ a ++ b)) z ∙ drop_past a b n m (omega arith)

-- ---- the image of a sound table is tidy

slot-tidy : (x : Slot) → length x.waiting ≤ most_open → tidy_slot (slot_bytes x) ≡ true
unfolding tidy_slot is_state stream_bytes waiting_bytes
slot-tidy x h =
    let w : List ℕ = x.waiting in
    let z : List ℕ = replicate (numbers_size - length (flat w)) 0 in
    to_both _ _ (in_every x.stream.state) (to_both _ _ (le-leb _ _ h)
    (ap (λ (l : List ℕ). all_zero (take (numbers_size - length w * 4) l))
    (drop_past (take numbers_offset (slot_bytes x)) (flat w ++ z) (length w * 4) numbers_offset refl ∙ drop_at (flat w) z (length w * 4) (flat-length w) ∙ sym (append-nil z))
    ∙ zeros_pass (numbers_size - length w * 4) (numbers_size - length (flat w)) [] (omega (arith, flat-length w))))

module _ (t : Table) (k : Sound t) where
  memory_tidy : leb (get_or (image_of t) 2 0) 1 ≡ true
  unfolding image_of header_bytes
  memory_tidy = le-leb _ _ (one_most t.remembers)

  ppas-tidy : tidy_ppas (image_of t) ≡ true
  unfolding image_of header_bytes
  ppas-tidy =
      let l : List ℕ = joined ppa_bytes t.ppas in
      let z : List ℕ = replicate (places_size - length l) 0 in
      let r : List ℕ = joined slot_bytes t.slots in
      to_both _ _ (le-leb _ _ k.most)
      (ap (λ (c : List ℕ). all_zero (take (places_size - length t.ppas * place_size) c))
      (drop_past (take places_offset (image_of t)) ((l ++ z) ++ r) (length t.ppas * place_size) places_offset refl
      ∙ ap (drop (length t.ppas * place_size)) (append_assoc l z r)
      ∙ drop_at l (z ++ r) (length t.ppas * place_size) (ppas-length t (shaped t k)))
      ∙ zeros_pass (places_size - length t.ppas * place_size) (places_size - length l) r (omega (arith, ppas-length t (shaped t k))))

  slots-tidy : all_of tidy_slot (slot_parts (image_of t)) ≡ true
  slots-tidy = at_all tidy_slot (slot_bytes closed) (slot_parts (image_of t))
      (each-listed (λ (c : List ℕ). tidy_slot c ≡ true) (slot_part (image_of t)) 0 stream_total (slot_bytes closed)
      (λ i h. ap tidy_slot (slot-part t (shaped t k) i h) ∙ slot-tidy (slot t i) ((shaped t k).eight i)) (slot-tidy closed (omega arith)))

  pub image-tidy : tidy (image_of t) ≡ true
  unfolding tidy
  image-tidy = to_both _ _ (eq-eqb _ _ (image-length t (shaped t k))) (to_both _ _ (image-bytes t k) (to_both _ _ memory_tidy (to_both _ _ ppas-tidy slots-tidy)))

  -- The image of a sound table is a sound image.
  pub image-sound : sound_image (image_of t) ≡ true
  unfolding sound_image
  image-sound = to_both _ _ image-tidy (ap sound (table_back t (shaped t k)) ∙ sound_test t k)

-- ---- a sound image holds a sound table

-- a number that no value is occurs among none of them
none_listed : (f : ℕ → ℕ) (i n m : ℕ) → ((k : ℕ) → f k < 2 ^ 32) → 2 ^ 32 ≤ m → occ m (listed f i n) ≡ 0
none_listed f i zero m h b = refl
none_listed f i (suc n) m h b =
    let z : m ≡ f i → ⊥ = λ e. omega (arith, h i) in
    rw (ne_eqb m (f i) z) (omega (arith, none_listed f (suc i) n m h b))

map-listed : (g : Ppa → ℕ) (f : ℕ → Ppa) (i n : ℕ) → map g (listed f i n) ≡ listed (λ k. g (f k)) i n
map-listed g f i zero = refl
map-listed g f i (suc n) = ap (λ (l : List ℕ). g (f i) ∷ l) (map-listed g f (suc i) n)

module _ (img : List ℕ) (h : tidy img ≡ true) where
  bytes : Bytes img
  bytes = (tidy_parts img h).bytes

  macs-tidy : (j : ℕ) → Bytes (get_or (table_of img).ppas j no_ppa).mac
  unfolding table_of ppa_at ppa_from
  macs-tidy =
      each-listed (λ (p : Ppa). Bytes p.mac) (ppa_at img) 0 (get_or img ppa_count_offset 0) no_ppa
      (λ k b. part_bytes (ppa_part img k) 4 mac_size (part_bytes img (ppa_base k) place_size bytes)) (zero-bytes mac_size)

  numbers-small : (n : ℕ) → 2 ^ 32 ≤ n → occurrences (table_of img) n ≡ 0
  unfolding occurrences table_of slot_at waiting_from
  numbers-small n b = sum_none (λ (x : Slot). occ n x.waiting) closed (listed (slot_at img) 0 stream_total)
      (each-listed (λ (x : Slot). occ n x.waiting ≡ 0) (slot_at img) 0 stream_total closed
      (λ i d. let c : List ℕ = slot_part img i in
      none_listed (λ k. be32_at c (number_base k)) 0 (get_or c count_offset 0) n (λ k. be32_at-small c (number_base k) (part_bytes img (slot_base i) slot_size bytes)) b)
      refl)

  ppas-small : (p : ℕ) → 2 ^ 32 ≤ p → occ p (ppa_numbers (table_of img)) ≡ 0
  unfolding table_of ppa_at ppa_from
  ppas-small p b = ap (occ p) (map-listed (λ (p : Ppa). p.number.0) (ppa_at img) 0 (get_or img ppa_count_offset 0))
      ∙ none_listed (λ k. be32_at (ppa_part img k) 0) 0 (get_or img ppa_count_offset 0) p (λ k. be32_at-small (ppa_part img k) 0 (part_bytes img (ppa_base k) place_size bytes)) b

pub table-sound : (img : List ℕ) → sound_image img ≡ true → Sound (table_of img)
unfolding sound_image
table-sound img s =
    let h : (tidy img ≡ true) × (sound (table_of img) ≡ true) = both_of _ _ s in
    let q : Shaped (table_of img) = shaped-table img h.0 in
    sound_tested (table_of img) q.sixteen (counter-small img h.0) (λ j. record { six = q.macs j; bytes = macs-tidy img h.0 j }) (numbers-small img h.0) (ppas-small img h.0) h.1

-- A fresh table as it is lent is sound.
pub fresh-image : sound_image (image_of fresh) ≡ true
fresh-image = image-sound fresh fresh-sound

-- Every call keeps a sound table sound: as the caller lends it, and as it is left.
pub call_keeps : (img r room : List ℕ) → sound_image img ≡ true → Bytes r → sound_image (call_of img r room).image ≡ true
unfolding call_of leaving
call_keeps img r room s b =
    let t : Table = table_of img in
    chosen P _ _ _ (λ e. s) (λ e. chosen P _ _ _ (λ e. s) (λ e. image-sound (step t r (length room)).table (keeps t (table-sound img s) r b (length room))))
  where
    P : Left → Type 0
    P l = sound_image l.image ≡ true
