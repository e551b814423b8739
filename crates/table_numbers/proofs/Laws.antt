-- The open numbers of a stream lie one behind the other with zeros behind them: so one more goes over the first zeros, and where
-- one goes, those behind it move up.
use Rattle.std.proofs.Common.{◌≡◌, ℕ, suc, ◌+◌, ◌-◌, ◌*◌, ◌<◌, ◌≤◌, List, [], ◌∷◌, ◌++◌, length, get_or, take, drop, set, replicate, sym, ap, ◌∙◌, ap₂, append_assoc, append-nil, arith, length-append, length-drop, length-take-le, take_all, take_at, drop_at}
use lib.ListN.{length-replicate, replicate-append-replicate}
use lib.Seq.{split_at}
use Rattle.octets.specs.Numbers.{be32_at, be32}
use Rattle.octets.specs.Runs.{part, paste}
use Rattle.octets.specs.Blocks.{flat, pad_to}
use Rattle.octets.proofs.Runs.{part_length, part_add, paste_join}
use Rattle.octets.proofs.Numbers.{part-be32}
use Rattle.octets.proofs.Blocks.{flat-length, pad-length, pad-more}
use Rattle.paper.specs.Base.{Slot, Table, slot, stream, waiting, with_numbers, stream_total}
use Rattle.paper.specs.declared.Stream.{Stream}
use Rattle.table_image.specs.Layout.{slot_base, waiting_from, slot_at, table_of, stream_bytes, waiting_bytes, slot_bytes, image_of, count_offset}
use Rattle.table_image.specs.Layout.{numbers_offset, numbers_size, slot_size, slots_offset, number_base, slot_part}
use Rattle.table_image.specs.Lent.{Lent}
use Rattle.table_image.proofs.Shapes.{stream-length}
use Rattle.table_image.proofs.Stored.{store_numbers}
use Rattle.table_image.proofs.TableBack.{slot-at, slot-part}
use Rattle.ledger.specs.Lists.{listed}
use Rattle.ledger.proofs.Lists.{listed-length, listed_at, joined_append}
use Rattle.paper.specs.Saps.{most_open}

-- ---- in an image

-- a stream has no more open numbers than there are places for
pub placed-few : (img : List ℕ) → Lent img → (i k : ℕ) → k < length (waiting (table_of img) i) → k < most_open
placed-few img l i k h = omega (arith, h, l.shaped.eight i)

module _ (img : List ℕ) (l : Lent img) (i : ℕ) (b : i < stream_total) where
  -- the number at a place
  pub number_at : (k : ℕ) → k < length (waiting (table_of img) i) → be32_at img (i * slot_size + k * 4 + (slots_offset + numbers_offset)) ≡ get_or (waiting (table_of img) i) k 0
  unfolding slot_at waiting_from
  number_at k h =
      let c : List ℕ = slot_part img i in
      let f : ℕ → ℕ = λ k. be32_at c (number_base k) in
      let w : waiting (table_of img) i ≡ listed f 0 (get_or c count_offset 0) = ap (λ (x : Slot). x.waiting) (slot-at img i b) in
      let n : length (waiting (table_of img) i) ≡ get_or c count_offset 0 = ap length w ∙ listed-length f 0 (get_or c count_offset 0) in
      let z : k ≡ 0 + k = omega arith in
      let from : ℕ = i * slot_size + k * 4 + (slots_offset + numbers_offset) in
      sym (part-be32 img (slot_base i) slot_size (number_base k) from (omega (arith, l.shaped.eight i)) (omega arith))
      ∙ ap f z
      ∙ sym (listed_at f 0 (get_or c count_offset 0) k 0 (omega arith))
      ∙ ap (λ (v : List ℕ). get_or v k 0) (sym w)

  -- the bytes of a slot
  slot-bytes : slot_part img i ≡ slot_bytes (slot (table_of img) i)
  slot-bytes = ap (λ (r : List ℕ). slot_part r i) (sym l.same) ∙ slot-part (table_of img) l.shaped i b

  -- their bytes
  pub numbers-part : part img (i * slot_size + (slots_offset + count_offset)) (1 + numbers_size) ≡ waiting_bytes (waiting (table_of img) i)
  numbers-part =
      let t : Table = table_of img in
      let s : List ℕ = stream_bytes (stream t i) in
      let bytes : ℕ = 1 + numbers_size in
      let p : i * slot_size + (slots_offset + count_offset) ≡ slot_base i + count_offset = omega arith in
      ap (λ (k : ℕ). part img k bytes) p
      ∙ sym (drop_at (part img (slot_base i) count_offset) (part img (slot_base i + count_offset) bytes) count_offset
      (part_length img (slot_base i) count_offset (omega (arith, l.held.long))))
      ∙ ap (drop count_offset) (sym (part_add img (slot_base i) count_offset bytes) ∙ slot-bytes)
      ∙ drop_at s (waiting_bytes (waiting t i)) count_offset (stream-length (stream t i))

  -- a stream and its open numbers are stored
  pub numbers_stored : (s : Stream) (w : List ℕ) → length w ≤ most_open
      → paste img (slot_base i) (stream_bytes s ++ waiting_bytes w) ≡ image_of (with_numbers (table_of img) i s w)
  numbers_stored s w h =
      ap (λ (r : List ℕ). paste r (slot_base i) (stream_bytes s ++ waiting_bytes w)) (sym l.same) ∙ store_numbers (table_of img) l.shaped i b s w h

-- ---- one more, one less

-- how long count and numbers are
pub waiting-length : (w : List ℕ) → length w ≤ most_open → length (waiting_bytes w) ≡ 1 + numbers_size
unfolding waiting_bytes
waiting-length w h = ap suc (pad-length numbers_size (flat w) (omega (arith, flat-length w)))

-- the bytes with one number more, and the count with it
pub more_bytes : (w : List ℕ) (n : ℕ) → length w < most_open
    → set (paste (waiting_bytes w) (length w * 4 + 1) (be32 n)) 0 (length w + 1) ≡ waiting_bytes (w ++ (n ∷ []))
unfolding waiting_bytes
more_bytes w n h =
    let first : List ℕ = length w ∷ [] in
    let at : ℕ = length w * 4 + 1 in
    let p : paste (first ++ pad_to numbers_size (flat w)) at (be32 n) ≡ first ++ pad_to numbers_size (flat w ++ be32 n) =
    simp append-nil at (pad-more first (flat w) (be32 n) [] numbers_size at (omega (arith, flat-length w)) (omega (arith, flat-length w))) in
    let c : length w + 1 ≡ length (w ++ (n ∷ [])) = omega (arith, length-append w (n ∷ [])) in
    ap (λ (r : List ℕ). set r 0 (length w + 1)) p ∙ ap₂ (λ (k : ℕ) (r : List ℕ). k ∷ pad_to numbers_size r) c (sym (joined_append be32 w (n ∷ [])))

-- the bytes around those of the number at a place, zeros behind them, and the count without it
pub less-bytes : (w : List ℕ) (k : ℕ) → k < length w → length w ≤ most_open
    → set
    (paste (paste (replicate (1 + numbers_size) 0) 0 (part (waiting_bytes w) 0 (k * 4 + 1 - 0))) (k * 4 + 1)
    (part (waiting_bytes w) (k * 4 + 1 + 4) (1 + numbers_size - (k * 4 + 1 + 4))))
    0 (length w - 1)
    ≡ waiting_bytes (take k w ++ drop (suc k) w)
unfolding waiting_bytes
less-bytes w k h g =
    let at : ℕ = k * 4 + 1 in
    let rest : ℕ = 1 + numbers_size - (at + 4) in
    let room : List ℕ = replicate (1 + numbers_size) 0 in
    let a : List ℕ = flat (take k w) in
    let x : List ℕ = be32 (get_or w k 0) in
    let z : List ℕ = flat (drop (suc k) w) in
    let o : List ℕ = replicate (numbers_size - length (flat w)) 0 in
    let first : List ℕ = length w ∷ a in
    let f : flat w ≡ a ++ (x ++ z) = ap flat (split_at w k 0 h) ∙ joined_append be32 (take k w) (get_or w k 0 ∷ drop (suc k) w) in
    let s : waiting_bytes w ≡ first ++ (x ++ (z ++ o)) = ap (λ (r : List ℕ). length w ∷ (r ++ o)) f ∙ simp append_assoc in
    let n : length first ≡ at = omega (arith, flat-length (take k w), length-take-le k w (omega arith)) in
    let m : length (z ++ o) ≡ numbers_size - 4 - k * 4 =
    omega (arith, length-append z o, flat-length (drop (suc k) w), length-drop (suc k) w, length-replicate {A = ℕ} (numbers_size - length (flat w)) 0, flat-length w) in
    let p : part (waiting_bytes w) 0 (at - 0) ≡ first = ap (take (at - 0)) s ∙ take_at first (x ++ (z ++ o)) (at - 0) (omega arith) in
    let q : part (waiting_bytes w) (at + 4) rest ≡ z ++ o =
    ap (λ (r : List ℕ). part r (at + 4) rest) (s ∙ sym (append_assoc first x (z ++ o)))
    ∙ ap (take rest) (drop_at (first ++ x) (z ++ o) (at + 4) (omega (arith, length-append first x)))
    ∙ take_all rest (z ++ o) (omega arith) in
    let j : paste (paste room 0 first) at (z ++ o) ≡ (first ++ (z ++ o)) ++ replicate 4 0 =
    (let e : at ≡ 0 + length first = omega arith in ap (λ (i : ℕ). paste (paste room 0 first) i (z ++ o)) e)
    ∙ sym (paste_join room 0 first (z ++ o) (omega arith))
    ∙ (let e : 0 + length (first ++ (z ++ o)) ≡ 1 + numbers_size - 4 = omega (arith, length-append first (z ++ o)) in ap (λ (i : ℕ). (first ++ (z ++ o)) ++ drop i room) e) in
    let u : numbers_size - length (a ++ z) ≡ numbers_size - length (flat w) + 4 = omega (arith, length-append a z, length-append a (x ++ z), ap length f, flat-length w) in
    let v : (a ++ (z ++ o)) ++ replicate 4 0 ≡ pad_to numbers_size (flat (take k w ++ drop (suc k) w)) =
    rw (joined_append be32, u, ← replicate-append-replicate {A = ℕ} (numbers_size - length (flat w)) 4 0) (simp append_assoc) in
    let c : length w - 1 ≡ length (take k w ++ drop (suc k) w) =
    omega (arith, length-append (take k w) (drop (suc k) w), length-take-le k w (omega arith), length-drop (suc k) w) in
    ap₂ (λ (b r : List ℕ). set (paste (paste room 0 b) at r) 0 (length w - 1)) p q
    ∙ ap (λ (r : List ℕ). set r 0 (length w - 1)) j
    ∙ ap₂ (λ (i : ℕ) (r : List ℕ). i ∷ r) c v
