-- The mask of closed streams: what its bits, its lowest one and their number tell of the slots, and how it changes.
use Prim.Native.Nat.{ℕ, zero, suc, ◌+◌, ◌-◌, ◌*◌, ◌/◌, ◌%◌, ◌^◌, ◌≤◌, ◌<◌}
use native.Mathlib.Omega.{arith}
use native.Mathlib.Nat.{div-one, pow-succ', div-div-eq-div-mul}
use lib.Pow.{shl_exact}
use lib.Dec.{lit<}
use mathlib.Core.Path.{◌≡◌, refl, sym, ap, ◌∙◌}
use mathlib.Core.Bool.{Bool, true, false, not}
use mathlib.Core.List.{List, [], ◌∷◌}
use lib.ListN.{length, get_or, set}
use lib.Count.{count_trailing_zeros, under, ones, ones_step}
use Rattle.ledger.specs.Choice.{pick}
use Rattle.ledger.proofs.Tallies.{one_most}
use Rattle.ledger.specs.Tally.{one_if, sum_of, first_of}
use Rattle.paper.specs.Base.{Slot, closed, Table, lowest_free, stream_total}
use Rattle.table_image.specs.Layout.{bit, mask_of}
use Rattle.table_image.specs.Shape.{Shaped}

-- ---- bits of any number

bit-zero : (m : ℕ) → bit m 0 ≡ m % 2
bit-zero m = ap (λ (x : ℕ). x % 2) (div-one m)

bit-suc : (m i : ℕ) → bit m (suc i) ≡ bit (m / 2) i
bit-suc m i = ap (λ (x : ℕ). m / x % 2) (pow-succ' 2 i) ∙ ap (λ (x : ℕ). x % 2) (sym (div-div-eq-div-mul m 2 (2 ^ i)))

-- what has bit i is no less than the bit
pub set_le : (i m : ℕ) → bit m i ≡ 1 → 2 ^ i ≤ m
set_le zero m h = omega (arith, bit-zero m)
set_le (suc i) m h = omega (arith, pow-succ' 2 i, set_le i (m / 2) (sym (bit-suc m i) ∙ h))

-- what has k bits and not bit i has k bits with it
pub raise_fits : (i k m : ℕ) → i < k → m < 2 ^ k → bit m i ≡ 0 → m + 2 ^ i < 2 ^ k
raise_fits i zero m l h z = absurd (omega arith)
raise_fits zero (suc k) m l h z = omega (arith, bit-zero m, pow-succ' 2 k)
raise_fits (suc i) (suc k) m l h z =
    omega (arith, pow-succ' 2 k, pow-succ' 2 i, raise_fits i k (m / 2) (omega arith) (omega (arith, pow-succ' 2 k)) (sym (bit-suc m i) ∙ z))

-- the code's bit i
pub one_shl : (i : ℕ) → i < stream_total → 1 * 2 ^ i % 2 ^ 16 ≡ 2 ^ i
one_shl i h = let e : 1 * 2 ^ i % 2 ^ 16 ≡ 1 * 2 ^ i = shl_exact 1 i 16 (lit< tt) (omega arith) in omega arith

-- ---- bits of the mask

-- 1 for a closed slot
abbrev free_bit : Slot → ℕ
free_bit x = one_if (not x.is_open)

free_le : (x : Slot) → free_bit x ≤ 1
free_le x = one_most (not x.is_open)

mask_low : (x : Slot) (l : List Slot) → mask_of (x ∷ l) % 2 ≡ free_bit x
mask_low x l = omega (arith, free_le x)

mask_half : (x : Slot) (l : List Slot) → mask_of (x ∷ l) / 2 ≡ mask_of l
mask_half x l = omega (arith, free_le x)

-- a bit tells whether its slot is closed
pub mask_bit : (l : List Slot) (i : ℕ) → i < length l → bit (mask_of l) i ≡ one_if (not (get_or l i closed).is_open)
mask_bit [] i h = absurd (omega arith)
mask_bit (x ∷ l) zero h = bit-zero (mask_of (x ∷ l)) ∙ mask_low x l
mask_bit (x ∷ l) (suc i) h = bit-suc (mask_of (x ∷ l)) i ∙ ap (λ (m : ℕ). bit m i) (mask_half x l) ∙ mask_bit l i (omega arith)

-- the mask is the only number whose bits tell that
pub mask_only : (l : List Slot) (m : ℕ) → m < 2 ^ length l
    → ((i : ℕ) → i < length l → bit m i ≡ one_if (not (get_or l i closed).is_open)) → mask_of l ≡ m
mask_only [] m h e = omega arith
mask_only (x ∷ l) m h e =
    let r : mask_of l ≡ m / 2 = mask_only l (m / 2) (omega (arith, pow-succ' 2 (length l))) (λ i k. sym (bit-suc m i) ∙ e (suc i) (omega arith)) in
    omega (arith, bit-zero m, e 0 (omega arith))

-- the lowest set bit is the lowest free stream
pub lowest_free_lem : (t : Table) → Shaped t → count_trailing_zeros 16 (mask_of t.slots) ≡ lowest_free t
unfolding lowest_free count_trailing_zeros
lowest_free_lem t s = ap (λ (k : ℕ). count_trailing_zeros k (mask_of t.slots)) (sym s.sixteen) ∙ go t.slots
  where
    go : (l : List Slot) → count_trailing_zeros (length l) (mask_of l) ≡ first_of (λ (x : Slot). not x.is_open) l
    go [] = refl
    go (x ∷ l) = rw (mask_low x l, mask_half x l, go l) (at (not x.is_open) (first_of (λ (x : Slot). not x.is_open) l))
      where
        at : (b : Bool) (n : ℕ) → under (one_if b) n ≡ pick b 0 (suc n)
        at true n = refl
        at false n = refl

-- the number of set bits is that of the closed streams
pub free_total : (l : List Slot) → ones (mask_of l) ≡ sum_of (λ (x : Slot). one_if (not x.is_open)) l
unfolding ones
free_total [] = refl
free_total (x ∷ l) = ones_step (mask_of (x ∷ l)) ∙ rw (mask_low x l, mask_half x l, free_total l)

-- ---- a slot is set

-- what slot i adds to the mask, open or not
abbrev weight : Bool → ℕ → ℕ
weight true i = 0
weight false i = 2 ^ i

mask_weight : (l : List Slot) (i : ℕ) (x : Slot) → i < length l
    → mask_of (set l i x) + weight (get_or l i closed).is_open i ≡ mask_of l + weight x.is_open i
mask_weight [] i x h = absurd (omega arith)
mask_weight (y ∷ l) zero x h = omega (arith, at x.is_open, at y.is_open)
  where
    at : (b : Bool) → weight b 0 ≡ one_if (not b)
    at true = refl
    at false = refl
mask_weight (y ∷ l) (suc i) x h = omega (arith, at x.is_open, at (get_or l i closed).is_open, mask_weight l i x (omega arith))
  where
    at : (b : Bool) → weight b (suc i) ≡ 2 * weight b i
    at true = refl
    at false = pow-succ' 2 i

-- a slot that stays open or closed leaves the mask
pub mask_kept : (l : List Slot) (i : ℕ) (x : Slot) → i < length l → x.is_open ≡ (get_or l i closed).is_open → mask_of (set l i x) ≡ mask_of l
mask_kept l i x h e = omega (arith, mask_weight l i x h, ap (λ (b : Bool). weight b i) e)

-- one that is opened leaves it without its bit
pub mask_opened : (l : List Slot) (i : ℕ) (x : Slot) → i < length l → (get_or l i closed).is_open ≡ false → x.is_open ≡ true
    → mask_of (set l i x) ≡ mask_of l - 2 ^ i
mask_opened l i x h e f =
    let w : Bool → ℕ = λ b. weight b i in
    omega (arith, mask_weight l i x h, ap w e, ap w f)

-- one that is closed leaves it with its bit
pub mask_closed : (l : List Slot) (i : ℕ) (x : Slot) → i < length l → (get_or l i closed).is_open ≡ true → x.is_open ≡ false
    → mask_of (set l i x) ≡ mask_of l + 2 ^ i
mask_closed l i x h e f =
    let w : Bool → ℕ = λ b. weight b i in
    omega (arith, mask_weight l i x h, ap w e, ap w f)
