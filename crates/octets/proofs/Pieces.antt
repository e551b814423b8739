-- Pieces of one width laid end to end: piece i begins i widths on, so it is read or replaced there and the others stay.
use Prim.Native.Nat.{ℕ, zero, suc, ◌+◌, ◌-◌, ◌*◌, ◌≤◌, ◌<◌}
use native.Mathlib.Omega.{arith}
use native.Mathlib.Nat.{zero-mul, suc-mul}
use mathlib.Core.Path.{◌≡◌, sym, ap, ◌∙◌}
use mathlib.Core.Bool.{true}
use mathlib.Core.List.{List, [], ◌∷◌, ◌++◌, append_assoc}
use lib.ListN.{length, get_or, take, drop, set, replicate, length-append}
use lib.Seq.{take_at, drop_at, take-length, split_at, set_split}
use Rattle.octets.specs.Runs.{part, paste, all_zero}
use Rattle.octets.proofs.Runs.{zero-replicate, part_length, part_add, paste_middle}
use Rattle.octets.specs.Blocks.{pad_to}
use Rattle.ledger.specs.Lists.{listed, joined}
use Rattle.ledger.proofs.Lists.{joined_append}

-- ---- runs of pieces

module _ {A : Type 0} (f : A → List ℕ) where
  module _ (d : A) (w : ℕ) where
    before-length : (l : List A) (k : ℕ) → ((i : ℕ) → length (f (get_or l i d)) ≡ w) → k ≤ length l → length (joined f (take k l)) ≡ k * w
    before-length l zero g b = omega (arith, zero-mul w)
    before-length [] (suc k) g b = absurd (omega arith)
    before-length (x ∷ l) (suc k) g b =
        omega (arith, length-append (f x) (joined f (take k l)), g 0, suc-mul k w, before-length l k (λ i. g (suc i)) (omega arith))

    -- the length of pieces of one width
    pub joined_length : (l : List A) → ((i : ℕ) → length (f (get_or l i d)) ≡ w) → length (joined f l) ≡ length l * w
    joined_length l g = rw take-length at (before-length l (length l) g (omega arith))

    module _ (h : List ℕ) (b : ℕ) (l : List A) (k : ℕ) (e : length h ≡ b) (g : (i : ℕ) → length (f (get_or l i d)) ≡ w) (n : k < length l) where
      -- what stands before piece k, and where it ends; what stands behind it
      ahead : List ℕ
      ahead = h ++ joined f (take k l)

      ahead_length : length ahead ≡ k * w + b
      unfolding ahead
      ahead_length = omega (arith, length-append h (joined f (take k l)), before-length l k g (omega arith))

      around : joined f l ≡ joined f (take k l) ++ (f (get_or l k d) ++ joined f (drop (suc k) l))
      around = ap (joined f) (split_at l k d n) ∙ joined_append f (take k l) (get_or l k d ∷ drop (suc k) l)

      -- piece k, between other bytes
      pub joined_at : (q : List ℕ) → part (h ++ (joined f l ++ q)) (k * w + b) w ≡ f (get_or l k d)
      unfolding ahead
      joined_at q =
          let r : List ℕ = joined f (drop (suc k) l) ++ q in
          let j : h ++ (joined f l ++ q) ≡ ahead ++ (f (get_or l k d) ++ r) = rw around (simp append_assoc) in
          rw (j, drop_at ahead (f (get_or l k d) ++ r) (k * w + b) ahead_length) (take_at (f (get_or l k d)) r w (g k))

      -- the front of piece k is replaced
      pub joined-paste : (x : A) (a c z : List ℕ) → f (get_or l k d) ≡ a ++ z → f x ≡ c ++ z → length a ≡ length c
          → paste (h ++ joined f l) (k * w + b) c ≡ h ++ joined f (set l k x)
      unfolding ahead
      joined-paste x a c z o y m =
          let q : List ℕ = z ++ joined f (drop (suc k) l) in
          let s : h ++ joined f l ≡ ahead ++ a ++ q = rw (around, o) (simp append_assoc) in
          let v : h ++ joined f (set l k x) ≡ ahead ++ c ++ q = rw (set_split l k x n, joined_append f, y) (simp append_assoc) in
          ap (λ (r : List ℕ). paste r (k * w + b) c) s ∙ paste_middle ahead a c q (k * w + b) ahead_length m ∙ sym v

-- ---- bytes as pieces

module _ {A : Type 0} (f : A → List ℕ) (g : ℕ → A) (c : List ℕ) (w b : ℕ) where
  -- pieces read one after the other
  pub joined-listed : (i n : ℕ) → ((k : ℕ) → k < i + n → f (g k) ≡ part c (k * w + b) w)
      → joined f (listed g i n) ≡ part c (i * w + b) (n * w)
  joined-listed i zero h = rw zero-mul
  joined-listed i (suc n) h =
      let e : suc n * w ≡ w + n * w = omega (arith, suc-mul n w) in
      let p : suc i * w + b ≡ i * w + b + w = omega (arith, suc-mul i w) in
      let r : joined f (listed g (suc i) n) ≡ part c (suc i * w + b) (n * w) = joined-listed (suc i) n (λ k l. h k (omega arith)) in
      rw (h i (omega arith), r, p, e) (sym (part_add c (i * w + b) w (n * w)))

  -- with zeros behind them
  pub pad-listed : (n m : ℕ) → ((k : ℕ) → k < n → f (g k) ≡ part c (k * w + b) w) → n * w ≤ m → b + m ≤ length c
      → all_zero (part c (n * w + b) (m - n * w)) ≡ true → pad_to m (joined f (listed g 0 n)) ≡ part c b m
  pad-listed n m h l o z =
      let x : List ℕ = part c (n * w + b) (m - n * w) in
      let y : length x ≡ m - n * w = part_length c (n * w + b) (m - n * w) (omega arith) in
      let r : x ≡ replicate (m - n * w) 0 = zero-replicate x z ∙ ap (λ (a : ℕ). replicate a 0) y in
      let e : 0 * w + b ≡ b = omega (arith, zero-mul w) in
      let j : joined f (listed g 0 n) ≡ part c b (n * w) = rw e at (joined-listed 0 n (λ k a. h k (omega arith))) in
      let p : b + n * w ≡ n * w + b = omega arith in
      let q : n * w + (m - n * w) ≡ m = omega arith in
      rw (j, part_length c b (n * w) (omega arith), ← r, ← p) (sym (part_add c b (n * w) (m - n * w)) ∙ ap (part c b) q)
