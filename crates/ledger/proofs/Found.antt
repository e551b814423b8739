-- The next number is open nowhere: of as many numbers in a row as are open, and two more, one is free.
use Prim.Native.Nat.{ℕ, zero, suc, ◌+◌, ◌-◌, ◌≤◌, ◌<◌, ◌%◌, ◌^◌}
use mathlib.Core.Path.{◌≡◌, refl, sym, ap, ◌∙◌}
use mathlib.Core.Bool.{Bool, true, false}
use mathlib.Core.List.{List, [], ◌∷◌}
use lib.ListN.{length}
use lib.Dec.{eqb, ltb}
use native.Mathlib.Omega.{arith}
use borrow.Author.Tests.{eqb-true, eqb-false, eq-eqb, ltb-false}
use Rattle.ledger.specs.Choice.{pick, both}
use Rattle.ledger.specs.Tally.{one_if, occ, sum_of, free, next_from}
use Rattle.ledger.proofs.Tallies.{occ_over}

-- the search ends at a number that is free, and else goes on
module _ (count : ℕ → ℕ) where
  pub next_here : (k c : ℕ) → 0 < k → free count c ≡ true → next_from k count c ≡ c
  next_here zero c h e = absurd (omega arith)
  next_here (suc k) c h e = ap (λ (b : Bool). pick b c (next_from k count ((c + 1) % 2 ^ 32))) e

  pub next-on : (k c : ℕ) → 0 < k → free count c ≡ false → next_from k count c ≡ next_from (k - 1) count ((c + 1) % 2 ^ 32)
  next-on zero c h e = absurd (omega arith)
  next-on (suc k) c h e =
      let s : k ≡ suc k - 1 = omega arith in
      ap (λ (b : Bool). pick b c (next_from k count ((c + 1) % 2 ^ 32))) e ∙ ap (λ (j : ℕ). next_from j count ((c + 1) % 2 ^ 32)) s

-- the sum of a quantity over k numbers from c on, wrapping
abbrev sum_along : (ℕ → ℕ) → ℕ → ℕ → ℕ
sum_along f zero c = 0
sum_along f (suc k) c = f c + sum_along f k ((c + 1) % 2 ^ 32)

along_add : (f g : ℕ → ℕ) (k c : ℕ) → sum_along (λ n. f n + g n) k c ≡ sum_along f k c + sum_along g k c
along_add f g zero c = refl
along_add f g (suc k) c = omega (arith, along_add f g k ((c + 1) % 2 ^ 32))

along_none : (k c : ℕ) → sum_along (λ n. 0) k c ≡ 0
along_none zero c = refl
along_none (suc k) c = omega (arith, along_none k ((c + 1) % 2 ^ 32))

-- one number is met at most once
module _ (x : ℕ) where
  far : (k c : ℕ) → c < 2 ^ 32 → k ≤ (x + 2 ^ 32 - c) % 2 ^ 32 → sum_along (λ n. one_if (eqb n x)) k c ≡ 0
  far zero c h d = refl
  far (suc k) c h d = go (eqb c x) refl (far k ((c + 1) % 2 ^ 32) (omega arith))
    where
      go : (b : Bool) → eqb c x ≡ b
          → (k ≤ (x + 2 ^ 32 - (c + 1) % 2 ^ 32) % 2 ^ 32 → sum_along (λ n. one_if (eqb n x)) k ((c + 1) % 2 ^ 32) ≡ 0)
          → one_if b + sum_along (λ n. one_if (eqb n x)) k ((c + 1) % 2 ^ 32) ≡ 0
      go true e r = absurd (omega (arith, eqb-true c x e))
      go false e r = omega (arith, r (let m : c ≡ x → ⊥ = eqb-false c x e in omega arith))

  meets : (k c : ℕ) → c < 2 ^ 32 → k ≤ 2 ^ 32 → sum_along (λ n. one_if (eqb n x)) k c ≤ 1
  meets zero c h d = omega arith
  meets (suc k) c h d = go (eqb c x) refl (meets k ((c + 1) % 2 ^ 32) (omega arith) (omega arith))
    where
      go : (b : Bool) → eqb c x ≡ b → sum_along (λ n. one_if (eqb n x)) k ((c + 1) % 2 ^ 32) ≤ 1 → one_if b + sum_along (λ n. one_if (eqb n x)) k ((c + 1) % 2 ^ 32) ≤ 1
      go true e r = omega (arith, far k ((c + 1) % 2 ^ 32) (omega arith) (let m : c ≡ x = eqb-true c x e in omega arith))
      go false e r = omega (arith, r)

module _ (k c : ℕ) (h : c < 2 ^ 32) (d : k ≤ 2 ^ 32) where
  in_list : (l : List ℕ) → sum_along (λ n. occ n l) k c ≤ length l
  in_list [] = omega (arith, along_none k c)
  in_list (x ∷ l) = omega (arith, along_add (λ n. one_if (eqb n x)) (λ n. occ n l) k c, meets x k c h d, in_list l)

  in_table : {A : Type 0} (f : A → List ℕ) (l : List A) → sum_along (occ_over f l) k c ≤ sum_of (λ x. length (f x)) l
  in_table f [] = omega (arith, along_none k c)
  in_table f (x ∷ l) = omega (arith, along_add (λ n. occ n (f x)) (occ_over f l) k c, in_list (f x), in_table f l)

-- a number that is not free is counted, or 0
taken : (m : ℕ → ℕ) (c : ℕ) → free m c ≡ false → 1 ≤ m c + one_if (eqb c 0)
taken m c e = go (ltb 0 c) (eqb (m c) 0) refl refl e
  where
    go : (a b : Bool) → ltb 0 c ≡ a → eqb (m c) 0 ≡ b → both a b ≡ false → 1 ≤ m c + one_if (eqb c 0)
    go true true p q e = absurd (let z : ◌≡◌ {A = ℕ} 0 1 = cc in omega arith)
    go true false p q e = omega (arith, eqb-false (m c) 0 q)
    go false b p q e = rw (eq-eqb c 0 (omega (arith, ltb-false 0 c p))) (omega arith)

missed : (m : ℕ → ℕ) (k c : ℕ) → free m (next_from k m c) ≡ false → suc k ≤ sum_along (λ n. m n + one_if (eqb n 0)) (suc k) c
missed m zero c e = omega (arith, taken m c e)
missed m (suc k) c e = go (free m c) refl e (missed m k ((c + 1) % 2 ^ 32))
  where
    go : (b : Bool) → free m c ≡ b → free m (pick b c (next_from k m ((c + 1) % 2 ^ 32))) ≡ false
        → (free m (next_from k m ((c + 1) % 2 ^ 32)) ≡ false → suc k ≤ sum_along (λ n. m n + one_if (eqb n 0)) (suc k) ((c + 1) % 2 ^ 32))
        → suc (suc k) ≤ m c + one_if (eqb c 0) + sum_along (λ n. m n + one_if (eqb n 0)) (suc k) ((c + 1) % 2 ^ 32)
    go true p e r = absurd (let z : ◌≡◌ {A = Bool} true false = sym p ∙ e in let y : ◌≡◌ {A = ℕ} 0 1 = cc in omega arith)
    go false p e r = omega (arith, r e, taken m c p)

-- with as many tries as one likes: at a numeral the sums would be written out. The last number is taken without a test
pub finds : {A : Type 0} (f : A → List ℕ) (l : List A) (j c : ℕ) → c < 2 ^ 32 → 1 + sum_of (λ x. length (f x)) l ≤ j → j < 2 ^ 32 → free (occ_over f l) (next_from j (occ_over f l) c) ≡ true
finds f l j c h a b = go (free (occ_over f l) (next_from j (occ_over f l) c)) refl
  where
    go : (q : Bool) → free (occ_over f l) (next_from j (occ_over f l) c) ≡ q → q ≡ true
    go true e = refl
    go false e = absurd (omega (arith, missed (occ_over f l) j c e, along_add (occ_over f l) (λ n. one_if (eqb n 0)) (suc j) c, in_table (suc j) c h b f l, meets 0 (suc j) c h b))
