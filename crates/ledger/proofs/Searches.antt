-- Laws of searches for the first that passes a test.
use Prim.Native.Nat.{ℕ, suc, ◌+◌, ◌≤◌, ◌<◌}
use native.Mathlib.Omega.{arith}
use native.Mathlib.Nat.{zero-add}
use mathlib.Core.Path.{◌≡◌, refl, sym, ap, ap₂, ◌∙◌}
use mathlib.Core.Bool.{Bool, true, false}
use mathlib.Core.List.{List, [], ◌∷◌, map, ◌++◌}
use lib.ListN.{length, take, drop}
use lib.Dec.{eqb, ltb, leb-suc-suc}
use borrow.Author.Tests.{eqb-true, eqb-false, eq-eqb, ne_eqb, lt-ltb, le-ltb, ltb-false}
use Rattle.ledger.specs.Choice.{pick}
use Rattle.ledger.specs.Tally.{one_if, occ, has, first_of, without}
use Rattle.ledger.proofs.Tallies.{picked}

-- a search goes no further than the list
pub first-end : {A : Type 0} (f : A → Bool) (l : List A) → first_of f l ≤ length l
first-end f [] = omega arith
first-end f (x ∷ l) = picked (λ (n : ℕ). n ≤ suc (length l)) (f x) 0 (suc (first_of f l)) (λ e. omega arith) (λ e. omega (arith, first-end f l))

-- a number is one of a list exactly if the search for it ends before the list
pub has_first : (n : ℕ) (l : List ℕ) → has n l ≡ ltb (first_of (eqb n) l) (length l)
has_first n [] = refl
has_first n (x ∷ l) = go (eqb n x) (has_first n l)
  where
    go : (b : Bool) → has n l ≡ ltb (first_of (eqb n) l) (length l) → ltb 0 (one_if b + occ n l) ≡ ltb (pick b 0 (suc (first_of (eqb n) l))) (suc (length l))
    go true r = rw (lt-ltb 0 (1 + occ n l) (omega arith), lt-ltb 0 (suc (length l)) (omega arith))
    go false r = rw (zero-add, leb-suc-suc) r

-- a list of things is searched for a number as the list of their numbers is
pub first-map : {A : Type 0} (f : A → ℕ) (n : ℕ) (l : List A) → first_of (eqb n) (map f l) ≡ first_of (λ (q : A). eqb (f q) n) l
first-map f n [] = refl
first-map f n (x ∷ l) = ap₂ (λ (b : Bool) (k : ℕ). pick b 0 (suc k)) (go (eqb n (f x)) refl) (first-map f n l)
  where
    go : (b : Bool) → eqb n (f x) ≡ b → eqb n (f x) ≡ eqb (f x) n
    go true e = e ∙ sym (eq-eqb (f x) n (sym (eqb-true n (f x) e)))
    go false e = e ∙ sym (ne_eqb (f x) n (λ q. eqb-false n (f x) e (sym q)))

-- ---- a number taken out

module _ (n : ℕ) where
  -- where it is not there, none is taken out
  pub without_none : (l : List ℕ) → has n l ≡ false → without n l ≡ l
  without_none [] h = refl
  without_none (x ∷ l) h = go (eqb n x) h (without_none l)
    where
      go : (b : Bool) → ltb 0 (one_if b + occ n l) ≡ false → (has n l ≡ false → without n l ≡ l) → pick b l (x ∷ without n l) ≡ x ∷ l
      go true h r = absurd (omega (arith, ltb-false 0 (1 + occ n l) h))
      go false h r = ap (λ (m : List ℕ). x ∷ m) (r (le-ltb 0 (occ n l) (omega (arith, ltb-false 0 (0 + occ n l) h))))

  -- else the one at its first place is
  pub without-first : (l : List ℕ) → first_of (eqb n) l < length l
      → without n l ≡ take (first_of (eqb n) l) l ++ drop (suc (first_of (eqb n) l)) l
  without-first [] h = absurd (omega arith)
  without-first (x ∷ l) h = go (eqb n x) h (without-first l)
    where
      go : (b : Bool) → pick b 0 (suc (first_of (eqb n) l)) < suc (length l)
          → (first_of (eqb n) l < length l → without n l ≡ take (first_of (eqb n) l) l ++ drop (suc (first_of (eqb n) l)) l)
          → pick b l (x ∷ without n l)
          ≡ take (pick b 0 (suc (first_of (eqb n) l))) (x ∷ l) ++ drop (suc (pick b 0 (suc (first_of (eqb n) l)))) (x ∷ l)
      go true h r = refl
      go false h r = ap (λ (m : List ℕ). x ∷ m) (r (omega arith))
