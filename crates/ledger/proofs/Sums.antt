-- Laws of tests, counts and sums over any list, and over one with an element replaced: each by the list, element by element.
use Prim.Native.Nat.{ℕ, zero, suc, ◌+◌, ◌≤◌, ◌<◌}
use mathlib.Core.Path.{◌≡◌, refl, ap, ◌∙◌, sym}
use mathlib.Core.Bool.{Bool, true, false}
use mathlib.Core.List.{List, [], ◌∷◌, ◌++◌}
use lib.ListN.{length, get_or, set}
use lib.Dec.{eqb, ltb}
use lib.Seq.{get_or-set_same, get_or-set_other}
use native.Mathlib.Omega.{arith}
use borrow.Author.Tests.{eqb-true, eqb-false, eq-eqb, ltb-true, ltb-false}
use Rattle.ledger.specs.Choice.{pick, both}
use Rattle.ledger.specs.Tally.{one_if, occ, has, without, sum_of, all_of}
use Rattle.ledger.proofs.Tallies.{occ_over, both_of, to_both, picked, all_append}
use Rattle.ledger.specs.Lists.{joined}

-- ---- tests

-- a test that holds of i holds of s where s is i
pub there : (p : ℕ → Bool) (s i : ℕ) → p i ≡ true → pick (eqb s i) (p s) true ≡ true
there p s i h = go (eqb s i) refl
  where
    go : (b : Bool) → eqb s i ≡ b → pick b (p s) true ≡ true
    go true q = ap p (eqb-true s i q) ∙ h
    go false q = refl

-- a function goes into a pick, by what it gives of the first
pub pick_to : {A B : Type 0} (f : A → B) (b : Bool) (x y : A) {u : B} → f x ≡ u → f (pick b x y) ≡ pick b u (f y)
pick_to f true x y e = e
pick_to f false x y e = refl

-- ---- occurrences
pub occ_append : (m : ℕ) (l k : List ℕ) → occ m (l ++ k) ≡ occ m l + occ m k
occ_append m [] k = omega arith
occ_append m (x ∷ l) k = omega (arith, occ_append m l k)

pub occ-without : (m n : ℕ) (l : List ℕ) → occ m (without n l) ≤ occ m l
occ-without m n [] = omega arith
occ-without m n (x ∷ l) = picked (λ (r : List ℕ). occ m r ≤ one_if (eqb m x) + occ m l) (eqb n x) l (x ∷ without n l) (λ e. omega arith) (λ e. omega (arith, occ-without m n l))

-- ---- sums over a list with one element replaced
module _ {A : Type 0} (f : A → ℕ) (d : A) where
  -- with no bound on the place, where what stands for a missing element counts nothing
  pub sum_put : f d ≡ 0 → (l : List A) (i : ℕ) (x : A) → sum_of f (set l i x) + f (get_or l i d) ≤ sum_of f l + f x
  sum_put z [] i x = omega arith
  sum_put z (y ∷ l) zero x = omega arith
  sum_put z (y ∷ l) (suc i) x = omega (arith, sum_put z l i x)

  -- an element counts no more than the sum
  pub sum_at : f d ≡ 0 → (l : List A) (i : ℕ) → f (get_or l i d) ≤ sum_of f l
  sum_at z [] i = omega arith
  sum_at z (y ∷ l) zero = omega arith
  sum_at z (y ∷ l) (suc i) = omega (arith, sum_at z l i)

  pub sum_two : f d ≡ 0 → (l : List A) (i j : ℕ) → (i ≡ j → ⊥) → f (get_or l i d) + f (get_or l j d) ≤ sum_of f l
  sum_two z [] i j h = omega arith
  sum_two z (y ∷ l) zero zero h = absurd (h refl)
  sum_two z (y ∷ l) zero (suc j) h = omega (arith, sum_at z l j)
  sum_two z (y ∷ l) (suc i) zero h = omega (arith, sum_at z l i)
  sum_two z (y ∷ l) (suc i) (suc j) h = omega (arith, sum_two z l i j (λ e. h (ap suc e)))

-- ---- a list with one element replaced, as seen from any place
module _ {A B : Type 0} (f : A → B) (d : A) where
  pub put_in : (h : B → B) (l : List A) (i s : ℕ) (x : A) → i < length l → f x ≡ h (f (get_or l i d)) → f (get_or (set l i x) s d) ≡ pick (eqb s i) (h (f (get_or l s d))) (f (get_or l s d))
  put_in h l i s x m e = go (eqb s i) refl
    where
      go : (b : Bool) → eqb s i ≡ b → f (get_or (set l i x) s d) ≡ pick b (h (f (get_or l s d))) (f (get_or l s d))
      go true q = let z : s ≡ i = eqb-true s i q in rw z (ap f (get_or-set_same l i x d m) ∙ e)
      go false q = ap f (get_or-set_other l i s x d (eqb-false s i q))

  -- where nothing is seen to change
  pub put_same : (l : List A) (i s : ℕ) (x : A) → f x ≡ f (get_or l i d) → f (get_or (set l i x) s d) ≡ f (get_or l s d)
  put_same [] i s x e = refl
  put_same (y ∷ l) zero zero x e = e
  put_same (y ∷ l) zero (suc s) x e = refl
  put_same (y ∷ l) (suc i) zero x e = refl
  put_same (y ∷ l) (suc i) (suc s) x e = put_same l i s x e

-- ---- all of a list of numbers, by what occurs
pub all_occ : (p : ℕ → Bool) (n : ℕ) (l : List ℕ) → all_of p l ≡ true → 0 < occ n l → p n ≡ true
all_occ p n [] h m = absurd (omega arith)
all_occ p n (x ∷ l) h m = go (eqb n x) refl m (all_occ p n l (both_of (p x) (all_of p l) h).1)
  where
    go : (b : Bool) → eqb n x ≡ b → 0 < one_if b + occ n l → (0 < occ n l → p n ≡ true) → p n ≡ true
    go true e m r = ap p (eqb-true n x e) ∙ (both_of (p x) (all_of p l) h).0
    go false e m r = r (omega arith)

pub occ_all : (p : ℕ → Bool) (l : List ℕ) → ((n : ℕ) → 0 < occ n l → p n ≡ true) → all_of p l ≡ true
occ_all p [] h = refl
occ_all p (x ∷ l) h = to_both _ _ (h x (rw (eq-eqb x x refl) (omega arith))) (occ_all p l (λ n m. h n (omega arith)))

pub all_sum : {A : Type 0} (f : A → List ℕ) (p : ℕ → Bool) (n : ℕ) (l : List A) → all_of (λ x. all_of p (f x)) l ≡ true → 0 < occ_over f l n → p n ≡ true
all_sum f p n [] h m = absurd (omega arith)
all_sum f p n (x ∷ l) h m = go (ltb 0 (occ n (f x))) refl (all_sum f p n l (both_of (all_of p (f x)) (all_of (λ x. all_of p (f x)) l) h).1)
  where
    go : (b : Bool) → ltb 0 (occ n (f x)) ≡ b → (0 < occ_over f l n → p n ≡ true) → p n ≡ true
    go true e r = all_occ p n (f x) (both_of (all_of p (f x)) (all_of (λ x. all_of p (f x)) l) h).0 (ltb-true _ _ e)
    go false e r = r (omega (arith, ltb-false 0 (occ n (f x)) e))

-- what stands at any place of a list with one element replaced: that one, where it is its place, or what stood there
pub put_cases : {A : Type 0} (P : A → Type 0) (d : A) (l : List A) (i s : ℕ) (x : A) → (s ≡ i → P x) → P (get_or l s d) → P (get_or (set l i x) s d)
put_cases P d [] i s x p h = h
put_cases P d (y ∷ l) zero zero x p h = p refl
put_cases P d (y ∷ l) zero (suc s) x p h = h
put_cases P d (y ∷ l) (suc i) zero x p h = h
put_cases P d (y ∷ l) (suc i) (suc s) x p h = put_cases P d l i s x (λ e. p (ap suc e)) h

-- a sum that is not 0 has a place that is not
pub sum_some : {A : Type 0} (f : A → ℕ) (d : A) (l : List A) → 0 < sum_of f l → (i : ℕ) × (0 < f (get_or l i d))
sum_some f d [] h = absurd (omega arith)
sum_some f d (x ∷ l) h = go (ltb 0 (f x)) refl (sum_some f d l)
  where
    go : (b : Bool) → ltb 0 (f x) ≡ b → (0 < sum_of f l → (i : ℕ) × (0 < f (get_or l i d))) → (i : ℕ) × (0 < f (get_or (x ∷ l) i d))
    go true e r = (0, ltb-true 0 (f x) e)
    go false e r = let q : (i : ℕ) × (0 < f (get_or l i d)) = r (omega (arith, ltb-false 0 (f x) e)) in (suc q.0, q.1)

-- where one test asks for another
pub of-asks : (a b : Bool) → pick a b true ≡ true → a ≡ true → b ≡ true
of-asks true b h e = h
of-asks false b h e = absurd (let z : ◌≡◌ {A = ℕ} 0 1 = cc in omega arith)

pub to_asks : (a b : Bool) → (a ≡ true → b ≡ true) → pick a b true ≡ true
to_asks true b h = h refl
to_asks false b h = refl

-- a number of a list has what each of the list has
pub among : (p : ℕ → Bool) (n : ℕ) (l : List ℕ) → all_of p l ≡ true → has n l ≡ true → p n ≡ true
among p n l a h = all_occ p n l a (ltb-true 0 (occ n l) h)

-- over lists laid end to end
pub occ-joined : {A : Type 0} (f : A → List ℕ) (n : ℕ) (l : List A) → sum_of (λ x. occ n (f x)) l ≡ occ n (joined f l)
occ-joined f n [] = refl
occ-joined f n (x ∷ l) = ap (λ (m : ℕ). occ n (f x) + m) (occ-joined f n l) ∙ sym (occ_append n (f x) (joined f l))

pub all_joined : {A : Type 0} (f : A → List ℕ) (p : ℕ → Bool) (l : List A) → all_of (λ x. all_of p (f x)) l ≡ all_of p (joined f l)
all_joined f p [] = refl
all_joined f p (x ∷ l) = ap (both (all_of p (f x))) (all_joined f p l) ∙ sym (all_append p (f x) (joined f l))
