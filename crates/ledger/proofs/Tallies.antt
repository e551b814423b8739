-- Laws of tests and counts, over any list: each holds element by element, from the first on.
use Prim.Native.Nat.{ℕ, zero, suc, ◌+◌, ◌*◌, ◌%◌, ◌≤◌, ◌<◌}
use mathlib.Core.Path.{◌≡◌, refl, ap, sym, ◌∙◌}
use mathlib.Core.Bool.{Bool, true, false, not}
use mathlib.Core.List.{List, [], ◌∷◌, ◌++◌}
use lib.ListN.{length, get_or}
use lib.Dec.{eqb, ltb, leb}
use native.Mathlib.Omega.{arith}
use borrow.Author.Tests.{ne_eqb, eq-eqb, eqb-true, eqb-false, ltb-true, ltb-false, lt-leb, le-leb, leb-true, leb-false}
use mathlib.Core.Logic.{◌≢◌}
use Rattle.ledger.specs.Choice.{pick, ◌⇒◌∣◌, both, either}
use Rattle.ledger.specs.Tally.{one_if, occ, has, without, sum_of, all_of, ascending, first_of}

-- how often a number occurs, over a list of what holds numbers
abbrev pub occ_over : {A : Type 0} → (A → List ℕ) → List A → ℕ → ℕ
occ_over f l n = sum_of (λ x. occ n (f x)) l

-- ---- tests
pub both_of : (a b : Bool) → both a b ≡ true → (a ≡ true) × (b ≡ true)
both_of true b e = (refl, e)
both_of false b e = absurd (let z : ◌≡◌ {A = ℕ} 0 1 = cc in omega arith)

pub to_both : (a b : Bool) → a ≡ true → b ≡ true → both a b ≡ true
to_both true b e f = f
to_both false b e f = e

pub both_true : (b : Bool) → both b true ≡ b
both_true true = refl
both_true false = refl

pub both_none : (b : Bool) → both b false ≡ false
both_none true = refl
both_none false = refl

pub both_assoc : (a b c : Bool) → both (both a b) c ≡ both a (both b c)
both_assoc true b c = refl
both_assoc false b c = refl

pub both_swap : (a b c : Bool) → both a (both b c) ≡ both b (both a c)
both_swap true b c = refl
both_swap false b c = sym (both_none b)

pub either-false : (b : Bool) → either b false ≡ b
either-false true = refl
either-false false = refl

pub either_right : (a b : Bool) → b ≡ true → either a b ≡ true
either_right true b h = refl
either_right false b h = h

pub not-not : (b : Bool) → not (not b) ≡ b
not-not true = refl
not-not false = refl

-- what each of two tests gives
pub of_either : {P : Type 0} (a b : Bool) → either a b ≡ true → (a ≡ true → P) → (b ≡ true → P) → P
of_either true b h f g = f refl
of_either false b h f g = g h

-- two tests that hold of the same
pub same_test : (a b : Bool) → (a ≡ true → b ≡ true) → (b ≡ true → a ≡ true) → a ≡ b
same_test true b f g = sym (f refl)
same_test false true f g = g refl
same_test false false f g = refl

-- numbers that differ fail the test, whichever comes first
pub differs : (k n : ℕ) → (n ≡ k → ⊥) → eqb k n ≡ false
differs k n h = ne_eqb k n (λ e. h (sym e))

-- a number is past another exactly if it is not up to it
pub past_all : (k n : ℕ) → leb (suc k) n ≡ not (leb n k)
past_all k n = go (leb n k) refl
  where
    go : (b : Bool) → leb n k ≡ b → leb (suc k) n ≡ not b
    go true b = lt-leb (suc k) n (omega (arith, leb-true n k b))
    go false b = le-leb (suc k) n (leb-false n k b)

-- from a number to itself there is one
pub one_alone : (k n : ℕ) → both (leb k n) (both (leb n k) true) ≡ eqb n k
one_alone k n = same_test _ _
    (λ h. let a : (leb k n ≡ true) × (both (leb n k) true ≡ true) = both_of _ _ h in
    eq-eqb n k (omega (arith, leb-true k n a.0, leb-true n k (both_of _ _ a.1).0)))
    (λ h. to_both _ _ (le-leb k n (omega (arith, eqb-true n k h))) (to_both _ _ (le-leb n k (omega (arith, eqb-true n k h))) refl))

-- a number is even exactly if it is not odd
pub even_or_odd : (n : ℕ) → eqb (n % 2) 0 ≡ not (eqb (n % 2) 1)
even_or_odd n = go (eqb (n % 2) 1) refl
  where
    go : (odd : Bool) → eqb (n % 2) 1 ≡ odd → eqb (n % 2) 0 ≡ not odd
    go true o = ne_eqb (n % 2) 0 (λ e. omega (arith, eqb-true (n % 2) 1 o))
    go false o = eq-eqb (n % 2) 0 (omega (arith, eqb-false (n % 2) 1 o))

-- a test that holds leads to its answer
pub hold : {A : Type 0} (b : Bool) (x y : A) → b ≡ true → (b ⇒ x ∣ y) ≡ x
unfolding ◌⇒◌∣◌
hold b x y e = rw e

-- a test that fails leads to what follows
pub skip {ℓ} : {A : Type ℓ} (b : Bool) (x y : A) → b ≡ false → (b ⇒ x ∣ y) ≡ y
unfolding ◌⇒◌∣◌
skip b x y e = rw e

-- what is picked has what both have, each where it is picked
pub picked {ℓ} : {A : Type ℓ} (P : A → Type 0) (b : Bool) (x y : A) → (b ≡ true → P x) → (b ≡ false → P y) → P (pick b x y)
picked P true x y f g = f refl
picked P false x y f g = g refl

pub chosen {ℓ} : {A : Type ℓ} (P : A → Type 0) (b : Bool) (x y : A) → (b ≡ true → P x) → (b ≡ false → P y) → P (b ⇒ x ∣ y)
unfolding ◌⇒◌∣◌
chosen P true x y f g = f refl
chosen P false x y f g = g refl

-- two numbers are the same or differ
pub by_same : {P : Type 0} (m n : ℕ) → (m ≡ n → P) → (m ≢ n → P) → P
by_same {P} m n f g = go (eqb m n) refl
  where
    go : (b : Bool) → eqb m n ≡ b → P
    go true e = f (eqb-true m n e)
    go false e = g (eqb-false m n e)

-- a number is less than another or not
pub by_order : {P : Type 0} (m n : ℕ) → (m < n → P) → (n ≤ m → P) → P
by_order {P} m n f g = go (ltb m n) refl
  where
    go : (b : Bool) → ltb m n ≡ b → P
    go true e = f (ltb-true m n e)
    go false e = g (ltb-false m n e)

-- ---- occurrences

pub length_without : (n : ℕ) (l : List ℕ) → 0 < occ n l → suc (length (without n l)) ≡ length l
length_without n [] h = absurd (omega arith)
length_without n (x ∷ l) h = go (eqb n x) refl h (length_without n l)
  where
    go : (b : Bool) → eqb n x ≡ b → 0 < one_if b + occ n l → (0 < occ n l → suc (length (without n l)) ≡ length l) → suc (length (pick b l (x ∷ without n l))) ≡ suc (length l)
    go true e h r = refl
    go false e h r = ap suc (r (omega arith))

pub length-without_le : (n : ℕ) (l : List ℕ) → length (without n l) ≤ length l
length-without_le n [] = omega arith
length-without_le n (x ∷ l) = picked (λ (r : List ℕ). length r ≤ suc (length l)) (eqb n x) l (x ∷ without n l) (λ e. omega arith) (λ e. omega (arith, length-without_le n l))

-- a test counts once at most
pub one_most : (b : Bool) → one_if b ≤ 1
one_most true = omega arith
one_most false = omega arith

-- one where two numbers are the same, none where they differ
pub one_same : (m n : ℕ) → m ≡ n → one_if (eqb m n) ≡ 1
one_same m n e = rw (eq-eqb m n e)

pub one_other : (m n : ℕ) → m ≢ n → one_if (eqb m n) ≡ 0
one_other m n e = rw (ne_eqb m n e)

pub occ-length : (m : ℕ) (l : List ℕ) → occ m l ≤ length l
occ-length m [] = omega arith
occ-length m (x ∷ l) = omega (arith, one_most (eqb m x), occ-length m l)

-- a list that has a number as often as a test holds has it where it holds
pub has_if : (n : ℕ) (l : List ℕ) (b : Bool) → occ n l ≡ one_if b → has n l ≡ b
has_if n l b e = ap (ltb 0) e ∙ go b
  where
    go : (b : Bool) → ltb 0 (one_if b) ≡ b
    go true = refl
    go false = refl

-- what a list of one has
pub has_one : (n a : ℕ) → has n (a ∷ []) ≡ eqb n a
has_one n a = go (eqb n a)
  where
    go : (b : Bool) → ltb 0 (one_if b + 0) ≡ b
    go true = refl
    go false = refl

-- a list that has a number has an element
pub has_some : (n : ℕ) (l : List ℕ) → has n l ≡ true → 0 < length l
has_some n l h = omega (arith, ltb-true 0 (occ n l) h, occ-length n l)

-- occurrences as a sum
pub occ_sum : (n : ℕ) (l : List ℕ) → occ n l ≡ sum_of (λ (x : ℕ). one_if (eqb n x)) l
occ_sum n [] = refl
occ_sum n (x ∷ l) = ap (λ (m : ℕ). one_if (eqb n x) + m) (occ_sum n l)

-- ---- sums and places

-- a quantity bounded at every place is bounded in sum
pub sum_most : {A : Type 0} (f : A → ℕ) (d : A) (b : ℕ) (l : List A) → ((j : ℕ) → f (get_or l j d) ≤ b) → sum_of f l ≤ length l * b
sum_most f d b [] h = omega arith
sum_most f d b (x ∷ l) h = omega (arith, h 0, sum_most f d b l (λ j. h (suc j)))

-- one that is 0 at every place is 0 in sum
pub sum_none : {A : Type 0} (f : A → ℕ) (d : A) (l : List A) → ((j : ℕ) → f (get_or l j d) ≡ 0) → sum_of f l ≡ 0
sum_none f d [] h = refl
sum_none f d (x ∷ l) h = omega (arith, h 0, sum_none f d l (λ j. h (suc j)))

-- a place of which a test holds that fails where nothing stands is a place of the list
pub within : {A : Type 0} (p : A → Bool) (d : A) → p d ≡ false → (l : List A) (i : ℕ) → p (get_or l i d) ≡ true → i < length l
within p d z [] i e = absurd (let y : ◌≡◌ {A = ℕ} 0 1 = cc in omega arith)
within p d z (x ∷ l) zero e = omega arith
within p d z (x ∷ l) (suc i) e = omega (arith, within p d z l i e)

pub empty : (l : List ℕ) → length l ≡ 0 → l ≡ []
empty [] e = refl
empty (x ∷ l) e = absurd (omega arith)

-- ---- all of a list, by its places
pub all_at : {A : Type 0} (p : A → Bool) (d : A) → p d ≡ true → (l : List A) → all_of p l ≡ true → (i : ℕ) → p (get_or l i d) ≡ true
all_at p d z [] h i = z
all_at p d z (x ∷ l) h zero = (both_of _ _ h).0
all_at p d z (x ∷ l) h (suc i) = all_at p d z l (both_of (p x) (all_of p l) h).1 i

-- at the places of the list alone
pub all_within : {A : Type 0} (p : A → Bool) (l : List A) (k : ℕ) (d : A) → all_of p l ≡ true → k < length l → p (get_or l k d) ≡ true
all_within p [] k d h b = absurd (omega arith)
all_within p (x ∷ l) zero d h b = (both_of (p x) (all_of p l) h).0
all_within p (x ∷ l) (suc k) d h b = all_within p l k d (both_of (p x) (all_of p l) h).1 (omega arith)

-- each of several tests that all hold
pub nth : (l : List Bool) → all_of (λ (b : Bool). b) l ≡ true → (i : ℕ) → get_or l i true ≡ true
nth l h i = all_at (λ (b : Bool). b) true refl l h i

pub at_all : {A : Type 0} (p : A → Bool) (d : A) (l : List A) → ((i : ℕ) → p (get_or l i d) ≡ true) → all_of p l ≡ true
at_all p d [] h = refl
at_all p d (x ∷ l) h = to_both _ _ (h 0) (at_all p d l (λ i. h (suc i)))

-- all of two lists, one behind the other
pub all_append : {A : Type 0} (p : A → Bool) (a b : List A) → all_of p (a ++ b) ≡ both (all_of p a) (all_of p b)
all_append p [] b = refl
all_append p (x ∷ a) b = ap (both (p x)) (all_append p a b) ∙ sym (both_assoc (p x) (all_of p a) (all_of p b))

-- a number over all of an ascending list goes behind it
pub ascending-more : (l : List ℕ) (n : ℕ) → ascending l ≡ true → all_of (λ (m : ℕ). ltb m n) l ≡ true → ascending (l ++ (n ∷ [])) ≡ true
ascending-more [] n h g = refl
ascending-more (m ∷ l) n h g =
    let a : (all_of (ltb m) l ≡ true) × (ascending l ≡ true) = both_of _ _ h in
    let b : (ltb m n ≡ true) × (all_of (λ (m : ℕ). ltb m n) l ≡ true) = both_of _ _ g in
    to_both _ _ (all_append (ltb m) l (n ∷ []) ∙ to_both _ _ a.0 (to_both _ _ b.0 refl)) (ascending-more l n a.1 b.1)

-- two tests of all in one
pub all_both : {A : Type 0} (p q : A → Bool) (l : List A) → all_of (λ x. both (p x) (q x)) l ≡ both (all_of p l) (all_of q l)
all_both p q [] = refl
all_both p q (x ∷ l) = go (p x) (q x) (all_of p l) (all_of q l) (all_both p q l)
  where
    go : (a b c d : Bool) {r : Bool} → r ≡ both c d → both (both a b) r ≡ both (both a c) (both b d)
    go true true c d e = e
    go true false c d e = sym (both_none c)
    go false b c d e = refl

-- a test is passed by all exactly if it is passed as often as there are places
pub all_counted : {A : Type 0} (p : A → Bool) (l : List A) → eqb (sum_of (λ x. one_if (p x)) l) (length l) ≡ all_of p l
all_counted {A = A} p l = (go l).0
  where
    step : (b t : Bool) (m n : ℕ) → (eqb m n ≡ t) × (m ≤ n) → (eqb (one_if b + m) (suc n) ≡ both b t) × (one_if b + m ≤ suc n)
    step true t m n h =
        let fewer : eqb (1 + m) (suc n) ≡ true → t ≡ true = λ e. sym h.0 ∙ eq-eqb m n (omega (arith, eqb-true (1 + m) (suc n) e)) in
        let more : t ≡ true → eqb (1 + m) (suc n) ≡ true = λ e. eq-eqb (1 + m) (suc n) (omega (arith, eqb-true m n (h.0 ∙ e))) in
        (same_test (eqb (1 + m) (suc n)) t fewer more, omega (arith, h.1))
    step false t m n h = (ne_eqb (0 + m) (suc n) (λ e. omega (arith, h.1)), omega (arith, h.1))

    go : (l : List A) → (eqb (sum_of (λ x. one_if (p x)) l) (length l) ≡ all_of p l) × (sum_of (λ x. one_if (p x)) l ≤ length l)
    go [] = (refl, omega arith)
    go (x ∷ l) = step (p x) (all_of p l) (sum_of (λ x. one_if (p x)) l) (length l) (go l)

-- the first place of which a test holds, or the length
pub first_holds : {A : Type 0} (p : A → Bool) (d : A) (l : List A) → first_of p l < length l → p (get_or l (first_of p l) d) ≡ true
first_holds p d [] h = absurd (omega arith)
first_holds p d (x ∷ l) h = go (p x) refl h (first_holds p d l)
  where
    go : (b : Bool) → p x ≡ b → pick b 0 (suc (first_of p l)) < suc (length l) → (first_of p l < length l → p (get_or l (first_of p l) d) ≡ true) → p (get_or (x ∷ l) (pick b 0 (suc (first_of p l))) d) ≡ true
    go true e h r = e
    go false e h r = r (omega arith)

-- where the search finds none, none is counted
pub first_none : {A : Type 0} (p : A → Bool) (l : List A) → length l ≤ first_of p l → sum_of (λ x. one_if (p x)) l ≡ 0
first_none p [] h = refl
first_none p (x ∷ l) h = go (p x) h (first_none p l)
  where
    go : (b : Bool) → suc (length l) ≤ pick b 0 (suc (first_of p l)) → (length l ≤ first_of p l → sum_of (λ x. one_if (p x)) l ≡ 0) → one_if b + sum_of (λ x. one_if (p x)) l ≡ 0
    go true h r = absurd (omega arith)
    go false h r = omega (arith, r (omega arith))

-- where none is counted, the search finds none
pub none_first : {A : Type 0} (p : A → Bool) (l : List A) → sum_of (λ x. one_if (p x)) l ≡ 0 → length l ≤ first_of p l
none_first p [] e = omega arith
none_first p (x ∷ l) e = go (p x) e (none_first p l)
  where
    go : (b : Bool) → one_if b + sum_of (λ x. one_if (p x)) l ≡ 0 → (sum_of (λ x. one_if (p x)) l ≡ 0 → length l ≤ first_of p l) → suc (length l) ≤ pick b 0 (suc (first_of p l))
    go true e r = absurd (omega arith)
    go false e r = omega (arith, r (omega arith))

pub either_no : (a b : Bool) → either a b ≡ false → (a ≡ false) × (b ≡ false)
either_no true b e = absurd (let z : ◌≡◌ {A = ℕ} 0 1 = cc in omega arith)
either_no false b e = (refl, e)
