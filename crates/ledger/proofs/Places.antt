-- Searches, counts and sums over the places of a list, by std's words for them.
use Prim.Native.Nat.{ℕ, suc, ◌+◌, ◌≤◌, ◌<◌}
use native.Mathlib.Nat.{zero-add}
use native.Mathlib.Omega.{arith}
use mathlib.Core.Path.{◌≡◌, refl, sym, ap, ◌∙◌}
use mathlib.Core.Bool.{Bool, true, false, cond}
use mathlib.Core.List.{List, [], ◌∷◌, map}
use lib.ListN.{length, get_or}
use lib.Dec.{eqb, ltb}
use borrow.Author.Tests.{lt-ltb, le-ltb, ltb-true, ltb-false}
use Rattle.std.specs.Prelude.{Option, Some, None, is_some, unwrap_or, position, MatchOption, IfSome}
use Rattle.std.specs.List.{filter, position_or_len, range_with_len, sum_by}
use Rattle.std.proofs.lemmas.List.FromFn.{fill_by_all}
use Rattle.std.proofs.lemmas.List.Recursion.{is_count_by, is_position_or_len, is_sum_by}
use Rattle.std.proofs.lemmas.List.Sums.{length-filter, position_or_len_is}
use Rattle.ledger.specs.Choice.{pick}
use Rattle.ledger.specs.Place.{PlaceOf}
use Rattle.ledger.specs.Tally.{one_if, occ, has, sum_of, first_of}
use Rattle.ledger.proofs.Searches.{first-end, has_first}

-- ---- the first that passes a test

-- by std's word: the place, or nothing where none passes
first-place : {A : Type 0} (f : A → Bool) (l : List A) → first_of f l ≡ position_or_len f l
first-place f = is_position_or_len (first_of f) f refl (λ x xs. go (f x) (first_of f xs))
  where
    go : (b : Bool) (n : ℕ) → pick b 0 (suc n) ≡ cond b 0 (1 + n)
    go true n = refl
    go false n = omega arith

-- one of n places, none before which passes, or nothing where none of them passes
pub found : {A : Type 0} (f : A → Bool) (d : A) (l : List A) (n : ℕ) (r : Option ℕ) → n ≡ length l
    → MatchOption r ((k : ℕ) → 0 ≤ k → k < n → f (get_or l k d) ≡ false)
    (λ i. (0 ≤ i) × (i < n) × (f (get_or l i d) ≡ true) × ((k : ℕ) → 0 ≤ k → k < i → f (get_or l k d) ≡ false))
    → r ≡ position f l
found f d l n None e none =
    rw (position_or_len_is f l (length l) d (omega arith) (λ k h. none k (omega arith) (omega arith)) (λ h. absurd (omega arith)), le-ltb (length l) (length l) (omega arith))
found f d l n (Some i) e m = rw (position_or_len_is f l i d (omega arith) (λ k h. m.3 k (omega arith) h) (λ h. m.2), lt-ltb i (length l) (omega arith))

-- a number tells whether there is one
pub is_place : (most n : ℕ) (r : Option ℕ) → PlaceOf most n r → is_some r ≡ ltb n most
is_place most n None p = sym (le-ltb n most (omega (arith, p.is)))
is_place most n (Some i) p = sym (lt-ltb n most (omega (arith, p.is, p.within)))

pub is_there : {A : Type 0} (f : A → Bool) (l : List A) → is_some (position f l) ≡ ltb (first_of f l) (length l)
is_there f l = rw (first-place f l) (go (ltb (position_or_len f l) (length l)))
  where
    go : (b : Bool) → is_some (cond b (Some (position_or_len f l)) None) ≡ b
    go true = refl
    go false = refl

pub has-place : (n : ℕ) (l : List ℕ) → is_some (position (eqb n) l) ≡ has n l
has-place n l = is_there (eqb n) l ∙ sym (has_first n l)

-- the length stands for nothing
pub first-or_length : {A : Type 0} (f : A → Bool) (l : List A) → unwrap_or (position f l) (length l) ≡ first_of f l
first-or_length f l = rw (first-place f l) (go (ltb (position_or_len f l) (length l)) refl)
  where
    go : (b : Bool) → ltb (position_or_len f l) (length l) ≡ b → unwrap_or (cond b (Some (position_or_len f l)) None) (length l) ≡ position_or_len f l
    go true e = refl
    go false e = omega (arith, ltb-false (position_or_len f l) (length l) e, first-place f l, first-end f l)

-- so that length and the place say the same
pub first_place : {A : Type 0} (f : A → Bool) (l : List A) → PlaceOf (length l) (first_of f l) (position f l)
first_place f l = record { is = first-or_length f l; within = go (ltb (position_or_len f l) (length l)) refl }
  where
    go : (b : Bool) → ltb (position_or_len f l) (length l) ≡ b → IfSome (cond b (Some (position_or_len f l)) None) (λ (i : ℕ). i < length l)
    go true e = ltb-true (position_or_len f l) (length l) e
    go false e = tt

-- ---- sums and counts

sum_of-map : {A B : Type 0} (h : B → ℕ) (g : A → B) (l : List A) → sum_of h (map g l) ≡ sum_of (λ x. h (g x)) l
sum_of-map h g [] = refl
sum_of-map h g (x ∷ l) = ap (λ (n : ℕ). h (g x) + n) (sum_of-map h g l)

-- a quantity, place by place
pub summed : {A : Type 0} (h : A → ℕ) (d : A) (l : List A) → sum_by (λ k. h (get_or l k d)) (range_with_len 0 (length l)) ≡ sum_of h l
summed {A = A} h d l =
    let g : ℕ → A = λ k. get_or l k d in
    sym (is_sum_by (sum_of (λ k. h (g k))) (λ k. h (g k)) refl (λ k ks. refl) (range_with_len 0 (length l)))
    ∙ sym (sum_of-map h g (range_with_len 0 (length l)))
    ∙ ap (sum_of h) (sym (fill_by_all g l (length l) d refl (λ k b. refl)))

-- how often a number stands there
pub counted : (n : ℕ) (l : List ℕ) → length (filter (λ k. eqb n (get_or l k 0)) (range_with_len 0 (length l))) ≡ occ n l
counted n l =
    let h : ℕ → ℕ = λ x. cond (eqb n x) 1 0 in
    length-filter (λ k. eqb n (get_or l k 0)) (range_with_len 0 (length l))
    ∙ summed h 0 l
    ∙ is_sum_by (sum_of h) h refl (λ x xs. refl) l
    ∙ sym (is_count_by (occ n) (eqb n) refl (λ x xs. go (eqb n x) (occ n xs)) l)
  where
    go : (b : Bool) (m : ℕ) → one_if b + m ≡ cond b (1 + m) m
    go true m = refl
    go false m = zero-add m
