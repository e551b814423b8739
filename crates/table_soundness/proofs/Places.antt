-- A list that is tested or summed place by place, from the first on.
use Prim.Native.Nat.{ℕ, suc, ◌+◌, ◌≤◌}
use mathlib.Core.Path.{◌≡◌, refl, sym, ap, ap₂, ◌∙◌}
use mathlib.Core.Bool.{Bool, true, false, ◌&&◌}
use mathlib.Core.List.{List, [], ◌∷◌}
use lib.ListN.{length, get_or}
use native.Mathlib.Omega.{arith}
use Rattle.std.specs.List.{list_all, sum_by, range_with_len}
use Rattle.std.proofs.lemmas.List.Recursion.{is_sum_by}
use Rattle.ledger.specs.Choice.{both}
use Rattle.ledger.specs.Tally.{one_if, sum_of, all_of}
use Rattle.ledger.proofs.Tallies.{one_most, sum_most}

pub both-and : (a b : Bool) → (a && b) ≡ both a b
both-and true b = refl
both-and false b = refl

all_from : {A : Type 0} (p : A → Bool) (d : A) (t : ℕ → Bool) (l : List A) (a : ℕ) → ((k j : ℕ) → a + k ≡ j → t j ≡ p (get_or l k d)) → list_all t (range_with_len a (length l)) ≡ all_of p l
all_from p d t [] a h = refl
all_from p d t (x ∷ l) a h = both-and (t a) (list_all t (range_with_len (a + 1) (length l))) ∙ ap₂ both (h 0 a (omega arith)) (all_from p d t l (a + 1) (λ k j e. h (suc k) j (omega arith)))

summed_from : {A : Type 0} (f : A → ℕ) (d : A) (t : ℕ → ℕ) (l : List A) (a : ℕ) → ((k j : ℕ) → a + k ≡ j → t j ≡ f (get_or l k d)) → sum_of t (range_with_len a (length l)) ≡ sum_of f l
summed_from f d t [] a h = refl
summed_from f d t (x ∷ l) a h = ap₂ (λ (m n : ℕ). m + n) (h 0 a (omega arith)) (summed_from f d t l (a + 1) (λ k j e. h (suc k) j (omega arith)))

module _ {A : Type 0} (d : A) (l : List A) (n : ℕ) (e : length l ≡ n) where
  here : {B : Type 0} (f : A → B) (k j : ℕ) → 0 + k ≡ j → f (get_or l j d) ≡ f (get_or l k d)
  here f k j e = let z : j ≡ k = omega arith in ap (λ (i : ℕ). f (get_or l i d)) z

  pub all_places : (p : A → Bool) → list_all (λ k. p (get_or l k d)) (range_with_len 0 n) ≡ all_of p l
  all_places p = ap (λ (m : ℕ). list_all (λ k. p (get_or l k d)) (range_with_len 0 m)) (sym e) ∙ all_from p d (λ k. p (get_or l k d)) l 0 (here p)

  pub summed_places : (f : A → ℕ) → sum_by (λ k. f (get_or l k d)) (range_with_len 0 n) ≡ sum_of f l
  summed_places f =
      sym (is_sum_by (sum_of (λ k. f (get_or l k d))) (λ k. f (get_or l k d)) refl (λ _ _. refl) (range_with_len 0 n))
      ∙ ap (λ (m : ℕ). sum_of (λ k. f (get_or l k d)) (range_with_len 0 m)) (sym e) ∙ summed_from f d (λ k. f (get_or l k d)) l 0 (here f)

  -- a test is passed no more often than there are places
  pub passed_most : (p : A → Bool) → sum_by (λ k. one_if (p (get_or l k d))) (range_with_len 0 n) ≤ n
  passed_most p = omega (arith, e, summed_places (λ x. one_if (p x)), sum_most (λ x. one_if (p x)) d 1 l (λ j. one_most (p (get_or l j d))))
