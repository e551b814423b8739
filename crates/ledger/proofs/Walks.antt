-- A walk over the places of a list from its start: what the places passed so far say of the whole.
use Prim.Native.Nat.{ℕ, ◌+◌, ◌≤◌, ◌<◌}
use mathlib.Core.Path.{◌≡◌, sym, ap, ◌∙◌}
use mathlib.Core.Bool.{Bool, true, false}
use mathlib.Core.List.{List}
use lib.ListN.{length, get_or, drop, drop_of_length-le}
use lib.Seq.{drop-cons}
use native.Mathlib.Numerals.{add-one}
use native.Mathlib.Omega.{arith}
use Rattle.ledger.specs.Tally.{sum_of, all_of}

-- the places before i have passed a test
abbrev pub all_passed : {A : Type 0} → (A → Bool) → List A → ℕ → Type 0
all_passed p l i = all_of p l ≡ all_of p (drop i l)

-- the sum over the places before i is n
abbrev pub summed : {A : Type 0} → (A → ℕ) → List A → ℕ → ℕ → Type 0
summed f l i n = sum_of f l ≡ n + sum_of f (drop i l)

module _ {A : Type 0} (d : A) (l : List A) (i : ℕ) (h : i < length l) where
  pub all_fails : (p : A → Bool) → all_passed p l i → p (get_or l i d) ≡ false → false ≡ all_of p l
  all_fails p e f = sym (e ∙ rw (drop-cons l i d h, f))

  pub all_on : (p : A → Bool) → all_passed p l i → p (get_or l i d) ≡ true → all_passed p l (i + 1)
  all_on p e f = e ∙ rw (drop-cons l i d h, f, add-one)

  pub sum_on : (f : A → ℕ) (n m : ℕ) → summed f l i n → m ≡ f (get_or l i d) → summed f l (i + 1) (n + m)
  sum_on f n m e q = rw add-one (omega (arith, e, q, ap (sum_of f) (drop-cons l i d h)))

module _ {A : Type 0} (l : List A) (i : ℕ) (h : length l ≤ i) where
  pub all_ends : (p : A → Bool) → all_passed p l i → true ≡ all_of p l
  all_ends p e = sym (e ∙ ap (all_of p) (drop_of_length-le l h))

  pub sum_ends : (f : A → ℕ) (n : ℕ) → summed f l i n → n ≡ sum_of f l
  sum_ends f n e = omega (arith, e, ap (sum_of f) (drop_of_length-le l h))
