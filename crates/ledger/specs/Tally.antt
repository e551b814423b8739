-- Counts over lists: how often a number occurs, sums, tests of each element and of their order, the first that passes a test.
use Rattle.std.specs.Prelude.{ℕ, zero, suc, ◌+◌, ◌%◌, ◌^◌, Bool, true, false, List, [], ◌∷◌, eqb, ltb}
use Rattle.ledger.specs.Choice.{pick, both}

abbrev pub one_if : Bool → ℕ
one_if true = 1
one_if false = 0

-- how often n occurs
abbrev pub occ : ℕ → List ℕ → ℕ
occ n [] = 0
occ n (x ∷ l) = one_if (eqb n x) + occ n l

-- n occurs
abbrev pub has : ℕ → List ℕ → Bool
has n l = ltb 0 (occ n l)

-- the list less the first n in it
abbrev pub without : ℕ → List ℕ → List ℕ
without n [] = []
without n (x ∷ l) = pick (eqb n x) l (x ∷ without n l)

-- the sum of a quantity over a list
abbrev pub sum_of : {A : Type 0} → (A → ℕ) → List A → ℕ
sum_of f [] = 0
sum_of f (x ∷ l) = f x + sum_of f l

-- each element passes a test
abbrev pub all_of : {A : Type 0} → (A → Bool) → List A → Bool
all_of p [] = true
all_of p (x ∷ l) = both (p x) (all_of p l)

-- each number is under all that follow
abbrev pub ascending : List ℕ → Bool
ascending [] = true
ascending (n ∷ l) = both (all_of (ltb n) l) (ascending l)

-- the place of the first that passes a test, or the length where none does
abbrev pub first_of : {A : Type 0} → (A → Bool) → List A → ℕ
first_of p [] = 0
first_of p (x ∷ l) = pick (p x) 0 (suc (first_of p l))

-- a number is free: not 0, and counted nowhere
abbrev pub free : (ℕ → ℕ) → ℕ → Bool
free count c = both (ltb 0 c) (eqb (count c) 0)

-- from c on, wrapping after 4,294,967,295: the first free number of k, or else the number behind those
abbrev pub next_from : ℕ → (ℕ → ℕ) → ℕ → ℕ
next_from zero count c = c
next_from (suc k) count c = pick (free count c) c (next_from k count ((c + 1) % 2 ^ 32))
