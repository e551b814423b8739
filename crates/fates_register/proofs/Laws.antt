-- One step of each walk over cells, where some are left; and lines that are entered in two goes.
use Prim.Native.Nat.{ℕ, zero, suc, ◌+◌, ◌-◌, ◌≤◌, ◌<◌}
use native.Mathlib.Omega.{arith}
use mathlib.Core.Path.{◌≡◌, refl, ap, ◌∙◌}
use mathlib.Core.Bool.{Bool, true, false}
use mathlib.Core.List.{List, [], ◌∷◌, ◌++◌, append_assoc}
use Rattle.std.proofs.Common.{add-one}
use Rattle.std.proofs.Math.Seq.{take-suc-set, drop-cons}
use Rattle.std.proofs.lemmas.List.{drop-set-lt}
use Rattle.std.proofs.lemmas.Grind.{common_steps}
use lib.ListN.{length, get_or, set, take, drop, replicate, length-set}
use lib.Dec.{eqb, ltb}
use Rattle.ledger.specs.Choice.{both, ◌⇒◌∣◌}
use Rattle.fates_register.specs.Register.{first_from, free_from, find_from, close_up, cleared, entered, entered_all}
use Rattle.fates_book.specs.declared.Line.{Line}

-- ---- the places

-- the first of those left is the one, or is passed, or none is left
pub first_here : (test : ℕ → ℕ → Bool) (k c : ℕ) (l : List ℕ) → 0 < k → test (get_or l c 0) (get_or l (c + 1) 0) ≡ true → first_from test k c l ≡ c
unfolding first_from ◌⇒◌∣◌
first_here test zero c l h e = absurd (omega arith)
first_here test (suc k) c l h e = rw e

pub first_past : (test : ℕ → ℕ → Bool) (k c : ℕ) (l : List ℕ) → 0 < k → test (get_or l c 0) (get_or l (c + 1) 0) ≡ false
    → first_from test k c l ≡ first_from test (k - 1) (c + 2) l
unfolding first_from ◌⇒◌∣◌
first_past test zero c l h e = absurd (omega arith)
first_past test (suc k) c l h e =
    let s : suc k - 1 ≡ k = omega arith in
    rw (s, e)

pub first_none : (test : ℕ → ℕ → Bool) (k c r : ℕ) (l : List ℕ) → k ≤ 0 → r ≡ c → r ≡ first_from test k c l
unfolding first_from
first_none test zero c r l h e = e
first_none test (suc k) c r l h e = absurd (omega arith)

-- the free ones, and those of a number
pub first-free : (k c : ℕ) (l : List ℕ) → first_from (λ x y. eqb x 0) k c l ≡ free_from k c l
unfolding first_from free_from
first-free zero c l = refl
first-free (suc k) c l = rw (first-free k (c + 2) l)

pub first-find : (k c n : ℕ) (l : List ℕ) → first_from (λ x y. both (ltb 0 x) (eqb y n)) k c l ≡ find_from k c n l
unfolding first_from find_from
first-find zero c n l = refl
first-find (suc k) c n l = rw (first-find k (c + 2) n l)

-- ---- cells

pub close_all : (k c : ℕ) (l : List ℕ) → c + 2 + k ≤ length l → close_up k c l ≡ take c l ++ (take k (drop (c + 2) l) ++ drop (c + k) l)
unfolding close_up
close_all zero c l h = grind (arith, common_steps)
close_all (suc k) c l h =
    let v : ℕ = get_or l (c + 2) 0 in
    let inside : c < length l = omega arith in
    let two : c + 2 < length l = omega arith in
    let past : c < c + 1 + 2 = omega arith in
    let done : c < c + 1 + k = omega arith in
    let front : take (c + 1) (set l c v) ≡ take c l ++ (v ∷ []) = rw add-one (take-suc-set l c v inside) in
    let next : suc (c + 2) ≡ c + 1 + 2 = omega arith in
    let from : drop (c + 2) l ≡ v ∷ drop (c + 1 + 2) l = drop-cons l (c + 2) 0 two ∙ ap (λ (n : ℕ). v ∷ drop n l) next in
    let rest : c + 1 + k ≡ c + suc k = omega arith in
    close_all k (c + 1) (set l c v) (omega (arith, length-set l c v))
    ∙ rw (front, drop-set-lt (c + 1 + 2) l c v past, drop-set-lt (c + 1 + k) l c v done, from, rest, append_assoc)

pub clear_all : (k c : ℕ) (l : List ℕ) → c + k ≤ length l → cleared k c l ≡ take c l ++ (replicate k 0 ++ drop (c + k) l)
unfolding cleared
clear_all zero c l h = grind (arith, common_steps)
clear_all (suc k) c l h =
    let inside : c < length l = omega arith in
    let done : c < c + 1 + k = omega arith in
    let front : take (c + 1) (set l c 0) ≡ take c l ++ (0 ∷ []) = rw add-one (take-suc-set l c 0 inside) in
    let rest : c + 1 + k ≡ c + suc k = omega arith in
    clear_all k (c + 1) (set l c 0) (omega (arith, length-set l c 0))
    ∙ rw (front, drop-set-lt (c + 1 + k) l c 0 done, rest, append_assoc)

-- the lines of two lists, one behind the other
pub entered_append : (xs ys : List Line) (l : List ℕ) → entered_all (xs ++ ys) l ≡ entered_all ys (entered_all xs l)
unfolding entered_all
entered_append [] ys l = refl
entered_append (x ∷ xs) ys l = entered_append xs ys (entered x l)
