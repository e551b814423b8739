-- Numbers are single among all exactly if each is single among those from it on: one that does not come again is no other's equal.
use Prim.Native.Nat.{ℕ, suc, ◌+◌, ◌-◌, ◌≤◌}
use native.Mathlib.Omega.{arith}
use mathlib.Core.Path.{◌≡◌, refl, sym, ap, ap₂, ◌∙◌}
use mathlib.Core.Bool.{Bool, true, false}
use mathlib.Core.List.{List, [], ◌∷◌}
use lib.Dec.{eqb, ltb, leb}
use lib.ListN.{length, get_or, drop, length-drop}
use lib.Seq.{take_all}
use borrow.Author.Tests.{leb-true, eqb-false, eq-eqb, ne_eqb}
use Rattle.std.specs.List.{list_all, range_with_len}
use Rattle.ledger.specs.Choice.{both}
use Rattle.ledger.specs.Tally.{one_if, occ, all_of}
use Rattle.ledger.proofs.Tallies.{both_of}
use Rattle.octets.specs.Runs.{part}
use Rattle.table_soundness.specs.Groups.{is_single_in, are_single}
use Rattle.table_soundness.proofs.Places.{both-and}

abbrev single_on : List ℕ → Bool
single_on [] = true
single_on (n ∷ l) = both (is_single_in (n ∷ l) n) (single_on l)

-- another number counts for none
unlike : (n x : ℕ) (m : List ℕ) → eqb n x ≡ false → is_single_in (n ∷ m) x ≡ is_single_in m x
unfolding is_single_in
unlike n x m e =
    let same : one_if (eqb x n) + occ x m ≡ occ x m = omega (arith, ap one_if (ne_eqb x n (λ z. eqb-false n x e (sym z)))) in
    ap (λ (k : ℕ). both (ltb 0 x) (leb k 1)) same

-- and one that is not in l for none of l
aside : (n : ℕ) (m l : List ℕ) → occ n l ≡ 0 → all_of (is_single_in (n ∷ m)) l ≡ all_of (is_single_in m) l
aside n m [] h = refl
aside n m (x ∷ l) h = go (eqb n x) refl h (aside n m l)
  where
    go : (b : Bool) → eqb n x ≡ b → one_if b + occ n l ≡ 0 → (occ n l ≡ 0 → all_of (is_single_in (n ∷ m)) l ≡ all_of (is_single_in m) l)
        → all_of (is_single_in (n ∷ m)) (x ∷ l) ≡ all_of (is_single_in m) (x ∷ l)
    go true e h rest = absurd (omega arith)
    go false e h rest = ap₂ both (unlike n x m e) (rest (omega arith))

comes-once : (n : ℕ) (l : List ℕ) → is_single_in (n ∷ l) n ≡ true → occ n l ≡ 0
unfolding is_single_in
comes-once n l h =
    let k : one_if (eqb n n) + occ n l ≤ 1 = leb-true _ _ (both_of (ltb 0 n) _ h).1 in
    omega (arith, ap one_if (eq-eqb n n refl))

pub single_on_lem : (l : List ℕ) → single_on l ≡ are_single l
single_on_lem [] = refl
single_on_lem (n ∷ l) = ap (both (is_single_in (n ∷ l) n)) (single_on_lem l) ∙ go (is_single_in (n ∷ l) n) refl
  where
    go : (b : Bool) → is_single_in (n ∷ l) n ≡ b → both b (are_single l) ≡ both b (all_of (is_single_in (n ∷ l)) l)
    go true e = sym (aside n l l (comes-once n l e))
    go false e = refl

-- ---- the walk: whether the number at place k is single among those from it on
single_from : (t : ℕ → Bool) (l : List ℕ) (a : ℕ) → ((k j : ℕ) → a + k ≡ j → t j ≡ is_single_in (drop k l) (get_or l k 0)) → list_all t (range_with_len a (length l)) ≡ single_on l
single_from t [] a h = refl
single_from t (x ∷ l) a h = both-and (t a) (list_all t (range_with_len (a + 1) (length l))) ∙ ap₂ both (h 0 a (omega arith)) (single_from t l (a + 1) (λ k j e. h (suc k) j (omega arith)))

pub all_single : (l : List ℕ) → list_all (λ k. is_single_in (part l k (length l - k)) (get_or l k 0)) (range_with_len 0 (length l)) ≡ are_single l
all_single l =
    let here : (k j : ℕ) → 0 + k ≡ j → is_single_in (part l j (length l - j)) (get_or l j 0) ≡ is_single_in (drop k l) (get_or l k 0) =
    λ k j e. let z : j ≡ k = omega arith in ap (λ (i : ℕ). is_single_in (part l i (length l - i)) (get_or l i 0)) z ∙ ap (λ (r : List ℕ). is_single_in r (get_or l k 0)) (take_all (length l - k) (drop k l) (omega (arith, length-drop k l))) in
    single_from (λ k. is_single_in (part l k (length l - k)) (get_or l k 0)) l 0 here ∙ single_on_lem l
