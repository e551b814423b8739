-- The still open indications of an opening by their places in it, and what becomes of them as one comes and as one ends.
use Prim.Native.Nat.{ℕ, zero, suc, ◌+◌, ◌≤◌, ◌<◌}
use mathlib.Core.Path.{◌≡◌, refl, ap, ◌∙◌}
use mathlib.Core.Bool.{Bool, true, false}
use mathlib.Core.List.{List, [], ◌∷◌, ◌++◌}
use lib.ListN.{length, get_or, set, length-append}
use lib.Dec.{eqb}
use native.Mathlib.Omega.{arith}
use borrow.Author.Tests.{eqb-true}
use Rattle.ledger.specs.Choice.{pick, both}
use Rattle.ledger.specs.Tally.{one_if, occ, first_of}
use Rattle.fates_book.specs.declared.End.{End}
use Rattle.fates_book.specs.Book.{Fate, still_open, met, Indication, Opening, is_still_open, open_of, open_count, mark, noted}

-- the places and the numbers of those still open, the oldest first, where the first of the opening has place p
abbrev pub places_from : ℕ → Opening → List ℕ
places_from p [] = []
places_from p (x ∷ o) = pick (is_still_open x.fate) (p ∷ x.number ∷ places_from (suc p) o) (places_from (suc p) o)

-- still open, with number n: whom `mark n` asks for
abbrev pub is_marked : ℕ → Indication → Bool
is_marked n x = both (is_still_open x.fate) (eqb n x.number)

-- where the oldest of those begins among the places
abbrev pub spot : ℕ → Opening → ℕ
spot n [] = 0
spot n (x ∷ o) = pick (is_still_open x.fate) (pick (eqb n x.number) 0 (suc (suc (spot n o)))) (spot n o)

-- each takes two
pub places_length : (p : ℕ) (o : Opening) → length (places_from p o) ≡ open_count o + open_count o
places_length p [] = refl
places_length p (x ∷ o) = go (is_still_open x.fate) (places_length (suc p) o)
  where
    go : (b : Bool) → length (places_from (suc p) o) ≡ open_count o + open_count o
        → length (pick b (p ∷ x.number ∷ places_from (suc p) o) (places_from (suc p) o)) ≡ length (pick b (x.number ∷ open_of o) (open_of o)) + length (pick b (x.number ∷ open_of o) (open_of o))
    go true r = omega arith
    go false r = r

-- one that comes stands behind the others
pub places_noted : (n p : ℕ) (o : Opening) → places_from p (noted n o) ≡ places_from p o ++ ((p + length o) ∷ n ∷ [])
places_noted n p [] = ap (λ (k : ℕ). k ∷ n ∷ []) (omega arith)
places_noted n p (x ∷ o) = go (is_still_open x.fate) (places_noted n (suc p) o ∙ ap (λ (k : ℕ). places_from (suc p) o ++ (k ∷ n ∷ [])) (omega arith))
  where
    go : (b : Bool) → places_from (suc p) (noted n o) ≡ places_from (suc p) o ++ ((p + suc (length o)) ∷ n ∷ [])
        → pick b (p ∷ x.number ∷ places_from (suc p) (noted n o)) (places_from (suc p) (noted n o))
        ≡ pick b (p ∷ x.number ∷ places_from (suc p) o) (places_from (suc p) o) ++ ((p + suc (length o)) ∷ n ∷ [])
    go true r = ap (λ (v : List ℕ). p ∷ x.number ∷ v) r
    go false r = r

pub length-noted : (n : ℕ) (o : Opening) → length (noted n o) ≡ length o + 1
length-noted n o = length-append o _

pub length-mark : (n : ℕ) (e : End) (o : Opening) → length (mark n e o) ≡ length o
length-mark n e [] = refl
length-mark n e (x ∷ o) = go (is_marked n x) (length-mark n e o)
  where
    go : (b : Bool) → length (mark n e o) ≡ length o → length (pick b (record { number = x.number; fate = met e } ∷ o) (x ∷ mark n e o)) ≡ suc (length o)
    go true r = refl
    go false r = ap suc r

-- One ends that is still open: o is the opening before and o' after, d where it stands among the places, k its place in the
-- opening, from 0 on
pub record Ended (n : ℕ) (e : End) (o o' : Opening) (d k : ℕ) : Type 0 where
  -- it stands among the places, and in the opening
  pub less : d < open_count o + open_count o
  pub inside : k < length o
  -- the places before it stay, those behind it move up
  pub before : (p j : ℕ) → j < d → get_or (places_from p o') j 0 ≡ get_or (places_from p o) j 0
  pub behind : (p j : ℕ) → d ≤ j → get_or (places_from p o') j 0 ≡ get_or (places_from p o) (suc (suc j)) 0
  -- its place and its number
  pub place : (p : ℕ) → get_or (places_from p o) d 0 ≡ p + k
  pub number : (p : ℕ) → get_or (places_from p o) (suc d) 0 ≡ n
  -- only its fate changes
  pub only : o' ≡ set o k (record { number = n; fate = met e })

-- the first of the opening is the one
ended-first : (n m : ℕ) (e : End) (o : Opening) → n ≡ m → Ended n e (record { number = m; fate = still_open } ∷ o) (record { number = m; fate = met e } ∷ o) 0 0
ended-first n m e o z = record {
  less = omega arith;
  inside = omega arith;
  before = λ p j h. absurd (omega arith);
  behind = λ p j h. refl;
  place = λ p. omega arith;
  number = λ p. omega arith;
  only = ap (λ (k : ℕ). record { number = k; fate = met e } ∷ o) (omega arith);
}

-- the first has ended before
ended_past : (n m : ℕ) (e f : End) (o o' : Opening) (d k : ℕ) → Ended n e o o' d k → Ended n e (record { number = m; fate = met f } ∷ o) (record { number = m; fate = met f } ∷ o') d (suc k)
ended_past n m e f o o' d k r = record {
  less = r.less;
  inside = omega arith;
  before = λ p j h. r.before (suc p) j h;
  behind = λ p j h. r.behind (suc p) j h;
  place = λ p. r.place (suc p) ∙ omega arith;
  number = λ p. r.number (suc p);
  only = ap (λ (q : Opening). record { number = m; fate = met f } ∷ q) r.only;
}

-- the first is still open, with another number
ended_later : (n m : ℕ) (e : End) (o o' : Opening) (d k : ℕ) → Ended n e o o' d k
    → Ended n e (record { number = m; fate = still_open } ∷ o) (record { number = m; fate = still_open } ∷ o') (suc (suc d)) (suc k)
ended_later n m e o o' d k r = record {
  less = omega (arith, r.less);
  inside = omega (arith, r.inside);
  before = before';
  behind = behind';
  place = λ p. r.place (suc p) ∙ omega arith;
  number = λ p. r.number (suc p);
  only = ap (λ (q : Opening). record { number = m; fate = still_open } ∷ q) r.only;
}
  where
    before' : (p j : ℕ) → j < suc (suc d) → get_or (p ∷ m ∷ places_from (suc p) o') j 0 ≡ get_or (p ∷ m ∷ places_from (suc p) o) j 0
    before' p zero h = refl
    before' p (suc zero) h = refl
    before' p (suc (suc j)) h = r.before (suc p) j (omega arith)

    behind' : (p j : ℕ) → suc (suc d) ≤ j → get_or (p ∷ m ∷ places_from (suc p) o') j 0 ≡ get_or (p ∷ m ∷ places_from (suc p) o) (suc (suc j)) 0
    behind' p zero h = absurd (omega arith)
    behind' p (suc zero) h = absurd (omega arith)
    behind' p (suc (suc j)) h = r.behind (suc p) j (omega arith)

-- a number that is still open ends at its oldest
pub ended : (n : ℕ) (e : End) (o : Opening) → 0 < occ n (open_of o) → Ended n e o (mark n e o) (spot n o) (first_of (is_marked n) o)
ended n e [] h = absurd (omega arith)
ended n e (x ∷ o) h = go x.number x.fate h (ended n e o)
  where
    go : (m : ℕ) (q : Fate) → 0 < occ n (open_of (record { number = m; fate = q } ∷ o)) → (0 < occ n (open_of o) → Ended n e o (mark n e o) (spot n o) (first_of (is_marked n) o))
        → Ended n e (record { number = m; fate = q } ∷ o) (mark n e (record { number = m; fate = q } ∷ o)) (spot n (record { number = m; fate = q } ∷ o))
        (first_of (is_marked n) (record { number = m; fate = q } ∷ o))
    go m (met f) h r = ended_past n m e f o (mark n e o) (spot n o) (first_of (is_marked n) o) (r h)
    go m still_open h r = at_b (eqb n m) refl h
      where
        at_b : (b : Bool) → eqb n m ≡ b → 0 < one_if b + occ n (open_of o)
            → Ended n e (record { number = m; fate = still_open } ∷ o)
            (pick b (record { number = m; fate = met e } ∷ o) (record { number = m; fate = still_open } ∷ mark n e o)) (pick b 0 (suc (suc (spot n o)))) (pick b 0 (suc (first_of (is_marked n) o)))
        at_b true q h = ended-first n m e o (eqb-true n m q)
        at_b false q h = ended_later n m e o (mark n e o) (spot n o) (first_of (is_marked n) o) (r (omega arith))
