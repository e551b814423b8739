-- Under 256 the four tests of the table come to: odd, the reserved one, no, no; from 256 on to: no, no, under the types, over them.
-- The tests of document 01 are the same two in each part. The search names what it finds.
use Rattle.std.proofs.Common.{None, Option, Some}
use Prim.Native.Nat.{ℕ, zero, suc, ◌%◌, ◌<◌, ◌≤◌}
use mathlib.Core.Path.{◌≡◌, refl, ap, sym, subst, ◌∙◌}
use mathlib.Core.Bool.{Bool, true, false, not, false≢true}
use mathlib.Core.List.{List, [], ◌∷◌, map}
use lib.ListN.{length, get_or, drop}
use lib.Dec.{eqb, leb, ltb}
use native.Mathlib.Omega.{arith}
use borrow.Author.Tests.{le-ltb, lt-leb, le-leb, eqb-true, ltb-true, ltb-false, leb-true}
use Rattle.ledger.specs.Choice.{both, either, ◌⇒◌∣◌}
use Rattle.ledger.specs.Tally.{one_if, sum_of, all_of}
use Rattle.ledger.proofs.Tallies.{both_true, either-false, not-not, past_all, one_alone, even_or_odd, has_one}
use Rattle.paper.specs.Saps.{is_sap, is_type}
use Rattle.paper.specs.Exclusions.{most_number, exclusions, excludes, excluded_in, excluded_by, is_none}
use Rattle.paper.specs.declared.Exclusion.{Exclusion}

-- which of some exclusions hold of a number
abbrev held : List Exclusion → ℕ → List Bool
held l n = map (λ (x : Exclusion). excludes x n) l

-- an exclusion of a list that holds of a number
pub record HoldsIn (l : List Exclusion) (n : ℕ) (x : Exclusion) : Type 0 where
  pub place : ℕ
  pub inside : place < length l
  pub there : get_or l place x ≡ x
  pub holds : excludes x n ≡ true

-- The table is what document 01 says: a SAP is a number under 256 of which no exclusion holds, a type one from 256 on, and a bind can
-- take one of which none holds. The exclusion that is named is one of the table's and holds; of no number hold two, so the order of
-- the table decides nothing.
pub record Tied (n : ℕ) : Type 0 where
  pub saps : is_sap n ≡ both (ltb n 256) (is_none (excluded_by n))
  pub types : is_type n ≡ both (leb 256 n) (is_none (excluded_by n))
  pub binds : either (is_sap n) (is_type n) ≡ is_none (excluded_by n)
  pub named : (x : Exclusion) → excluded_by n ≡ Some x → HoldsIn exclusions n x
  pub once : sum_of one_if (held exclusions n) ≤ 1

abbrev named_by : Exclusion → Option Exclusion → Exclusion
named_by d (Some x) = x
named_by d None = d

named_holds : (l : List Exclusion) (n : ℕ) (x : Exclusion) → excluded_in l n ≡ Some x → HoldsIn l n x
unfolding ◌⇒◌∣◌
named_holds [] n x e = absurd (false≢true (sym (ap is_none e)))
named_holds (y ∷ l) n x e = go (excludes y n) refl (named_holds l n x) e
  where
    go : (b : Bool) → excludes y n ≡ b → (excluded_in l n ≡ Some x → HoldsIn l n x) → (b ⇒ Some y ∣ excluded_in l n) ≡ Some x → HoldsIn (y ∷ l) n x
    go true b rest e =
        let same : y ≡ x = ap (named_by y) e in
        record { place = 0; inside = omega arith; there = same; holds = subst (λ (z : Exclusion). excludes z n ≡ true) same b }
    go false b rest e =
        let found = rest e in
        record { place = suc found.place; inside = omega (arith, found.inside); there = found.there; holds = found.holds }

none_held : (l : List Exclusion) (n : ℕ) → is_none (excluded_in l n) ≡ all_of not (held l n)
unfolding ◌⇒◌∣◌
none_held [] n = refl
none_held (x ∷ l) n = go (excludes x n) (none_held l n)
  where
    go : (b : Bool) → is_none (excluded_in l n) ≡ all_of not (held l n) → is_none (b ⇒ Some x ∣ excluded_in l n) ≡ both (not b) (all_of not (held l n))
    go true h = refl
    go false h = h

under : (n : ℕ) → n < 256 → held exclusions n ≡ eqb (n % 2) 1 ∷ eqb n 6 ∷ false ∷ false ∷ []
unfolding excludes
under n h = simp (le-leb 0 n (omega arith), le-leb n 0xff (omega arith), one_alone 6 n, lt-leb 0x100 n h, lt-leb 0x10000 n (omega arith))

from : (n : ℕ) → 256 ≤ n → n ≤ most_number → held exclusions n ≡ false ∷ false ∷ leb n 0x5ff ∷ leb 0x10000 n ∷ []
unfolding excludes
from n h m = simp (le-leb 0 n (omega arith), lt-leb n 0xff h, le-leb 6 n (omega arith), lt-leb n 6 (omega arith), le-leb 0x100 n h, both_true (leb n 0x5ff), le-leb n most_number m, both_true (leb 0x10000 n))

-- what is left to show where it is known which hold
tie : (n : ℕ) (l : List Bool) → held exclusions n ≡ l → is_sap n ≡ both (ltb n 256) (all_of not l)
    → is_type n ≡ both (leb 256 n) (all_of not l) → sum_of one_if l ≤ 1 → Tied n
unfolding excluded_by
tie n l e s t o =
    let none : is_none (excluded_by n) ≡ all_of not l = none_held exclusions n ∙ ap (all_of not) e in
    record {
      saps = rw none s;
      types = rw none t;
      binds = rw (none, s, t) (go (ltb n 256) refl);
      named = named_holds exclusions n;
      once = subst (λ (k : List Bool). sum_of one_if k ≤ 1) (sym e) o;
    }
  where
    go : (b : Bool) → ltb n 256 ≡ b → either (both (ltb n 256) (all_of not l)) (both (leb 256 n) (all_of not l)) ≡ all_of not l
    go true b = simp (b, lt-leb 256 n (ltb-true n 256 b), either-false (all_of not l))
    go false b = simp (b, le-leb 256 n (ltb-false n 256 b))

low : (n : ℕ) → n < 256 → Tied n
unfolding is_sap is_type
low n h = tie n _ (under n h)
    (rw (even_or_odd n, has_one n 6, both_true (not (eqb n 6))))
    (simp (lt-leb 0x600 n (omega arith), lt-leb 256 n h))
    (go (eqb n 6) refl (eqb (n % 2) 1) refl)
  where
    go : (six : Bool) → eqb n 6 ≡ six → (odd : Bool) → eqb (n % 2) 1 ≡ odd → sum_of one_if (odd ∷ six ∷ false ∷ false ∷ []) ≤ 1
    go true s true o = absurd (omega (arith, eqb-true n 6 s, eqb-true (n % 2) 1 o))
    go true s false o = omega arith
    go false s true o = omega arith
    go false s false o = omega arith

high : (n : ℕ) → 256 ≤ n → n ≤ most_number → Tied n
unfolding is_sap is_type
high n h m = tie n _ (from n h m)
    (simp (le-ltb n 256 h))
    (rw (past_all 0x5ff n, past_all 0xffff n, le-leb 256 n h, not-not (leb n 0xffff)))
    (go (leb n 0x5ff) refl (leb 0x10000 n) refl)
  where
    go : (below : Bool) → leb n 0x5ff ≡ below → (above : Bool) → leb 0x10000 n ≡ above → sum_of one_if (false ∷ false ∷ below ∷ above ∷ []) ≤ 1
    go true b true a = absurd (omega (arith, leb-true n 0x5ff b, leb-true 0x10000 n a))
    go true b false a = omega arith
    go false b true a = omega arith
    go false b false a = omega arith

pub tied : (n : ℕ) → n ≤ most_number → Tied n
tied n h = go (ltb n 256) refl
  where
    go : (b : Bool) → ltb n 256 ≡ b → Tied n
    go true b = low n (ltb-true n 256 b)
    go false b = high n (ltb-false n 256 b) h

-- the search for the first that holds, place by place
pub excluded_from : (d : Exclusion) (l : List Exclusion) (k n : ℕ) → k < length l
    → excluded_in (drop k l) n ≡ (excludes (get_or l k d) n ⇒ Some (get_or l k d) ∣ excluded_in (drop (suc k) l) n)
excluded_from d [] k n h = absurd (omega arith)
excluded_from d (x ∷ l) zero n h = refl
excluded_from d (x ∷ l) (suc k) n h = excluded_from d l k n (omega arith)
