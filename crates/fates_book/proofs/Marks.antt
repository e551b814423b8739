-- The end of a number is entered at the one indication of the opening that is still open with it, and nowhere else.
use Prim.Native.Nat.{ℕ, zero, suc, ◌+◌, ◌<◌, ◌≤◌}
use mathlib.Core.Path.{◌≡◌, refl, ap}
use mathlib.Core.Bool.{Bool, true, false}
use mathlib.Core.List.{List, [], ◌∷◌}
use lib.ListN.{length, get_or, set}
use lib.Dec.{eqb}
use native.Mathlib.Omega.{arith}
use borrow.Author.Tests.{eq-eqb}
use Rattle.ledger.specs.Choice.{pick}
use Rattle.ledger.specs.Tally.{one_if, occ}
use Rattle.ledger.proofs.Tallies.{picked}
use Rattle.fates_book.specs.declared.End.{End}
use Rattle.fates_book.specs.Book.{Fate, still_open, met, Opening, no_indication, is_still_open, open_of, mark}

one_open : (n : ℕ) (o : Opening) (k : ℕ) → k < length o → get_or o k no_indication ≡ record { number = n; fate = still_open } → 0 < occ n (open_of o)
one_open n [] k l h = absurd (omega arith)
one_open n (y ∷ o) zero l h = rw h (rw (eq-eqb n n refl) (omega arith))
one_open n (y ∷ o) (suc k) l h =
    let later = one_open n o k (omega arith) h in
    picked (λ (w : List ℕ). 0 < occ n w) (is_still_open y.fate) (y.number ∷ open_of o) (open_of o) (λ e. omega (arith, later)) (λ e. later)

pub marked : (n : ℕ) (e : End) (o : Opening) (k : ℕ) → k < length o → get_or o k no_indication ≡ record { number = n; fate = still_open } → occ n (open_of o) ≤ 1
    → mark n e o ≡ set o k (record { number = n; fate = met e })
marked n e [] k l h u = absurd (omega arith)
marked n e (y ∷ o) zero l h u = rw h (rw (eq-eqb n n refl))
marked n e (y ∷ o) (suc k) l h u = go y.number y.fate u (λ v. marked n e o k (omega arith) h v)
  where
    go : (m : ℕ) (f : Fate) → occ n (open_of (record { number = m; fate = f } ∷ o)) ≤ 1
        → (occ n (open_of o) ≤ 1 → mark n e o ≡ set o k (record { number = n; fate = met e }))
        → mark n e (record { number = m; fate = f } ∷ o) ≡ record { number = m; fate = f } ∷ set o k (record { number = n; fate = met e })
    go m (met g) u r = ap (λ (p : Opening). record { number = m; fate = met g } ∷ p) (r u)
    go m still_open u r = at_b (eqb n m) u
      where
        at_b : (b : Bool) → one_if b + occ n (open_of o) ≤ 1
            → pick b (record { number = m; fate = met e } ∷ o) (record { number = m; fate = still_open } ∷ mark n e o)
            ≡ record { number = m; fate = still_open } ∷ set o k (record { number = n; fate = met e })
        at_b true v = absurd (omega (arith, v, one_open n o k (omega arith) h))
        at_b false v = ap (λ (p : Opening). record { number = m; fate = still_open } ∷ p) (r (omega (arith, v)))
