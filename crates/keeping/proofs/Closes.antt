-- A close ends each open number of its stream with a line of its own, oldest first, since no open number is 0; where none is open it
-- says nothing.
use Prim.Native.Nat.{ℕ, ◌<◌}
use native.Mathlib.Omega.{arith}
use mathlib.Core.Path.{◌≡◌, refl, ap, ◌∙◌}
use mathlib.Core.Bool.{Bool, true, false}
use mathlib.Core.List.{List, [], ◌∷◌, map}
use lib.ListN.{length}
use lib.Dec.{eqb}
use borrow.Author.Tests.{eqb-true, eq-eqb, ltb-true, ne_eqb}
use Rattle.ledger.specs.Choice.{pick}
use Rattle.ledger.specs.Tally.{occ, has}
use Rattle.ledger.proofs.Tallies.{chosen, empty}
use Rattle.fates_book.specs.declared.Line.{Line}
use Rattle.fates_book.specs.declared.Line.TheVariants.{Went}
use Rattle.fates_book.specs.Lines.{parting}
use Rattle.ledger.proofs.Sums.{sum_at}
use Rattle.fates_book.proofs.Shades.{silent, Silent, silence, Taken, emptied, untouched, ungranted}
use Rattle.fates_book.proofs.Said.{line_of}
use Rattle.paper.specs.Base.{is_in, Slot, closed, Table, slot, stream, waiting, ppa_numbers, with_slot}
use Rattle.paper.specs.RecordsOut.{Record}
use Rattle.paper.specs.Refusals.{served}
use Rattle.paper.specs.Correlations.{occurrences}
use Rattle.paper.specs.Openings.{goodbye, goodbyes}
use Rattle.paper.specs.declared.Input.{Input}
use Rattle.keeping.specs.Soundness.{Sound}
use Rattle.keeping.proofs.Changes.{quiet}
use Rattle.keeping.proofs.Leaves.{close_sound}
use Rattle.keeping.proofs.Traces.{shows_closes}
use Rattle.keeping.proofs.Effects.{Good}

module _ (t : Table) (k : Sound t) where
  no_zero : (i : ℕ) → occ 0 (waiting t i) ≡ 0
  unfolding occurrences
  no_zero i = omega (arith, sum_at (λ (x : Slot). occ 0 x.waiting) closed refl t.slots i, k.once 0)

  pub open_nonzero : (i n : ℕ) → has n (waiting t i) ≡ true → eqb n 0 ≡ false
  open_nonzero i n h = ne_eqb n 0 (λ e. omega (arith, ltb-true 0 (occ n (waiting t i)) h, ap (λ (m : ℕ). occ m (waiting t i)) e, no_zero i))

  module _ (q : Input) (i : ℕ) (u : (slot t i).is_open ≡ true) where
    -- the line of a number
    abbrev farewell : ℕ → Line
    farewell n = line_of q (goodbye i n)

    ends : (n : ℕ) → 0 < n → farewell n ≡ Went i n (parting q)
    ends n h = rw (ne_eqb n 0 (omega arith))

    farewells : (l : List ℕ) → map (line_of q) (map (goodbye i) l) ≡ map farewell l
    farewells [] = refl
    farewells (n ∷ l) = ap (λ (ys : List Line). farewell n ∷ ys) (farewells l)

    -- each number of stream i goes, and none of another
    taken : (s : ℕ) → Taken s i (map farewell (waiting t i)) (waiting t s) (pick (eqb s i) [] (waiting t s))
    taken s = go (eqb s i) refl
      where
        go : (b : Bool) → eqb s i ≡ b → Taken s i (map farewell (waiting t i)) (waiting t s) (pick b [] (waiting t s))
        go true e = rw (eqb-true s i e) (emptied i (parting q) farewell ends i (eq-eqb i i refl) (waiting t i) (no_zero i))
        go false e = untouched i (parting q) farewell ends s e (waiting t i) (waiting t s) (no_zero i)

    -- where none was open, none is taken
    as_it_was : length (waiting t i) ≡ 0 → (s : ℕ) → waiting t s ≡ pick (eqb s i) [] (waiting t s)
    as_it_was z s = go (eqb s i) refl
      where
        go : (b : Bool) → eqb s i ≡ b → waiting t s ≡ pick b [] (waiting t s)
        go true e = rw (eqb-true s i e) (empty (waiting t i) z)
        go false e = refl

    silent_close : is_in 9 (stream t i) ≡ false → (rs : List Record) → silent (map (line_of q) rs) ≡ true → Good t q (served (with_slot t i closed) rs)
    silent_close e rs h =
        let z : Silent (map (line_of q) rs) = silence (map (line_of q) rs) h in
        let n : length (waiting t i) ≡ 0 = quiet (ppa_numbers t) (slot t i) (k.each i) e in
        record {
          kept = close_sound t k i;
          seen = shows_closes t i _ u (λ s. record { left = z.same s (waiting t s) ∙ as_it_was n s; fairly = z.fairly s (waiting t s); rootedly = z.rootedly s; opens = z.opens s }) z.grant;
        }

    pub close_good : Good t q (served (with_slot t i closed) (goodbyes i (slot t i)))
    unfolding goodbyes
    close_good = chosen P _ _ _
        (λ e. record {
          kept = close_sound t k i;
          seen = rw (farewells (waiting t i)) (shows_closes t i (map farewell (waiting t i)) u taken (λ s g. ungranted i (parting q) farewell ends s g (waiting t i) (no_zero i)));
        })
        (λ e. chosen P _ _ _ (λ _. silent_close e (goodbye i 0 ∷ []) refl) (λ _. silent_close e [] refl))
      where
        P : List Record → Type 0
        P rs = Good t q (served (with_slot t i closed) rs)
