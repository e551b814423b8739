-- What a stream is of which the test of a sound table holds: a closed one holds nothing, and to none are more granted than it can hold.
use mathlib.Core.Bool.{Bool, true, false}
use mathlib.Core.List.{[], List}
use mathlib.Core.Path.{◌≡◌, refl, sym, ap, ◌∙◌}
use lib.ListN.{length}
use lib.Dec.{eqb}
use borrow.Author.Tests.{eqb-true}
use Prim.Native.Nat.{ℕ, ◌≤◌}
use native.Mathlib.Omega.{arith}
use Rattle.paper.specs.Base.{no_stream, Slot, number_of, is_in, closed, Table, slot, ppa_numbers, is_among, bound_states, stream}
use Rattle.paper.specs.Sound.{every, unbound, Bindless, holds_nothing, open_tests, sound_slot, sound_tests, sound}
use Rattle.paper.specs.declared.Stream.{Stream}
use Rattle.paper.proofs.StateNumbers.{in_zero}
use Rattle.paper.specs.Saps.{most_open, as_bind_allows}
use Rattle.paper.proofs.Saps.{allows}
use Rattle.ledger.specs.Choice.{both, pick}
use Rattle.ledger.proofs.Tallies.{both_of, empty, nth, all_at}

-- ---- one stream

-- with nothing of a bind
pub no_bind : (s : Stream) → every (unbound s) ≡ true → Bindless s
no_bind s h = record {
  mode = eqb-true _ _ (nth (unbound s) h 0);
  sap = eqb-true _ _ (nth (unbound s) h 1);
  granted = eqb-true _ _ (nth (unbound s) h 2);
}

-- one that holds nothing, open or not
abbrev empty_slot : Bool → Slot
empty_slot b = record { is_open = b; stream = no_stream; waiting = [] }

pub holds_nothing_lem : (x : Slot) → holds_nothing x ≡ true → x ≡ empty_slot x.is_open
unfolding holds_nothing
holds_nothing_lem x h =
    let s : Stream = x.stream in
    let a = both_of (is_in 0 s) (both (eqb s.ppa.0 0) (both (every (unbound s)) (eqb (length x.waiting) 0))) h in
    let b = both_of (eqb s.ppa.0 0) (both (every (unbound s)) (eqb (length x.waiting) 0)) a.1 in
    let c = both_of (every (unbound s)) (eqb (length x.waiting) 0) b.1 in
    let z = no_bind s c.0 in
    λ d. record {
      is_open = x.is_open;
      stream = record {
        state = in_zero s.state (eqb-true (number_of s.state) 0 a.0) d;
        mode = z.mode d;
        sap = z.sap d;
        ppa = record { 0 = eqb-true s.ppa.0 0 b.0 d };
        granted = z.granted d;
      };
      waiting = empty x.waiting (eqb-true (length x.waiting) 0 c.1) d;
    }

pub closed_is : (x : Slot) → holds_nothing x ≡ true → x.is_open ≡ false → x ≡ closed
closed_is x h e = holds_nothing_lem x h ∙ ap empty_slot e

-- to an open one no more are granted than it can hold
open_few : (ppas : List ℕ) (x : Slot) → every (open_tests ppas x) ≡ true → x.stream.granted ≤ most_open
open_few ppas x h = go (is_among bound_states x.stream) (nth (open_tests ppas x) h 1)
  where
    go : (b : Bool) → pick b (as_bind_allows x.stream) (every (unbound x.stream)) ≡ true → x.stream.granted ≤ most_open
    go true e = (allows x.stream e).few
    go false e = omega (arith, (no_bind x.stream e).granted)

-- ---- each stream of a sound table

module _ (t : Table) (h : sound t ≡ true) (i : ℕ) where
  tested : sound_slot (ppa_numbers t) (slot t i) ≡ true
  unfolding sound sound_slot holds_nothing
  tested = all_at (sound_slot (ppa_numbers t)) closed refl t.slots (nth (sound_tests t) h 2) i

  pub shut : (slot t i).is_open ≡ false → slot t i ≡ closed
  unfolding sound_slot
  shut o = closed_is (slot t i) (ap (λ (b : Bool). pick b (every (open_tests (ppa_numbers t) (slot t i))) (holds_nothing (slot t i))) (sym o) ∙ tested) o

  pub few-granted : (stream t i).granted ≤ most_open
  unfolding sound_slot
  few-granted = go (slot t i).is_open refl tested
    where
      go : (b : Bool) → (slot t i).is_open ≡ b → pick b (every (open_tests (ppa_numbers t) (slot t i))) (holds_nothing (slot t i)) ≡ true → (stream t i).granted ≤ most_open
      go true e p = open_few (ppa_numbers t) (slot t i) p
      go false e p = omega (arith, ap (λ (x : Slot). x.stream.granted) (shut e))
