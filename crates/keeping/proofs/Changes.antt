-- A stream that goes to a state holds what that state holds (`settled`), so it is sound there if it held as much before and its
-- open numbers suit the state. ATTACH and BIND alone give it something new.
use Prim.Native.Nat.{ℕ, ◌≤◌}
use mathlib.Core.Path.{◌≡◌, refl, sym, ap, ◌∙◌}
use mathlib.Core.Bool.{Bool, true, false, false≢true}
use mathlib.Core.List.{List}
use lib.ListN.{length}
use lib.Dec.{eqb, ltb}
use native.Mathlib.Omega.{arith}
use borrow.Author.Tests.{eqb-true, ltb-true, ltb-false, lt-ltb}
use Rattle.ledger.specs.Tally.{occ, has}
use Rattle.ledger.proofs.Tallies.{occ-length, picked}
use Rattle.paper.specs.Base.{number_of, number, is_in, is_among, bound_states, connection_states, no_stream, in_state, attached_in, settled, Slot, closed}
use Rattle.paper.specs.Saps.{as_bind_allows, most_open}
use Rattle.paper.specs.declared.State.{State}
use Rattle.paper.specs.declared.Stream.{Stream}
use Rattle.paper.specs.declared.PpaNumber.{PpaNumber}
use Rattle.paper.proofs.StateNumbers.{bound-attached, connection_bound}
use Rattle.paper.proofs.Saps.{allows}
use Rattle.keeping.specs.Soundness.{Ok}

-- a number of which a test fails that 9 passes is not 9
pub not-nine : (p : ℕ → Bool) (n : ℕ) → p 9 ≡ true → p n ≡ false → eqb n 9 ≡ false
not-nine p n h g = go (eqb n 9) refl
  where
    go : (b : Bool) → eqb n 9 ≡ b → b ≡ false
    go true e = absurd (false≢true (sym g ∙ ap p (eqb-true n 9 e) ∙ h))
    go false e = refl

-- ---- what a state asks of a stream that goes there

pub record Fits (s : Stream) (q : State) : Type 0 where
  pub attached : eqb (number_of q) 0 ≡ false → is_in 0 s ≡ false
  pub bound : has (number_of q) bound_states ≡ true → is_among bound_states s ≡ true
  pub connected : has (number_of q) connection_states ≡ true → s.mode ≡ 1

module _ (ps : List ℕ) where
  -- a closed one is in state 0
  pub opened : (x : Slot) → Ok ps x → is_in 0 x.stream ≡ false → x.is_open ≡ true
  opened x o h = go x.is_open refl
    where
      go : (b : Bool) → x.is_open ≡ b → b ≡ true
      go true e = refl
      go false e = absurd (false≢true (sym h ∙ ap (λ (y : Slot). is_in 0 y.stream) (o.shut e)))

  pub eight : (x : Slot) → Ok ps x → x.stream.granted ≤ most_open
  eight x o = go (is_among bound_states x.stream) refl
    where
      go : (b : Bool) → is_among bound_states x.stream ≡ b → x.stream.granted ≤ most_open
      go true e = (allows x.stream (o.bound e)).few
      go false e = omega (arith, (o.unbound e).granted)

  -- only 9 has open numbers
  pub quiet : (x : Slot) → Ok ps x → is_in 9 x.stream ≡ false → length x.waiting ≡ 0
  quiet x o e = omega (arith, ltb-false 0 (length x.waiting) (sym o.nine ∙ e))

  pub in_nine : (x : Slot) (n : ℕ) → Ok ps x → has n x.waiting ≡ true → is_in 9 x.stream ≡ true
  in_nine x n o h = o.nine ∙ lt-ltb 0 (length x.waiting) (omega (arith, ltb-true 0 (occ n x.waiting) h, occ-length n x.waiting))

  -- closed
  pub ok-closed : Ok ps closed
  ok-closed = record {
    shut = λ e. refl;
    loose = λ e. refl;
    attached = λ e. absurd (false≢true (sym e));
    unbound = λ e. record { mode = refl; sap = refl; granted = refl };
    bound = λ e. absurd (false≢true e);
    connected = λ e. absurd (false≢true e);
    nine = refl;
    few = omega arith;
  }

  -- an open one with these numbers
  abbrev open_with : Stream → List ℕ → Slot
  open_with s w = record { is_open = true; stream = s; waiting = w }

  -- it holds nothing
  pub ok_none : (w : List ℕ) → ltb 0 (length w) ≡ false → Ok ps (open_with no_stream w)
  ok_none w z = record {
    shut = λ e. absurd (false≢true (sym e));
    loose = λ e. refl;
    attached = λ e. absurd (false≢true (sym e));
    unbound = λ e. record { mode = refl; sap = refl; granted = refl };
    bound = λ e. absurd (false≢true e);
    connected = λ e. absurd (false≢true e);
    nine = sym z;
    few = ltb-false 0 (length w) z;
  }

  -- a PPA alone
  pub ok-attached : (q : State) (p : PpaNumber) (w : List ℕ) → eqb (number_of q) 0 ≡ false → has (number_of q) bound_states ≡ false → has p.0 ps ≡ true
      → ltb 0 (length w) ≡ false → Ok ps (open_with (attached_in q p) w)
  ok-attached q p w n b a z = record {
    shut = λ e. absurd (false≢true (sym e));
    loose = λ e. absurd (false≢true (sym n ∙ e));
    attached = λ e. a;
    unbound = λ e. record { mode = refl; sap = refl; granted = refl };
    bound = λ e. absurd (false≢true (sym b ∙ e));
    connected = λ e. absurd (false≢true (sym b ∙ connection_bound (number_of q) e));
    nine = not-nine (λ (m : ℕ). has m bound_states) (number_of q) refl b ∙ sym z;
    few = ltb-false 0 (length w) z;
  }

  -- a binding, of mode 1 where the state is one of a connection
  pub ok-bound : (s : Stream) (w : List ℕ) → is_among bound_states s ≡ true → has s.ppa.0 ps ≡ true → as_bind_allows s ≡ true → (is_among connection_states s ≡ true → s.mode ≡ 1)
      → is_in 9 s ≡ ltb 0 (length w) → length w ≤ s.granted → Ok ps (open_with s w)
  ok-bound s w b a l j n f = record {
    shut = λ e. absurd (false≢true (sym e));
    loose = λ e. absurd (false≢true (sym (bound-attached (number s) b) ∙ e));
    attached = λ e. a;
    unbound = λ e. absurd (false≢true (sym e ∙ b));
    bound = λ e. l;
    connected = j;
    nine = n;
    few = f;
  }

  -- A stream goes to a state, with open numbers that suit it.
  pub ok-settled : (x : Slot) (q : State) (w : List ℕ) → Ok ps x → Fits x.stream q → eqb (number_of q) 9 ≡ ltb 0 (length w) → length w ≤ x.stream.granted
      → Ok ps (open_with (settled q x.stream) w)
  unfolding as_bind_allows
  ok-settled x q w o f n l =
      picked P (eqb (number_of q) 0) no_stream _
      (λ e. ok_none w (sym n ∙ ap (λ (m : ℕ). eqb m 9) (eqb-true (number_of q) 0 e)))
      (λ e. picked P (has (number_of q) bound_states) _ _
      (λ b. ok-bound (in_state q x.stream) w b (o.attached (f.attached e)) (o.bound (f.bound b)) f.connected n l)
      (λ b. ok-attached q x.stream.ppa w e b (o.attached (f.attached e)) (sym n ∙ not-nine (λ (m : ℕ). has m bound_states) (number_of q) refl b)))
    where
      P : Stream → Type 0
      P y = Ok ps (open_with y w)
