-- Where a bind will listen nobody listens yet, if the order of errors lets it pass: so that one listens there at most.
use Prim.Native.Nat.{ℕ, ◌+◌, ◌≤◌}
use native.Mathlib.Omega.{arith}
use mathlib.Core.Path.{◌≡◌, refl, ap, ◌∙◌}
use mathlib.Core.Bool.{Bool, true, false}
use lib.Dec.{eqb, ltb}
use borrow.Author.Tests.{eqb-true, ltb-true, ltb-false}
use Rattle.ledger.specs.Choice.{both}
use Rattle.ledger.specs.Tally.{one_if, first_of}
use Rattle.ledger.proofs.Tallies.{first_none}
use Rattle.paper.specs.Base.{Slot, Table, stream, stream_total}
use Rattle.paper.specs.Saps.{grant_of, listens, listener, is_listened_for}
use Rattle.paper.specs.Sound.{listeners_of}
use Rattle.paper.specs.Effects.{bound_in}
use Rattle.paper.specs.declared.State.{State}
use Rattle.paper.specs.declared.Stream.{Stream}
use Rattle.paper.specs.declared.PpaNumber.{PpaNumber}
use Rattle.paper.specs.declared.BindRequest.{BindRequest}
use Rattle.paper.proofs.Fair.{MayBind, bind_unheard}
use Rattle.keeping.specs.Soundness.{Sound}
use Rattle.keeping.proofs.Leaves.{hearing}

-- what a bind leaves of stream i
abbrev pub bound_by : Table → ℕ → BindRequest → State → Stream
bound_by t i b q = bound_in q (stream t i).ppa b.mode b.sap (grant_of b.mode b.most)

module _ (t : Table) (k : Sound t) where
  unlistened : (p : PpaNumber) (sap : ℕ) → is_listened_for t p sap ≡ false → listeners_of t p sap ≡ 0
  unfolding is_listened_for listener
  unlistened p sap e =
      let there : Slot → Bool = λ (x : Slot). listens p sap x.stream in
      first_none there t.slots (omega (arith, k.sixteen, ltb-false (first_of there t.slots) stream_total e))

  pub bind_alone : (i : ℕ) (b : BindRequest) (q : State) → MayBind t i b → (p : PpaNumber) (sap : ℕ) → hearing p sap (bound_by t i b q) + listeners_of t p sap ≤ 1
  unfolding listens
  bind_alone i b q f p sap = go (ltb 0 (grant_of b.mode b.most)) refl (eqb (stream t i).ppa.0 p.0) refl (eqb b.sap sap) refl
    where
      go : (x : Bool) → ltb 0 (grant_of b.mode b.most) ≡ x → (y : Bool) → eqb (stream t i).ppa.0 p.0 ≡ y → (z : Bool) → eqb b.sap sap ≡ z
          → one_if (both x (both y z)) + listeners_of t p sap ≤ 1
      go false d y e z g = omega (arith, k.alone p sap)
      go true d false e z g = omega (arith, k.alone p sap)
      go true d true e false g = omega (arith, k.alone p sap)
      go true d true e true g =
          let w : listeners_of t (stream t i).ppa b.sap ≡ listeners_of t p sap = ap (λ (a : ℕ). listeners_of t (record { 0 = a }) b.sap) (eqb-true _ _ e) ∙ ap (listeners_of t p) (eqb-true _ _ g) in
          omega (arith, w, unlistened (stream t i).ppa b.sap (bind_unheard f (ltb-true _ _ d)))
