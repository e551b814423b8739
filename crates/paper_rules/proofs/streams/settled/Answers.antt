-- What a state holds is asked of it as the paper does: nothing in 0, a binding or not elsewhere.
use borrow.Author.Tests.{eq-eqb, ne_eqb}
use Prim.Native.Nat.{ℕ}
use lib.Dec.{eqb}
use mathlib.Core.Bool.{true, false}
use mathlib.Core.Path.{refl, sym, ap, ◌∙◌}
use Rattle.paper.proofs.StateNumbers.{settled_by}
use Rattle.paper_rules.proofs.streams.settled.Goals as goal

pub returns-then-number-eq0 : goal.returns-then-number-eq0
returns-then-number-eq0 c =
    let a = c.args in
    c.no_stream.ensures ∙ settled_by a.q a.s true _ (ap (λ (n : ℕ). eqb n 0) (sym c.number.ensures) ∙ eq-eqb _ _ c.if-number-eq0.true) refl

pub returns-then-holds_binding : goal.returns-then-holds_binding
returns-then-holds_binding c =
    let a = c.args in
    c.in_state.ensures
    ∙ settled_by a.q a.s false true
    (ap (λ (n : ℕ). eqb n 0) (sym c.number.ensures) ∙ ne_eqb _ _ c.if-number-eq0.false)
    (sym c.holds_binding.ensures ∙ c.if-holds_binding.true)

pub returns : goal.returns
returns c =
    let a = c.args in
    c.attached_in.ensures
    ∙ settled_by a.q a.s false false
    (ap (λ (n : ℕ). eqb n 0) (sym c.number.ensures) ∙ ne_eqb _ _ c.if-number-eq0.false)
    (sym c.holds_binding.ensures ∙ c.if-holds_binding.false)
