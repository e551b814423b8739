-- Which goodbyes are written goes by the state.
use native.Mathlib.Omega.{arith}
use mathlib.Core.Path.{◌≡◌, refl, sym, ◌∙◌}
use mathlib.Core.Bool.{true, false}
use lib.Dec.{eqb}
use borrow.Author.Tests.{eq-eqb, ne_eqb}
use Rattle.ledger.specs.Choice.{◌⇒◌∣◌}
use Rattle.ledger.specs.Tally.{has}
use Rattle.paper.specs.Base.{number_of, calling_states}
use Rattle.paper.specs.Openings.{goodbye, goodbyes}
use Rattle.paper.proofs.RecordsOut.{one_wrote}
use Rattle.octets.proofs.Writing.{wrote-more}
use Rattle.call_openings.proofs.put_goodbyes.Goals as goal

pub returns-then-number-eq9 : goal.returns-then-number-eq9
unfolding goodbyes ◌⇒◌∣◌
returns-then-number-eq9 c =
    let s = c.state_at-state in
    let in9 : eqb (number_of s.result) 9 ≡ true = eq-eqb _ 9 (sym c.number.ensures ∙ c.if-number-eq9.true) in
    rw (← s.ensures, in9) c.put_drops.ensures

pub returns-then-is_calling : goal.returns-then-is_calling
unfolding goodbyes ◌⇒◌∣◌
returns-then-is_calling c =
    let e = c.put_order.ensures in
    let s = c.state_at-state in
    let a = c.args in
    let in9 : eqb (number_of s.result) 9 ≡ false = ne_eqb _ 9 (λ z. c.if-number-eq9.false (c.number.ensures ∙ z)) in
    let calling : has (number_of s.result) calling_states ≡ true = sym c.is_calling.ensures ∙ c.if-is_calling.true in
    let bye = goodbye a.i 0 in
    rw (← s.ensures, in9, calling) (wrote-more (omega arith) (one_wrote bye bye refl e))

pub returns : goal.returns
unfolding goodbyes ◌⇒◌∣◌
returns c =
    let s = c.state_at-state in
    let in9 : eqb (number_of s.result) 9 ≡ false = ne_eqb _ 9 (λ z. c.if-number-eq9.false (c.number.ensures ∙ z)) in
    let calling : has (number_of s.result) calling_states ≡ false = sym c.is_calling.ensures ∙ c.if-is_calling.false in
    rw (← s.ensures, in9, calling) (record { few = omega arith; ends = refl; stands = refl })
