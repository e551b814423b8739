-- The rules on another stream are tested in the order of step 6: its state, its PPA, its mode.
use borrow.Author.Tests.{eq-eqb, ne_eqb}
use Rattle.ledger.specs.Choice.{◌⇒◌∣◌}
use Rattle.paper.specs.ErrorOrder.{judge_other}
use Rattle.paper_rules.proofs.order.judge_other.Goals as goal

pub returns-then-number-ne6 : goal.returns-then-number-ne6
unfolding judge_other ◌⇒◌∣◌
returns-then-number-ne6 c = simp (← c.number.ensures, ne_eqb _ _ c.if-number-ne6.true)

pub returns-then-x-s : goal.returns-then-x-s
unfolding judge_other ◌⇒◌∣◌
returns-then-x-s c = simp (← c.number.ensures, eq-eqb _ _ c.if-number-ne6.false, ne_eqb _ _ c.if-x-s.true)

pub returns-then-x-eq2 : goal.returns-then-x-eq2
unfolding judge_other ◌⇒◌∣◌
returns-then-x-eq2 c =
    simp (← c.number.ensures, eq-eqb _ _ c.if-number-ne6.false, eq-eqb _ _ c.if-x-s.false, eq-eqb _ _ c.if-x-eq2.true)

pub returns : goal.returns
unfolding judge_other ◌⇒◌∣◌
returns c =
    simp (← c.number.ensures, eq-eqb _ _ c.if-number-ne6.false, eq-eqb _ _ c.if-x-s.false, ne_eqb _ _ c.if-x-eq2.false)
