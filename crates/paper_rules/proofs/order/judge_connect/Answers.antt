-- The rules are tested in the order of step 5; the sum is taken in eight bytes, where it does not wrap.
use borrow.Author.Tests.{lt-ltb, le-ltb, eq-eqb, ne_eqb}
use Rattle.ledger.specs.Choice.{◌⇒◌∣◌}
use Rattle.paper.specs.ErrorOrder.{judge_connect}
use Rattle.paper_rules.proofs.order.judge_connect.Goals as goal

pub returns-then-c-ne0 : goal.returns-then-c-ne0
unfolding judge_connect ◌⇒◌∣◌
returns-then-c-ne0 c = simp (ne_eqb _ _ c.if-c-ne0.true)

pub returns-then-c : goal.returns-then-c
unfolding judge_connect ◌⇒◌∣◌
returns-then-c c = simp (eq-eqb _ _ c.if-c-ne0.false, ne_eqb _ _ c.if-c.true)

pub returns-then-at-lt24 : goal.returns-then-at-lt24
unfolding judge_connect ◌⇒◌∣◌
returns-then-at-lt24 c = simp (eq-eqb _ _ c.if-c-ne0.false, eq-eqb _ _ c.if-c.false, lt-ltb _ _ c.if-at-lt24.true)

pub returns-then-c-end : goal.returns-then-c-end
unfolding judge_connect ◌⇒◌∣◌
returns-then-c-end c =
    simp (eq-eqb _ _ c.if-c-ne0.false, eq-eqb _ _ c.if-c.false, le-ltb _ _ c.if-at-lt24.false, lt-ltb _ _ c.if-c-end.true)

pub returns-then-c-eq1 : goal.returns-then-c-eq1
unfolding judge_connect ◌⇒◌∣◌
returns-then-c-eq1 c =
    simp (
      eq-eqb _ _ c.if-c-ne0.false,
      eq-eqb _ _ c.if-c.false,
      le-ltb _ _ c.if-at-lt24.false,
      le-ltb _ _ c.if-c-end.false,
      eq-eqb _ _ c.if-c-eq1.true,
    )

pub returns : goal.returns
unfolding judge_connect ◌⇒◌∣◌
returns c =
    simp (
      eq-eqb _ _ c.if-c-ne0.false,
      eq-eqb _ _ c.if-c.false,
      le-ltb _ _ c.if-at-lt24.false,
      le-ltb _ _ c.if-c-end.false,
      ne_eqb _ _ c.if-c-eq1.false,
    )
