-- The rules are tested in the paper's order, by the form of the stream's own SAP; the sum is taken in eight bytes, where it does
-- not wrap.
use borrow.Author.Tests.{lt-ltb, le-ltb, eq-eqb, ne_eqb}
use Rattle.ledger.specs.Choice.{◌⇒◌∣◌}
use Rattle.paper.specs.Datagrams.{judge_datagram}
use Rattle.paper_rules.proofs.datagrams.judge_datagram.Goals as goal

pub returns-then-u-length : goal.returns-then-u-length
unfolding judge_datagram ◌⇒◌∣◌
returns-then-u-length c =
    simp (← c.of_sap-form.ensures, ← c.length.ensures, ne_eqb _ _ c.if-u-length.true)

pub returns-then-at-lt20 : goal.returns-then-at-lt20
unfolding judge_datagram ◌⇒◌∣◌
returns-then-at-lt20 c =
    simp (← c.of_sap-form.ensures, ← c.length.ensures, eq-eqb _ _ c.if-u-length.false, lt-ltb _ _ c.if-at-lt20.true)

pub returns-then-u-end : goal.returns-then-u-end
unfolding judge_datagram ◌⇒◌∣◌
returns-then-u-end c =
    simp (
      ← c.of_sap-form.ensures,
      ← c.length.ensures,
      eq-eqb _ _ c.if-u-length.false,
      le-ltb _ _ c.if-at-lt20.false,
      lt-ltb _ _ c.if-u-end.true,
    )

pub returns-then-not-could_be_bound : goal.returns-then-not-could_be_bound
unfolding judge_datagram ◌⇒◌∣◌
returns-then-not-could_be_bound c =
    simp (
      ← c.of_sap-form.ensures,
      ← c.length.ensures,
      eq-eqb _ _ c.if-u-length.false,
      le-ltb _ _ c.if-at-lt20.false,
      le-ltb _ _ c.if-u-end.false,
      ← c.could_be_bound.ensures,
      c.if-not-could_be_bound.true,
    )

pub returns : goal.returns
unfolding judge_datagram ◌⇒◌∣◌
returns c =
    simp (
      ← c.of_sap-form.ensures,
      ← c.length.ensures,
      eq-eqb _ _ c.if-u-length.false,
      le-ltb _ _ c.if-at-lt20.false,
      le-ltb _ _ c.if-u-end.false,
      ← c.could_be_bound.ensures,
      c.if-not-could_be_bound.false,
    )
