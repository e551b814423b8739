-- A record lies within its bytes, so a size that is not 0 is no more than they are; where it is 0 all are read.
use native.Mathlib.Omega.{arith}
use borrow.Author.Rules.{rules}
use borrow.Author.Tests.{eq-eqb, ne_eqb}
use Rattle.ledger.specs.Choice.{◌⇒◌∣◌}
use Rattle.paper.proofs.Records.{record_within}
use Rattle.inner.specs.Run.{passed}
use Rattle.inner.proofs.passed.Goals as goal

pub returns-then-size-eq0 : goal.returns-then-size-eq0
unfolding passed ◌⇒◌∣◌
returns-then-size-eq0 c = record {
  is = rw (← c.record_size-size.ensures, eq-eqb _ 0 c.if-size-eq0.true);
  some = search rules;
  within = search rules;
}

pub returns : goal.returns
unfolding passed ◌⇒◌∣◌
returns c =
    let size = c.record_size-size.ensures in
    record {
      is = rw (← size, ne_eqb _ 0 c.if-size-eq0.false);
      some = omega (arith, c.if-size-eq0.false);
      within = omega (arith, size, record_within c.args.bytes.now);
    }
