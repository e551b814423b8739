-- The one test of the code is that of the definition.
use borrow.Author.Tests.{eq-eqb, ne_eqb}
use Rattle.ledger.specs.Choice.{◌⇒◌∣◌}
use Rattle.fates_book.specs.Lines.{end_line}
use Rattle.fates_book.proofs.end_line.Goals as goal

pub returns-then-n-eq0 : goal.returns-then-n-eq0
unfolding end_line ◌⇒◌∣◌
returns-then-n-eq0 c = simp (eq-eqb _ _ c.if-n-eq0.true)

pub returns : goal.returns
unfolding end_line ◌⇒◌∣◌
returns c = simp (ne_eqb _ _ c.if-n-eq0.false)
