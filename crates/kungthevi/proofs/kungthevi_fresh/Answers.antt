-- Bytes of an image's length are made the fresh table, and others are left as they stood.
use mathlib.Core.Path.{ap}
use borrow.Author.Tests.{eq-eqb, ne_eqb}
use Rattle.ledger.specs.Choice.{◌⇒◌∣◌}
use Rattle.call_outcomes.specs.Fresh.{made, fresh_of}
use Rattle.kungthevi.proofs.kungthevi_fresh.Goals as goal

pub returns-then-table-ne-IMAGE_SIZE : goal.returns-then-table-ne-IMAGE_SIZE
unfolding fresh_of ◌⇒◌∣◌
returns-then-table-ne-IMAGE_SIZE c = rw (ne_eqb _ _ c.if-table-ne-IMAGE_SIZE.true, c.from.ensures, c.number.ensures)

pub returns : goal.returns
unfolding fresh_of ◌⇒◌∣◌
returns c = rw (eq-eqb _ _ c.if-table-ne-IMAGE_SIZE.false) (ap (made 0) c.make_fresh.ensures)
