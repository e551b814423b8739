-- The two lengths are those of the paper's test.
use borrow.Author.Tests.{eq-eqb, ne_eqb}
use Rattle.wire_records.proofs.is_address_length.Goals as goal

pub returns-then-l-eq-ADDRESS_SIZE : goal.returns-then-l-eq-ADDRESS_SIZE
returns-then-l-eq-ADDRESS_SIZE c = rw (eq-eqb _ _ c.if-l-eq-ADDRESS_SIZE.true)

pub returns-else-l-eq-ADDRESS_SIZE : goal.returns-else-l-eq-ADDRESS_SIZE
returns-else-l-eq-ADDRESS_SIZE c = rw (ne_eqb _ _ c.if-l-eq-ADDRESS_SIZE.false)
