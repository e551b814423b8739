-- The code and L are tested as the paper has them, and another code is enough for no.
use borrow.Author.Tests.{eq-eqb, ne_eqb, le-leb, lt-leb}
use Rattle.ledger.proofs.Tallies.{both_none, both_true}
use Rattle.paper.specs.RecordsIn.{wants_data}
use Rattle.wire_records.proofs.wants_data.Goals as goal

pub returns-then-number_inside-ne7 : goal.returns-then-number_inside-ne7
unfolding wants_data
returns-then-number_inside-ne7 c = simp (← c.number_inside.ensures, ne_eqb _ _ c.if-number_inside-ne7.true, both_none)

pub returns-then-l-ge4 : goal.returns-then-l-ge4
unfolding wants_data
returns-then-l-ge4 c =
    simp (← c.number_inside.ensures, eq-eqb _ _ c.if-number_inside-ne7.false, ← c.byte_at-l.ensures, le-leb _ _ c.if-l-ge4.true, both_true)

pub returns-else-l-ge4 : goal.returns-else-l-ge4
unfolding wants_data
returns-else-l-ge4 c =
    simp (← c.number_inside.ensures, eq-eqb _ _ c.if-number_inside-ne7.false, ← c.byte_at-l.ensures, lt-leb _ _ c.if-l-ge4.false)
