-- Length, letter and stream are tested as the paper has them.
use borrow.Author.Tests.{eq-eqb, ne_eqb, le-leb, lt-leb}
use Rattle.paper.specs.RecordsIn.{has_data}
use Rattle.wire_records.proofs.has_data.Goals as goal

pub returns-then-r-lt-PAIR_SIZE : goal.returns-then-r-lt-PAIR_SIZE
unfolding has_data
returns-then-r-lt-PAIR_SIZE c = simp (lt-leb _ _ c.if-r-lt-PAIR_SIZE.true)

pub returns-then-byte_at-ne77 : goal.returns-then-byte_at-ne77
unfolding has_data
returns-then-byte_at-ne77 c = simp (le-leb _ _ c.if-r-lt-PAIR_SIZE.false, ← c.byte_at.ensures, ne_eqb _ _ c.if-byte_at-ne77.true)

pub returns : goal.returns
unfolding has_data
returns c =
    simp (
      le-leb _ _ c.if-r-lt-PAIR_SIZE.false,
      ← c.byte_at.ensures,
      eq-eqb _ _ c.if-byte_at-ne77.false,
      ← c.byte_at-2.ensures,
      ← c.byte_at-3.ensures,
    )
