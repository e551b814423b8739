-- The padding decides, then whether an M belongs to it, each by the paper's own test.
use Rattle.ledger.specs.Choice.{◌⇒◌∣◌}
use Rattle.paper.specs.RecordsIn.{message_as}
use Rattle.wire_records.proofs.read_message.Goals as goal

pub returns-then-has_nonzero_past : goal.returns-then-has_nonzero_past
unfolding message_as ◌⇒◌∣◌
returns-then-has_nonzero_past c = simp (← c.byte_at-l.ensures, ← c.has_nonzero_past.ensures, c.if-has_nonzero_past.true)

pub returns-then-wants_data : goal.returns-then-wants_data
unfolding message_as ◌⇒◌∣◌
returns-then-wants_data c =
    simp (
      ← c.byte_at-l.ensures,
      ← c.has_nonzero_past.ensures,
      c.if-has_nonzero_past.false,
      ← c.wants_data.ensures,
      c.if-wants_data.true,
    ) c.read_pair.ensures

pub returns : goal.returns
unfolding message_as ◌⇒◌∣◌
returns c =
    simp (
      ← c.byte_at-l.ensures,
      ← c.has_nonzero_past.ensures,
      c.if-has_nonzero_past.false,
      ← c.wants_data.ensures,
      c.if-wants_data.false,
      c.byte_at.ensures,
    )
