-- The address length and the three fields are tested in the paper's order, and the values read where the paper has them.
use Rattle.ledger.specs.Choice.{◌⇒◌∣◌}
use Rattle.paper.specs.RecordsIn.{frame_as}
use Rattle.wire_records.proofs.read_frame.Goals as goal

pub returns-then-not-is_address_length : goal.returns-then-not-is_address_length
unfolding frame_as ◌⇒◌∣◌
returns-then-not-is_address_length c = simp (← c.byte_at-n.ensures, ← c.is_address_length.ensures, c.if-not-is_address_length.true)

pub returns-then-has_nonzero_past : goal.returns-then-has_nonzero_past
unfolding frame_as ◌⇒◌∣◌
returns-then-has_nonzero_past c =
    simp (
      ← c.byte_at-n.ensures,
      ← c.is_address_length.ensures,
      c.if-not-is_address_length.false,
      ← c.has_nonzero_past.ensures,
      c.if-has_nonzero_past.true,
    )

pub returns-then-has_nonzero_past-2 : goal.returns-then-has_nonzero_past-2
unfolding frame_as ◌⇒◌∣◌
returns-then-has_nonzero_past-2 c =
    simp (
      ← c.byte_at-n.ensures,
      ← c.is_address_length.ensures,
      c.if-not-is_address_length.false,
      ← c.has_nonzero_past.ensures,
      c.if-has_nonzero_past.false,
      ← c.has_nonzero_past-2.ensures,
      c.if-has_nonzero_past-2.true,
    )

pub returns-then-has_nonzero_past-3 : goal.returns-then-has_nonzero_past-3
unfolding frame_as ◌⇒◌∣◌
returns-then-has_nonzero_past-3 c =
    simp (
      ← c.byte_at-n.ensures,
      ← c.is_address_length.ensures,
      c.if-not-is_address_length.false,
      ← c.has_nonzero_past.ensures,
      c.if-has_nonzero_past.false,
      ← c.has_nonzero_past-2.ensures,
      c.if-has_nonzero_past-2.false,
      ← c.byte_at-bytes.ensures,
      ← c.has_nonzero_past-3.ensures,
      c.if-has_nonzero_past-3.true,
    )

pub returns : goal.returns
unfolding frame_as ◌⇒◌∣◌
returns c =
    simp (
      ← c.byte_at-n.ensures,
      ← c.is_address_length.ensures,
      c.if-not-is_address_length.false,
      ← c.has_nonzero_past.ensures,
      c.if-has_nonzero_past.false,
      ← c.has_nonzero_past-2.ensures,
      c.if-has_nonzero_past-2.false,
      ← c.byte_at-bytes.ensures,
      ← c.has_nonzero_past-3.ensures,
      c.if-has_nonzero_past-3.false,
    ) (rw (c.number_at.ensures, c.sap_at-sap.ensures, c.of_length-form.ensures, c.from.ensures))
