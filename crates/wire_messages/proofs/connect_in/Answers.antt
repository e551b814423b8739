-- The fields are read where the paper has them, the SAP as the last byte of the address, then the size is tested.
use Rattle.wire_messages.proofs.connect_in.Goals as goal

pub returns : goal.returns
returns c =
    rw (
      c.of_size.ensures,
      c.byte_at.ensures,
      c.number_at-2.ensures,
      c.number_at.ensures,
      c.number_at-offset.ensures,
    )
