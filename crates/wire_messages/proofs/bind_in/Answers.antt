-- The fields are read where the paper has them, then the size is tested.
use Rattle.wire_messages.proofs.bind_in.Goals as goal

pub returns : goal.returns
returns c =
    rw (
      c.of_size.ensures,
      c.number_at-5.ensures,
      c.number_at-4.ensures,
      c.number_at-3.ensures,
      c.number_at-2.ensures,
      c.number_at.ensures,
    )
