-- The field is read where the paper has it, then the size is tested.
use Rattle.wire_messages.proofs.attach_in.Goals as goal

pub returns : goal.returns
returns c = rw (c.of_size.ensures, c.number_at.ensures)
