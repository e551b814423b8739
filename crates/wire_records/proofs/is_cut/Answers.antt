-- The size of the kind is compared with what is there, as the paper does.
use Rattle.wire_records.proofs.is_cut.Goals as goal

pub returns : goal.returns
returns c = rw c.size.ensures
