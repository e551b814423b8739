-- The stream settles in the row's next state.
use Rattle.paper_effects.proofs.onward.Goals as goal

pub returns : goal.returns
returns c = rw (c.settled.ensures, c.next.ensures)
