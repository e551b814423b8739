-- The stream settles in the row's next state, with the number that it takes.
use Rattle.paper_effects.proofs.more.Goals as goal

pub returns : goal.returns
returns c = rw (c.settled.ensures, c.next.ensures)
