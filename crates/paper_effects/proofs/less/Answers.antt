-- The stream settles in the row's next state; the state for the last number goes along.
use Rattle.paper_effects.proofs.less.Goals as goal

pub returns : goal.returns
returns c = rw (c.of_number.ensures, c.settled.ensures, c.next.ensures)
