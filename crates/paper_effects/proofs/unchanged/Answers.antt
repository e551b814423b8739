-- A row that leads to its own state changes nothing; any other settles the stream in its next.
use borrow.Author.Tests.{eq-eqb, ne_eqb}
use Rattle.paper_effects.proofs.unchanged.Goals as goal

pub returns-then-x : goal.returns-then-x
returns-then-x c = rw (eq-eqb _ _ c.if-x.true)

pub returns : goal.returns
returns c = rw (c.onward.ensures, ne_eqb _ _ c.if-x.false)
