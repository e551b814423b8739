-- Each part of the effect of an accept is made by the function that has its name in the paper.
use Rattle.paper_effects.proofs.accepting.Goals as goal

pub returns : goal.returns
returns c = rw (c.ok.ensures, c.less.ensures)
