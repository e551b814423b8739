-- The message up is the rule's, and the effect has nothing else in it.
use Rattle.paper_effects.proofs.error_effect.Goals as goal

pub returns : goal.returns
returns c = rw (c.acting.ensures, c.complaint.ensures)
