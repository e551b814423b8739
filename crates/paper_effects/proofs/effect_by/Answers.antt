-- A verdict that a rule fails has the effect of its error; one that serves, that of its service.
use Rattle.paper.specs.Decide.{effect_by}
use Rattle.paper_effects.proofs.effect_by.Goals as goal

pub returns-in-Err : goal.returns-in-Err
unfolding effect_by
returns-in-Err c = rw (c.in-Err.is, c.error_effect.ensures)

pub returns-in-Ok : goal.returns-in-Ok
unfolding effect_by
returns-in-Ok c = rw (c.in-Ok.is, c.effect_of.ensures)
