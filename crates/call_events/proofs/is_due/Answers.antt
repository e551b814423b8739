-- An indication is due below the granted count, a withdrawal while its number is open, any other event always.
use Rattle.call_events.proofs.is_due.Goals as goal

pub returns-in-Arrives : goal.returns-in-Arrives
returns-in-Arrives c = rw (c.in-Arrives.is, c.count_at-count.ensures, c.requires.loaded)

pub returns-in-Withdrawn : goal.returns-in-Withdrawn
returns-in-Withdrawn c = rw c.in-Withdrawn.is c.is_waiting.ensures
