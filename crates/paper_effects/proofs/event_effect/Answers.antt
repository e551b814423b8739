-- Each event has its own effect, made of the parts that the paper names.
use Rattle.paper.specs.Effects.{event_effect}
use Rattle.paper_effects.proofs.event_effect.Goals as goal

pub returns-in-Arrives : goal.returns-in-Arrives
unfolding event_effect
returns-in-Arrives c = rw (c.in-Arrives.is, c.acting.ensures, c.more.ensures)

pub returns-in-Accepted : goal.returns-in-Accepted
unfolding event_effect
returns-in-Accepted c = rw (c.in-Accepted.is, c.acting-in-Accepted.ensures, c.onward.ensures)

pub returns-in-Gone : goal.returns-in-Gone
unfolding event_effect
returns-in-Gone c =
    rw (
      c.in-Gone.is,
      c.acting-in-Gone.ensures,
      c.onward-in-Gone.ensures,
      c.no_number.ensures,
      c.number-flush.ensures,
    )

pub returns-in-Withdrawn : goal.returns-in-Withdrawn
unfolding event_effect
returns-in-Withdrawn c = rw (c.in-Withdrawn.is, c.acting-in-Withdrawn.ensures, c.less.ensures)

pub returns-in-Resets : goal.returns-in-Resets
unfolding event_effect
returns-in-Resets c = rw (c.in-Resets.is, c.acting-in-Resets.ensures, c.onward-in-Resets.ensures)

pub returns-in-Confirmed : goal.returns-in-Confirmed
unfolding event_effect
returns-in-Confirmed c = rw (c.in-Confirmed.is, c.acting-in-Confirmed.ensures, c.onward-in-Confirmed.ensures)
