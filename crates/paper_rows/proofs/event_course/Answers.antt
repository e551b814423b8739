-- With the event known, the list comes down to the rows of its letter, and the state to one of them.
use Rattle.ledger.proofs.Tallies.{differs}
use Rattle.paper_rows.proofs.event_course.Goals as goal

pub returns-in-6 : goal.returns-in-6
returns-in-6 c = λ m. simp (c.in-Arrives.is, c.in-6.is)

pub returns-in_default : goal.returns-in_default
returns-in_default c = λ m. simp (c.in-Arrives.is, differs 6 _ c.in_default.in_default-own.rest.1)

pub returns-in-Accepted : goal.returns-in-Accepted
returns-in-Accepted c = λ m. simp c.in-Accepted.is

pub returns-in-8 : goal.returns-in-8
returns-in-8 c = λ m. simp (c.in-Gone.is, c.in-8.is)

pub returns-in-11 : goal.returns-in-11
returns-in-11 c = λ m. simp (c.in-Gone.is, c.in-11.is)

pub returns-in-12 : goal.returns-in-12
returns-in-12 c = λ m. simp (c.in-Gone.is, c.in-12.is)

pub returns-in_default-state : goal.returns-in_default-state
returns-in_default-state c = λ m. simp (c.in-Gone.is, differs 8 _ c.in_default-state.in_default-state-own.rest.0.0.1, differs 11 _ c.in_default-state.in_default-state-own.rest.0.1, differs 12 _ c.in_default-state.in_default-state-own.rest.1)

pub returns-in-Withdrawn : goal.returns-in-Withdrawn
returns-in-Withdrawn c = λ m. simp c.in-Withdrawn.is

pub returns-in-Resets : goal.returns-in-Resets
returns-in-Resets c = λ m. simp c.in-Resets.is

pub returns-in-Confirmed : goal.returns-in-Confirmed
returns-in-Confirmed c = λ m. simp c.in-Confirmed.is
