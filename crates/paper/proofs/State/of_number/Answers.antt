-- The numbers are tested as the paper's list has them, so what is none of them is state 0 there too.
use borrow.Author.Tests.{ne_eqb}
use Rattle.ledger.specs.Choice.{◌⇒◌∣◌}
use Rattle.paper.specs.Base.{state_of}
use Rattle.paper.proofs.State.of_number.Goals as goal

pub returns-in-3 : goal.returns-in-3
unfolding state_of ◌⇒◌∣◌
returns-in-3 c = rw c.in-3.is

pub returns-in-6 : goal.returns-in-6
unfolding state_of ◌⇒◌∣◌
returns-in-6 c = rw c.in-6.is

pub returns-in-8 : goal.returns-in-8
unfolding state_of ◌⇒◌∣◌
returns-in-8 c = rw c.in-8.is

pub returns-in-9 : goal.returns-in-9
unfolding state_of ◌⇒◌∣◌
returns-in-9 c = rw c.in-9.is

pub returns-in-11 : goal.returns-in-11
unfolding state_of ◌⇒◌∣◌
returns-in-11 c = rw c.in-11.is

pub returns-in-12 : goal.returns-in-12
unfolding state_of ◌⇒◌∣◌
returns-in-12 c = rw c.in-12.is

pub returns-in-13 : goal.returns-in-13
unfolding state_of ◌⇒◌∣◌
returns-in-13 c = rw c.in-13.is

pub returns-in_default : goal.returns-in_default
unfolding state_of ◌⇒◌∣◌
returns-in_default c =
    let not_13 = c.in_default.in_default-own.rest in
    let not_12 = not_13.0 in
    let not_11 = not_12.0 in
    let not_9 = not_11.0 in
    let not_8 = not_9.0 in
    let not_6 = not_8.0 in
    let not_3 = not_6.0 in
    simp (
      ne_eqb _ 3 not_3.1,
      ne_eqb _ 6 not_6.1,
      ne_eqb _ 8 not_8.1,
      ne_eqb _ 9 not_9.1,
      ne_eqb _ 11 not_11.1,
      ne_eqb _ 12 not_12.1,
      ne_eqb _ 13 not_13.1,
    )
