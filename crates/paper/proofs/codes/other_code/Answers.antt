-- The codes that are tested are the seven of step 1, and what is none of them is in their list at no place.
use borrow.Author.Tests.{ne_eqb}
use Rattle.ledger.specs.Choice.{◌⇒◌∣◌}
use Rattle.paper.specs.Messages.{other_code}
use Rattle.paper.proofs.codes.other_code.Goals as goal

pub returns-in-10 : goal.returns-in-10
unfolding other_code ◌⇒◌∣◌
returns-in-10 c = rw c.in-10.is

pub returns-in-21 : goal.returns-in-21
unfolding other_code ◌⇒◌∣◌
returns-in-21 c = rw c.in-21.is

pub returns-in-27 : goal.returns-in-27
unfolding other_code ◌⇒◌∣◌
returns-in-27 c = rw c.in-27.is

pub returns-in-29 : goal.returns-in-29
unfolding other_code ◌⇒◌∣◌
returns-in-29 c = rw c.in-29.is

pub returns-in-30 : goal.returns-in-30
unfolding other_code ◌⇒◌∣◌
returns-in-30 c = rw c.in-30.is

pub returns-in-31 : goal.returns-in-31
unfolding other_code ◌⇒◌∣◌
returns-in-31 c = rw c.in-31.is

pub returns-in-32 : goal.returns-in-32
unfolding other_code ◌⇒◌∣◌
returns-in-32 c = rw c.in-32.is

pub returns-in_default : goal.returns-in_default
unfolding other_code ◌⇒◌∣◌
returns-in_default c =
    let not_20 = c.in_default.in_default-own.rest in
    let not_1f = not_20.0 in
    let not_1e = not_1f.0 in
    let not_1d = not_1e.0 in
    let not_1b = not_1d.0 in
    let not_15 = not_1b.0 in
    let not_0a = not_15.0 in
    simp (
      ne_eqb _ 10 not_0a.1,
      ne_eqb _ 21 not_15.1,
      ne_eqb _ 27 not_1b.1,
      ne_eqb _ 29 not_1d.1,
      ne_eqb _ 30 not_1e.1,
      ne_eqb _ 31 not_1f.1,
      ne_eqb _ 32 not_20.1,
    )
