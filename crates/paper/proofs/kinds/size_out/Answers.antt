-- The letters are tested as the paper's list has them, each with its size.
use borrow.Author.Tests.{ne_eqb}
use Rattle.ledger.specs.Choice.{◌⇒◌∣◌}
use Rattle.paper.specs.RecordsOut.{size_out}
use Rattle.paper.proofs.kinds.size_out.Goals as goal

pub returns-in-80 : goal.returns-in-80
unfolding size_out ◌⇒◌∣◌
returns-in-80 c = rw c.in-80.is

pub returns-in-67 : goal.returns-in-67
unfolding size_out ◌⇒◌∣◌
returns-in-67 c = rw c.in-67.is

pub returns-in-99 : goal.returns-in-99
unfolding size_out ◌⇒◌∣◌
returns-in-99 c = rw c.in-99.is

pub returns-in-97 : goal.returns-in-97
unfolding size_out ◌⇒◌∣◌
returns-in-97 c = rw c.in-97.is

pub returns-in-100 : goal.returns-in-100
unfolding size_out ◌⇒◌∣◌
returns-in-100 c = rw c.in-100.is

pub returns-in-117 : goal.returns-in-117
unfolding size_out ◌⇒◌∣◌
returns-in-117 c = rw c.in-117.is

pub returns-in-77 : goal.returns-in-77
unfolding size_out ◌⇒◌∣◌
returns-in-77 c = rw c.in-77.is

pub returns-in_default : goal.returns-in_default
unfolding size_out ◌⇒◌∣◌
returns-in_default c =
    let not_M = c.in_default.in_default-own.rest in
    let not_u = not_M.0 in
    let not_d = not_u.0 in
    let not_a = not_d.0 in
    let not_c = not_a.0 in
    let not_C = not_c.0 in
    let not_P = not_C.0 in
    simp (
      ne_eqb _ 80 not_P.1,
      ne_eqb _ 67 not_C.1,
      ne_eqb _ 99 not_c.1,
      ne_eqb _ 97 not_a.1,
      ne_eqb _ 100 not_d.1,
      ne_eqb _ 117 not_u.1,
      ne_eqb _ 77 not_M.1,
    )
