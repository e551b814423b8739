-- The letters are tested as the paper's list has them, so what is none of them is unknown there too.
use borrow.Author.Tests.{ne_eqb}
use Rattle.ledger.specs.Choice.{◌⇒◌∣◌}
use Rattle.paper.specs.RecordsIn.{kind_of}
use Rattle.paper.proofs.kinds.KindFromU8.from.Goals as goal

pub returns-in-71 : goal.returns-in-71
unfolding kind_of ◌⇒◌∣◌
returns-in-71 c = rw c.in-71.is

pub returns-in-79 : goal.returns-in-79
unfolding kind_of ◌⇒◌∣◌
returns-in-79 c = rw c.in-79.is

pub returns-in-88 : goal.returns-in-88
unfolding kind_of ◌⇒◌∣◌
returns-in-88 c = rw c.in-88.is

pub returns-in-80 : goal.returns-in-80
unfolding kind_of ◌⇒◌∣◌
returns-in-80 c = rw c.in-80.is

pub returns-in-67 : goal.returns-in-67
unfolding kind_of ◌⇒◌∣◌
returns-in-67 c = rw c.in-67.is

pub returns-in-73 : goal.returns-in-73
unfolding kind_of ◌⇒◌∣◌
returns-in-73 c = rw c.in-73.is

pub returns-in-65 : goal.returns-in-65
unfolding kind_of ◌⇒◌∣◌
returns-in-65 c = rw c.in-65.is

pub returns-in-68 : goal.returns-in-68
unfolding kind_of ◌⇒◌∣◌
returns-in-68 c = rw c.in-68.is

pub returns-in-87 : goal.returns-in-87
unfolding kind_of ◌⇒◌∣◌
returns-in-87 c = rw c.in-87.is

pub returns-in-82 : goal.returns-in-82
unfolding kind_of ◌⇒◌∣◌
returns-in-82 c = rw c.in-82.is

pub returns-in-83 : goal.returns-in-83
unfolding kind_of ◌⇒◌∣◌
returns-in-83 c = rw c.in-83.is

pub returns-in-77 : goal.returns-in-77
unfolding kind_of ◌⇒◌∣◌
returns-in-77 c = rw c.in-77.is

pub returns-in-102 : goal.returns-in-102
unfolding kind_of ◌⇒◌∣◌
returns-in-102 c = rw c.in-102.is

pub returns-in_default : goal.returns-in_default
unfolding kind_of ◌⇒◌∣◌
returns-in_default c =
    let not_f = c.in_default.in_default-own.rest in
    let not_M = not_f.0 in
    let not_S = not_M.0 in
    let not_R = not_S.0 in
    let not_W = not_R.0 in
    let not_D = not_W.0 in
    let not_A = not_D.0 in
    let not_I = not_A.0 in
    let not_C = not_I.0 in
    let not_P = not_C.0 in
    let not_X = not_P.0 in
    let not_O = not_X.0 in
    let not_G = not_O.0 in
    simp (
      ne_eqb _ 71 not_G.1,
      ne_eqb _ 79 not_O.1,
      ne_eqb _ 88 not_X.1,
      ne_eqb _ 80 not_P.1,
      ne_eqb _ 67 not_C.1,
      ne_eqb _ 73 not_I.1,
      ne_eqb _ 65 not_A.1,
      ne_eqb _ 68 not_D.1,
      ne_eqb _ 87 not_W.1,
      ne_eqb _ 82 not_R.1,
      ne_eqb _ 83 not_S.1,
      ne_eqb _ 77 not_M.1,
      ne_eqb _ 102 not_f.1,
    )
