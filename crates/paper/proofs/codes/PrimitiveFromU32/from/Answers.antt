-- The codes are tested as the paper's list has them, so what is none of them is another code there too.
use borrow.Author.Tests.{ne_eqb}
use Rattle.ledger.specs.Choice.{◌⇒◌∣◌}
use Rattle.paper.specs.Messages.{primitive_of}
use Rattle.paper.proofs.codes.PrimitiveFromU32.from.Goals as goal

pub returns-in-0 : goal.returns-in-0
unfolding primitive_of ◌⇒◌∣◌
returns-in-0 c = rw c.in-0.is

pub returns-in-11 : goal.returns-in-11
unfolding primitive_of ◌⇒◌∣◌
returns-in-11 c = rw c.in-11.is

pub returns-in-12 : goal.returns-in-12
unfolding primitive_of ◌⇒◌∣◌
returns-in-12 c = rw c.in-12.is

pub returns-in-2 : goal.returns-in-2
unfolding primitive_of ◌⇒◌∣◌
returns-in-2 c = rw c.in-2.is

pub returns-in-1 : goal.returns-in-1
unfolding primitive_of ◌⇒◌∣◌
returns-in-1 c = rw c.in-1.is

pub returns-in-13 : goal.returns-in-13
unfolding primitive_of ◌⇒◌∣◌
returns-in-13 c = rw c.in-13.is

pub returns-in-15 : goal.returns-in-15
unfolding primitive_of ◌⇒◌∣◌
returns-in-15 c = rw c.in-15.is

pub returns-in-17 : goal.returns-in-17
unfolding primitive_of ◌⇒◌∣◌
returns-in-17 c = rw c.in-17.is

pub returns-in-19 : goal.returns-in-19
unfolding primitive_of ◌⇒◌∣◌
returns-in-19 c = rw c.in-19.is

pub returns-in-23 : goal.returns-in-23
unfolding primitive_of ◌⇒◌∣◌
returns-in-23 c = rw c.in-23.is

pub returns-in-25 : goal.returns-in-25
unfolding primitive_of ◌⇒◌∣◌
returns-in-25 c = rw c.in-25.is

pub returns-in-7 : goal.returns-in-7
unfolding primitive_of ◌⇒◌∣◌
returns-in-7 c = rw c.in-7.is

pub returns-in_default : goal.returns-in_default
unfolding primitive_of ◌⇒◌∣◌
returns-in_default c =
    let not_unitdata = c.in_default.in_default-own.rest in
    let not_reset_res = not_unitdata.0 in
    let not_reset = not_reset_res.0 in
    let not_disconnect = not_reset.0 in
    let not_token = not_disconnect.0 in
    let not_connect_res = not_token.0 in
    let not_connect = not_connect_res.0 in
    let not_bind = not_connect.0 in
    let not_unbind = not_bind.0 in
    let not_detach = not_unbind.0 in
    let not_attach = not_detach.0 in
    let not_info = not_attach.0 in
    simp (
      ne_eqb _ 0 not_info.1,
      ne_eqb _ 11 not_attach.1,
      ne_eqb _ 12 not_detach.1,
      ne_eqb _ 2 not_unbind.1,
      ne_eqb _ 1 not_bind.1,
      ne_eqb _ 13 not_connect.1,
      ne_eqb _ 15 not_connect_res.1,
      ne_eqb _ 17 not_token.1,
      ne_eqb _ 19 not_disconnect.1,
      ne_eqb _ 23 not_reset.1,
      ne_eqb _ 25 not_reset_res.1,
      ne_eqb _ 7 not_unitdata.1,
    )
    c.other_code.ensures
