-- A flush is a letter and a stream and no more; where none is due, no byte is written.
use native.Mathlib.Omega.{arith}
use mathlib.Core.Path.{refl}
use Rattle.octets.proofs.Writing.{wrote-most}
use Rattle.wire_replies.proofs.put_flush_if.Goals as goal

pub returns-then-on : goal.returns-then-on
returns-then-on c =
    rw c.if-on.true (wrote-most (omega arith) c.put_start.ensures)

pub returns : goal.returns
returns c = rw c.if-on.false (record { few = omega arith; ends = refl; stands = refl })
