-- An order's own writer wrote it: a letter and a stream, and behind them what it carries.
use native.Mathlib.Omega.{arith}
use Rattle.octets.proofs.Writing.{wrote-most}
use Rattle.wire_replies.proofs.put_order.Goals as goal

pub returns-in-Connect : goal.returns-in-Connect
returns-in-Connect c =
    rw c.in-Connect.is (wrote-most (omega arith) c.put_start.ensures)

pub returns-in-Accept : goal.returns-in-Accept
returns-in-Accept c =
    rw c.in-Accept.is (wrote-most (omega arith) c.put_accept.ensures)

pub returns-in-Disconnect : goal.returns-in-Disconnect
returns-in-Disconnect c =
    rw c.in-Disconnect.is (wrote-most (omega arith) c.put_disconnect.ensures)

pub returns-in-Reset : goal.returns-in-Reset
returns-in-Reset c =
    rw c.in-Reset.is (wrote-most (omega arith) c.put_start-in-Reset.ensures)

pub returns-in-ResetAnswer : goal.returns-in-ResetAnswer
returns-in-ResetAnswer c =
    rw c.in-ResetAnswer.is (wrote-most (omega arith) c.put_start-in-ResetAnswer.ensures)

pub returns-in-Unitdata : goal.returns-in-Unitdata
returns-in-Unitdata c =
    rw c.in-Unitdata.is (wrote-most (omega arith) c.put_unitdata_start.ensures)
