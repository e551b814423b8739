-- The code names the primitive, and each primitive's fields are read by its own rule.
use Rattle.paper.specs.Messages.{asked_by}
use Rattle.wire_messages.proofs.asked_by.Goals as goal

pub returns-in-Info : goal.returns-in-Info
unfolding asked_by
returns-in-Info c =
    simp (← c.code_in.ensures, ← c.from.ensures, c.in-Info.is) c.of_size.ensures

pub returns-in-Attach : goal.returns-in-Attach
unfolding asked_by
returns-in-Attach c =
    simp (← c.code_in.ensures, ← c.from.ensures, c.in-Attach.is) c.attach_in.ensures

pub returns-in-Detach : goal.returns-in-Detach
unfolding asked_by
returns-in-Detach c =
    simp (← c.code_in.ensures, ← c.from.ensures, c.in-Detach.is) c.of_size-in-Detach.ensures

pub returns-in-Unbind : goal.returns-in-Unbind
unfolding asked_by
returns-in-Unbind c =
    simp (← c.code_in.ensures, ← c.from.ensures, c.in-Unbind.is) c.of_size-in-Unbind.ensures

pub returns-in-Bind : goal.returns-in-Bind
unfolding asked_by
returns-in-Bind c =
    simp (← c.code_in.ensures, ← c.from.ensures, c.in-Bind.is) c.bind_in.ensures

pub returns-in-Connect : goal.returns-in-Connect
unfolding asked_by
returns-in-Connect c =
    simp (← c.code_in.ensures, ← c.from.ensures, c.in-Connect.is) c.connect_in.ensures

pub returns-in-ConnectRes : goal.returns-in-ConnectRes
unfolding asked_by
returns-in-ConnectRes c =
    simp (← c.code_in.ensures, ← c.from.ensures, c.in-ConnectRes.is) c.connect_res_in.ensures

pub returns-in-Token : goal.returns-in-Token
unfolding asked_by
returns-in-Token c =
    simp (← c.code_in.ensures, ← c.from.ensures, c.in-Token.is) c.of_size-in-Token.ensures

pub returns-in-Disconnect : goal.returns-in-Disconnect
unfolding asked_by
returns-in-Disconnect c =
    simp (← c.code_in.ensures, ← c.from.ensures, c.in-Disconnect.is) c.disconnect_in.ensures

pub returns-in-Reset : goal.returns-in-Reset
unfolding asked_by
returns-in-Reset c =
    simp (← c.code_in.ensures, ← c.from.ensures, c.in-Reset.is) c.of_size-in-Reset.ensures

pub returns-in-ResetRes : goal.returns-in-ResetRes
unfolding asked_by
returns-in-ResetRes c =
    simp (← c.code_in.ensures, ← c.from.ensures, c.in-ResetRes.is) c.of_size-in-ResetRes.ensures

pub returns-in-Unitdata : goal.returns-in-Unitdata
unfolding asked_by
returns-in-Unitdata c =
    simp (← c.code_in.ensures, ← c.from.ensures, c.in-Unitdata.is) c.unitdata_in.ensures

pub returns-in-NotSupported : goal.returns-in-NotSupported
unfolding asked_by
returns-in-NotSupported c = simp (← c.code_in.ensures, ← c.from.ensures, c.in-NotSupported.is)

pub returns-in-NotServed : goal.returns-in-NotServed
unfolding asked_by
returns-in-NotServed c = simp (← c.code_in.ensures, ← c.from.ensures, c.in-NotServed.is)
