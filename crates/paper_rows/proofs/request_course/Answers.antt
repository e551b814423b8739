-- With the request known, the list comes down to the rows of its code, and the state to one of them.
use Rattle.ledger.proofs.Tallies.{both_none, differs}
use Rattle.paper_rows.proofs.request_course.Goals as goal

pub returns-then-mode-eq1 : goal.returns-then-mode-eq1
returns-then-mode-eq1 c = simp (both_none, c.in-Unbind.is, c.if-mode-eq1.true)

pub returns-in-Info : goal.returns-in-Info
returns-in-Info c = rw c.in-Info.is (c.stays.ensures _)

pub returns-in-Token : goal.returns-in-Token
returns-in-Token c = rw c.in-Token.is (c.stays-in-Token.ensures _)

pub returns-in-Attach : goal.returns-in-Attach
returns-in-Attach c = simp c.in-Attach.is

pub returns-in-Detach : goal.returns-in-Detach
returns-in-Detach c = simp c.in-Detach.is

pub returns-in-Bind : goal.returns-in-Bind
returns-in-Bind c = simp c.in-Bind.is

pub returns-else-mode-eq1 : goal.returns-else-mode-eq1
returns-else-mode-eq1 c = simp (both_none, c.in-Unbind.is, differs 1 _ c.if-mode-eq1.false)

pub returns-in-Connect : goal.returns-in-Connect
returns-in-Connect c = simp c.in-Connect.is

pub returns-in-ConnectRes : goal.returns-in-ConnectRes
returns-in-ConnectRes c = simp c.in-ConnectRes.is

pub returns-in-8 : goal.returns-in-8
returns-in-8 c = simp (c.in-Disconnect.is, c.in-8.is)

pub returns-in-9 : goal.returns-in-9
returns-in-9 c = simp (c.in-Disconnect.is, c.in-9.is)

pub returns-in-11 : goal.returns-in-11
returns-in-11 c = simp (c.in-Disconnect.is, c.in-11.is)

pub returns-in-12 : goal.returns-in-12
returns-in-12 c = simp (c.in-Disconnect.is, c.in-12.is)

pub returns-in_default : goal.returns-in_default
returns-in_default c =
    simp (
      c.in-Disconnect.is,
      differs 8 _ c.in_default.in_default-own.rest.0.0.0.1,
      differs 9 _ c.in_default.in_default-own.rest.0.0.1,
      differs 11 _ c.in_default.in_default-own.rest.0.1,
      differs 12 _ c.in_default.in_default-own.rest.1,
    )

pub returns-in-Reset : goal.returns-in-Reset
returns-in-Reset c = simp c.in-Reset.is

pub returns-in-ResetRes : goal.returns-in-ResetRes
returns-in-ResetRes c = simp c.in-ResetRes.is

pub returns-in-Unitdata : goal.returns-in-Unitdata
returns-in-Unitdata c = simp c.in-Unitdata.is
