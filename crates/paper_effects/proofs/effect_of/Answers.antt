-- Each service has its own effect, made of the parts that the paper names.
use Rattle.paper.specs.Effects.{effect_of}
use Rattle.paper_effects.proofs.effect_of.Goals as goal

pub returns-in-Inform : goal.returns-in-Inform
unfolding effect_of
returns-in-Inform c = rw (c.in-Inform.is, c.acting.ensures, c.unchanged.ensures)

pub returns-in-TellToken : goal.returns-in-TellToken
unfolding effect_of
returns-in-TellToken c = rw (c.in-TellToken.is, c.acting-in-TellToken.ensures, c.unchanged-in-TellToken.ensures)

pub returns-in-Attach : goal.returns-in-Attach
unfolding effect_of
returns-in-Attach c =
    rw (c.in-Attach.is, c.acting-in-Attach.ensures, c.ok.ensures, c.attached_in.ensures, c.next.ensures)

pub returns-in-Detach : goal.returns-in-Detach
unfolding effect_of
returns-in-Detach c = rw (c.in-Detach.is, c.acting-in-Detach.ensures, c.ok-in-Detach.ensures, c.onward.ensures)

pub returns-in-Bind : goal.returns-in-Bind
unfolding effect_of
returns-in-Bind c =
    rw (c.in-Bind.is, c.acting-in-Bind.ensures, c.bound_in.ensures, c.next-in-Bind.ensures)

pub returns-in-Unbind : goal.returns-in-Unbind
unfolding effect_of
returns-in-Unbind c = rw (c.in-Unbind.is, c.acting-in-Unbind.ensures, c.ok-in-Unbind.ensures, c.onward-in-Unbind.ensures)

pub returns-in-Connect : goal.returns-in-Connect
unfolding effect_of
returns-in-Connect c = rw (c.in-Connect.is, c.acting-in-Connect.ensures, c.onward-in-Connect.ensures)

pub returns-in-Accept : goal.returns-in-Accept
unfolding effect_of
returns-in-Accept c = rw (c.in-Accept.is, c.accepting.ensures)

pub returns-in-Deny : goal.returns-in-Deny
unfolding effect_of
returns-in-Deny c =
    rw (c.in-Deny.is, c.acting-in-Deny.ensures, c.ok-in-Deny.ensures, c.less.ensures)

pub returns-in-Disconnect : goal.returns-in-Disconnect
unfolding effect_of
returns-in-Disconnect c =
    rw (
      c.in-Disconnect.is,
      c.acting-in-Disconnect.ensures,
      c.ok-in-Disconnect.ensures,
      c.is_joined.ensures,
      c.onward-in-Disconnect.ensures,
      c.no_number.ensures,
    )

pub returns-in-Reset : goal.returns-in-Reset
unfolding effect_of
returns-in-Reset c = rw (c.in-Reset.is, c.acting-in-Reset.ensures, c.onward-in-Reset.ensures)

pub returns-in-ResetRes : goal.returns-in-ResetRes
unfolding effect_of
returns-in-ResetRes c = rw (c.in-ResetRes.is, c.acting-in-ResetRes.ensures, c.ok-in-ResetRes.ensures, c.onward-in-ResetRes.ensures)

pub returns-in-Unitdata : goal.returns-in-Unitdata
unfolding effect_of
returns-in-Unitdata c = rw (c.in-Unitdata.is, c.acting-in-Unitdata.ensures, c.unchanged-in-Unitdata.ensures)
