-- Each request is judged by the rules of its step, and those without rules are served.
use Rattle.paper.specs.Sight.{answer_to}
use Rattle.paper.specs.ErrorOrder.{judge_request}
use Rattle.call_answering.proofs.judged_request.Goals as goal

pub returns-in-Info : goal.returns-in-Info
unfolding judge_request answer_to
returns-in-Info c =
    let told = c.in-Info.is in
    λ x. record { verdict = rw (told, c.alone.ensures); carrier = rw (told, c.alone.ensures) }

pub returns-in-Token : goal.returns-in-Token
unfolding judge_request answer_to
returns-in-Token c =
    let told = c.in-Token.is in
    λ x. record { verdict = rw (told, c.alone-in-Token.ensures); carrier = rw (told, c.alone-in-Token.ensures) }

pub returns-in-Attach : goal.returns-in-Attach
unfolding judge_request answer_to
returns-in-Attach c =
    let told = c.in-Attach.is in
    λ x. record {
      verdict = rw (told, c.alone-in-Attach.ensures, c.judge_attach.ensures, c.knows.ensures);
      carrier = rw (told, c.alone-in-Attach.ensures);
    }

pub returns-in-Detach : goal.returns-in-Detach
unfolding judge_request answer_to
returns-in-Detach c =
    let told = c.in-Detach.is in
    λ x. record { verdict = rw (told, c.alone-in-Detach.ensures); carrier = rw (told, c.alone-in-Detach.ensures) }

pub returns-in-Bind : goal.returns-in-Bind
unfolding judge_request answer_to
returns-in-Bind c =
    let told = c.in-Bind.is in
    λ x. record {
      verdict =
          rw (told, c.alone-in-Bind.ensures, c.judge_bind.ensures, c.is_listened_for.ensures, c.requires.loaded);
      carrier = rw (told, c.alone-in-Bind.ensures);
    }

pub returns-in-Unbind : goal.returns-in-Unbind
unfolding judge_request answer_to
returns-in-Unbind c =
    let told = c.in-Unbind.is in
    λ x. record { verdict = rw (told, c.alone-in-Unbind.ensures); carrier = rw (told, c.alone-in-Unbind.ensures) }

pub returns-in-Connect : goal.returns-in-Connect
unfolding judge_request answer_to
returns-in-Connect c =
    let told = c.in-Connect.is in
    λ x. record { verdict = rw (told, c.alone-in-Connect.ensures, c.judge_connect.ensures); carrier = rw (told, c.alone-in-Connect.ensures) }

pub returns-in-ConnectRes : goal.returns-in-ConnectRes
returns-in-ConnectRes c = rw c.in-ConnectRes.is c.judged_accept.ensures

pub returns-in-Disconnect : goal.returns-in-Disconnect
returns-in-Disconnect c = rw c.in-Disconnect.is c.judged_disconnect.ensures

pub returns-in-Reset : goal.returns-in-Reset
unfolding judge_request answer_to
returns-in-Reset c =
    let told = c.in-Reset.is in
    λ x. record { verdict = rw (told, c.alone-in-Reset.ensures); carrier = rw (told, c.alone-in-Reset.ensures) }

pub returns-in-ResetRes : goal.returns-in-ResetRes
unfolding judge_request answer_to
returns-in-ResetRes c =
    let told = c.in-ResetRes.is in
    λ x. record { verdict = rw (told, c.alone-in-ResetRes.ensures); carrier = rw (told, c.alone-in-ResetRes.ensures) }

pub returns-in-Unitdata : goal.returns-in-Unitdata
unfolding judge_request answer_to
returns-in-Unitdata c =
    let told = c.in-Unitdata.is in
    λ x. record {
      verdict = rw (told, c.alone-in-Unitdata.ensures, c.judge_datagram.ensures, c.requires.loaded);
      carrier = rw (told, c.alone-in-Unitdata.ensures);
    }
