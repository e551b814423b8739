-- Each reply is one message under its letter, whose fields are those that the paper's list has for it.
use Rattle.paper.specs.Replies.{content_of}
use Rattle.wire_replies.proofs.put_up.Goals as goal

pub returns-in-InfoAck : goal.returns-in-InfoAck
returns-in-InfoAck c =
    rw c.in-InfoAck.is c.put_info.ensures

pub returns-in-BindAck : goal.returns-in-BindAck
returns-in-BindAck c =
    rw c.in-BindAck.is c.put_bound.ensures

pub returns-in-ErrorAck : goal.returns-in-ErrorAck
unfolding content_of
returns-in-ErrorAck c =
    rw c.in-ErrorAck.is c.put_message.ensures

pub returns-in-OkAck : goal.returns-in-OkAck
unfolding content_of
returns-in-OkAck c =
    rw c.in-OkAck.is c.put_message-in-OkAck.ensures

pub returns-in-ConnectInd : goal.returns-in-ConnectInd
unfolding content_of
returns-in-ConnectInd c =
    rw c.in-ConnectInd.is c.put_message-in-ConnectInd.ensures

pub returns-in-ConnectCon : goal.returns-in-ConnectCon
unfolding content_of
returns-in-ConnectCon c =
    rw c.in-ConnectCon.is c.put_message-in-ConnectCon.ensures

pub returns-in-TokenAck : goal.returns-in-TokenAck
unfolding content_of
returns-in-TokenAck c =
    rw c.in-TokenAck.is c.put_message-in-TokenAck.ensures

pub returns-in-DisconnectInd : goal.returns-in-DisconnectInd
unfolding content_of
returns-in-DisconnectInd c =
    rw c.in-DisconnectInd.is c.put_message-in-DisconnectInd.ensures

pub returns-in-ResetInd : goal.returns-in-ResetInd
unfolding content_of
returns-in-ResetInd c =
    rw c.in-ResetInd.is c.put_message-in-ResetInd.ensures

pub returns-in-ResetCon : goal.returns-in-ResetCon
unfolding content_of
returns-in-ResetCon c =
    rw c.in-ResetCon.is c.put_message-in-ResetCon.ensures

pub returns-in-UderrorInd : goal.returns-in-UderrorInd
unfolding content_of
returns-in-UderrorInd c =
    rw c.in-UderrorInd.is c.put_message-in-UderrorInd.ensures
