-- Each of the two messages has its part of the record, and the others keep the stream's own.
use Rattle.call_enacting.specs.Behind.{behind_by}
use Rattle.call_enacting.proofs.Laws.{not_event}
use Rattle.call_enacting.proofs.behind.Goals as goal

pub returns-in-ConnectInd : goal.returns-in-ConnectInd
unfolding behind_by
returns-in-ConnectInd c = rw c.in-ConnectInd.is c.part_at.ensures

pub returns-in-ConnectCon : goal.returns-in-ConnectCon
unfolding behind_by
returns-in-ConnectCon c = rw c.in-ConnectCon.is c.part_at-in-ConnectCon.ensures

pub returns-in_default : goal.returns-in_default
returns-in_default c =
    let a = c.args in
    not_event a.own.now a.r.now a.reply c.in_default.not-ConnectInd c.in_default.not-ConnectCon
