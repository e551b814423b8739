-- By the kind of the record, as the definition of the call has it.
use Rattle.table_image.specs.Layout.{table_of}
use Rattle.call_events.proofs.Laws.{not-read}
use Rattle.call_events.proofs.bring.Goals as goal

pub returns-in-CallArrives : goal.returns-in-CallArrives
returns-in-CallArrives c = rw c.in-CallArrives.is c.arrives.ensures

pub returns-in-PeerAccepted : goal.returns-in-PeerAccepted
returns-in-PeerAccepted c = rw c.in-PeerAccepted.is (c.named.ensures _)

pub returns-in-PeerGone : goal.returns-in-PeerGone
returns-in-PeerGone c = rw c.in-PeerGone.is (c.named-in-PeerGone.ensures _)

pub returns-in-CallWithdrawn : goal.returns-in-CallWithdrawn
returns-in-CallWithdrawn c = rw c.in-CallWithdrawn.is (c.named-in-CallWithdrawn.ensures _)

pub returns-in-PeerReset : goal.returns-in-PeerReset
returns-in-PeerReset c = rw c.in-PeerReset.is (c.named-in-PeerReset.ensures _)

pub returns-in-ResetConfirmed : goal.returns-in-ResetConfirmed
returns-in-ResetConfirmed c = rw c.in-ResetConfirmed.is (c.named-in-ResetConfirmed.ensures _)

pub returns-in_default : goal.returns-in_default
returns-in_default c =
    let arm = c.in_default in
    record {
      comes =
          not-read (table_of c.args.table.image.now) c.args.r.now c.args.q arm.not-CallArrives arm.not-PeerAccepted arm.not-PeerGone arm.not-CallWithdrawn
          arm.not-PeerReset arm.not-ResetConfirmed c.requires;
      fits = tt;
    }
