-- Each kind's values are read where the paper has them; a whole message, and a whole frame, is long enough for the tests of its padding.
use Rattle.wire_records.proofs.input_as.Goals as goal

pub read_message-requires : goal.read_message-requires
read_message-requires c = rw c.in-Message.is at c.requires

pub read_frame-requires : goal.read_frame-requires
read_frame-requires c = rw c.in-Frame.is at c.requires

pub returns-in-AddPpa : goal.returns-in-AddPpa
returns-in-AddPpa c = rw (c.in-AddPpa.is, c.number_at.ensures)

pub returns-in-Close : goal.returns-in-Close
returns-in-Close c = rw (c.in-Close.is, c.byte_at-stream.ensures)

pub returns-in-Message : goal.returns-in-Message
returns-in-Message c = rw c.in-Message.is c.read_message.ensures

pub returns-in-CallArrives : goal.returns-in-CallArrives
returns-in-CallArrives c = rw (c.in-CallArrives.is, c.byte_at.ensures, c.number_at-in-CallArrives.ensures)

pub returns-in-PeerAccepted : goal.returns-in-PeerAccepted
returns-in-PeerAccepted c = rw (c.in-PeerAccepted.is, c.byte_at-stream.ensures)

pub returns-in-PeerGone : goal.returns-in-PeerGone
returns-in-PeerGone c = rw (c.in-PeerGone.is, c.number_at-in-PeerGone.ensures, c.byte_at-stream.ensures)

pub returns-in-CallWithdrawn : goal.returns-in-CallWithdrawn
returns-in-CallWithdrawn c =
    rw (c.in-CallWithdrawn.is, c.number_at-in-CallWithdrawn-2.ensures, c.number_at-in-CallWithdrawn.ensures, c.byte_at-stream.ensures)

pub returns-in-PeerReset : goal.returns-in-PeerReset
returns-in-PeerReset c = rw (c.in-PeerReset.is, c.number_at-in-PeerReset.ensures, c.byte_at-stream.ensures)

pub returns-in-ResetConfirmed : goal.returns-in-ResetConfirmed
returns-in-ResetConfirmed c = rw (c.in-ResetConfirmed.is, c.byte_at-stream.ensures)

pub returns-in-Frame : goal.returns-in-Frame
returns-in-Frame c = rw c.in-Frame.is c.read_frame.ensures
