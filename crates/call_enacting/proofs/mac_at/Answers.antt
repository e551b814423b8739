-- The PPA that the stream is attached to has the MAC.
use Rattle.call_enacting.proofs.mac_at.Goals as goal

pub returns : goal.returns
returns c = rw (c.mac_of.ensures, c.attached_at-p.ensures)
