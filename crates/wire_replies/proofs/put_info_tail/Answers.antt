-- The six bytes go right behind the address, or to the start where there is none, and an address is at most eight bytes.
use native.Mathlib.Omega.{arith}
use mathlib.Core.List.{[]}
use lib.ListN.{replicate}
use Rattle.ledger.specs.Choice.{pick}
use Rattle.octets.proofs.Writing.{wrote_put, wrote-most, wrote_of}
use Rattle.paper.specs.Base.{mac_size, is_among, told_states}
use Rattle.paper.specs.Replies.{address_of, info_tail}
use Rattle.wire_replies.proofs.put_info_tail.Goals as goal

pub returns : goal.returns
unfolding info_tail
returns c =
    let a = c.args in
    let p = c.put_bound_address-size in
    let address = pick (is_among told_states a.q) (address_of a.mac a.q.sap) [] in
    wrote-most (omega (arith, p.ensures.few))
    (wrote_put address (replicate mac_size 0xff) (omega arith) (wrote_of p.ensures) c.put_bytes.ensures (omega arith))
