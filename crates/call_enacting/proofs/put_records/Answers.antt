-- Each piece begins where the one before ended, and together they are the records in their order.
use native.Mathlib.Omega.{arith}
use mathlib.Core.List.{◌++◌}
use Rattle.paper.specs.Base.{slot, mac_at}
use Rattle.paper.specs.RecordsOut.{all_bytes, flush_if}
use Rattle.paper.specs.Effects.{orders_in, ups_in, told}
use Rattle.paper.proofs.RecordsOut.{bytes_in_order}
use Rattle.table_image.specs.Layout.{table_of}
use Rattle.octets.proofs.Writing.{wrote-next, wrote-most, wrote_of}
use Rattle.call_enacting.proofs.put_records.Goals as goal

pub returns : goal.returns
unfolding told
returns c =
    let a = c.args in
    let t = table_of a.table.image.now in
    let orders = c.put_orders-a.ensures in
    let flush = c.put_flush_if.ensures in
    let ups = c.put_replies.ensures in
    let one = all_bytes (orders_in a.i a.c (slot t a.i) a.r.now a.e.order) in
    let two = all_bytes (flush_if a.e.flush a.i) in
    let three = all_bytes (ups_in a.i (mac_at t a.i) a.r.now a.e.up) in
    rw bytes_in_order
    (wrote-most (omega (arith, orders.few, flush.few, ups.few))
    (wrote-next (one ++ two) three (wrote-next one two (orders.each (slot t a.i)) (wrote_of flush)) (wrote_of ups)))
