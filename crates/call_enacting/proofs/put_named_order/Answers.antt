-- A connect has its address behind it, a datagram its address and its M, and no other order has any.
use Prim.Native.Nat.{ℕ, ◌≤◌}
use native.Mathlib.Omega.{arith}
use mathlib.Core.Path.{◌≡◌, ap, subst, ◌∙◌}
use mathlib.Core.List.{[]}
use lib.ListN.{length}
use Rattle.octets.specs.Runs.{part}
use Rattle.octets.proofs.Runs.{part-most}
use Rattle.octets.proofs.Writing.{wrote_of, wrote-same}
use Rattle.paper.specs.Base.{address_size}
use Rattle.paper.specs.RecordsIn.{block_in}
use Rattle.paper.specs.RecordsOut.{order}
use Rattle.paper.specs.Effects.{named_by, orders_in}
use Rattle.paper.specs.Room.{most_of_order}
use Rattle.paper.specs.declared.LineOrder.{LineOrder}
use Rattle.paper.specs.declared.LineOrder.TheVariants as line_order
use Rattle.paper.proofs.RecordsOut.{one_wrote}
use Rattle.call_enacting.specs.Concluding.{datagram_bytes}
use Rattle.call_enacting.proofs.Laws.{bare_most, bare_orders_lem}
use Rattle.call_enacting.proofs.put_named_order.Goals as goal

pub put_connect-requires : goal.put_connect-requires
put_connect-requires c =
    let roomy = subst (λ (o : LineOrder). most_of_order o ≤ length c.args.room.now) c.in-Connect.is c.requires in
    record {
      short = rw c.address_at.ensures (part-most c.block_in.result.now c.in-Connect.at address_size);
      roomy = omega (arith, roomy);
    }

pub put_datagram-requires : goal.put_datagram-requires
put_datagram-requires c =
    subst (λ (o : LineOrder). most_of_order o ≤ length c.args.room.now) c.in-Unitdata.is c.requires

pub put_order-requires : goal.put_order-requires
put_order-requires c =
    subst (λ (n : ℕ). n ≤ length c.args.room.now) (bare_most c.args.o c.in_default.not-Connect c.in_default.not-Unitdata) c.requires

pub returns-in-Connect : goal.returns-in-Connect
unfolding orders_in
returns-in-Connect c =
    let a = c.args in
    let s = c.named_by-s in
    let told = c.in-Connect.is in
    let at = c.in-Connect.at in
    let called = c.address_at in
    let written = order s.result (line_order.Connect at) called.result.now in
    let due = order a.i (line_order.Connect at) (part (block_in a.r.now) at address_size) in
    let w = c.put_connect.ensures in
    record {
      few = rw told (omega (arith, w.few));
      each = λ own. rw told (wrote_of (one_wrote written due (rw (s.ensures, told, called.ensures, c.block_in.ensures)) w));
    }

pub returns-in-Unitdata : goal.returns-in-Unitdata
unfolding orders_in
returns-in-Unitdata c =
    let a = c.args in
    let s = c.named_by-s in
    let told = c.in-Unitdata.is in
    let named : s.result ≡ a.i = s.ensures ∙ ap (named_by a.i a.c) told in
    let w = c.put_datagram.ensures in
    record {
      few = rw told w.few;
      each = λ own. rw told (wrote_of (wrote-same (ap (λ (k : ℕ). datagram_bytes k c.in-Unitdata.at c.in-Unitdata.form a.r.now) named) w));
    }

pub returns-in_default : goal.returns-in_default
returns-in_default c =
    let a = c.args in
    let s = c.named_by-s in
    let w = c.put_order.ensures in
    let arm = c.in_default in
    record {
      few = rw (bare_most a.o arm.not-Connect arm.not-Unitdata) w.few;
      each = λ own.
          wrote_of (wrote-same (bare_orders_lem a.i a.c own a.r.now a.o arm.not-Connect arm.not-Unitdata)
          (one_wrote (order s.result a.o []) (order (named_by a.i a.c a.o) a.o []) (rw s.ensures) w));
    }
