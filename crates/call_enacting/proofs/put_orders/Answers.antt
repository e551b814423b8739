-- No order writes nothing, and one is written as it is named.
use Rattle.std.proofs.Common.{Option}
use native.Mathlib.Omega.{arith}
use Prim.Native.Nat.{◌≤◌}
use mathlib.Core.Path.{refl, subst}
use lib.ListN.{length}
use Rattle.paper.specs.Effects.{orders_in}
use Rattle.paper.specs.Room.{most_told}
use Rattle.call_enacting.proofs.put_orders.Goals as goal
use Rattle.paper.specs.declared.LineOrder.{LineOrder}

pub put_named_order-requires : goal.put_named_order-requires
put_named_order-requires c =
    subst (λ (o : Option LineOrder). most_told o ≤ length c.args.room.now) c.in-Some.is c.requires

pub returns-in-None : goal.returns-in-None
unfolding orders_in
returns-in-None c = rw c.in-None.is (record { few = omega arith; each = λ own. record { ends = refl; stands = refl } })

pub returns-in-Some : goal.returns-in-Some
unfolding orders_in
returns-in-Some c = rw c.in-Some.is c.put_named_order.ensures
