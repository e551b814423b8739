-- The count of the free streams tells whether there is a lowest one.
use native.Mathlib.Omega.{arith}
use mathlib.Core.Path.{refl}
use borrow.Author.Tests.{lt-ltb, le-ltb}
use Rattle.ledger.specs.Choice.{◌⇒◌∣◌}
use Rattle.paper.specs.Base.{just_opened, lowest_free, with_slot, remembering, stream_total}
use Rattle.paper.specs.Openings.{opens}
use Rattle.table_image.specs.Layout.{table_of}
use Rattle.call_outcomes.specs.Leaving.{leaving}
use Rattle.call_openings.proofs.Laws.{none_free, some-free, free-shut, leaves_opening}
use Prim.Native.Nat.{◌<◌}
use Rattle.call_openings.proofs.open_stream.Goals as goal

pub returns-then-free_total-eq0 : goal.returns-then-free_total-eq0
unfolding opens leaving ◌⇒◌∣◌
returns-then-free_total-eq0 c =
    let f = c.free_total in
    let t = table_of c.args.img.now in
    λ room. simp (le-ltb (lowest_free t) stream_total (none_free t c.requires.lent.shaped f.result f.ensures c.if-free_total-eq0.true))

pub open_slot-requires : goal.open_slot-requires
open_slot-requires c =
    let n = c.lowest_free-i in
    let f = c.free_total in
    let t = table_of c.args.img.now in
    let low = some-free t c.requires.lent.shaped f.result f.ensures c.if-free_total-eq0.false in
    let within : n.result < stream_total = omega (arith, n.ensures, low) in
    record {
      at = record { within = within; lent = c.requires.lent };
      shut = c.requires.shut n.result (free-shut t c.requires.lent.shaped n.result n.ensures within);
    }

pub overflow_cast-result : goal.overflow_cast-result
overflow_cast-result c =
    let n = c.lowest_free-i in
    let f = c.free_total in
    omega (arith, n.ensures, some-free (table_of c.args.img.now) c.requires.lent.shaped f.result f.ensures c.if-free_total-eq0.false)

pub overflow_add-result : goal.overflow_add-result
overflow_add-result c =
    let n = c.lowest_free-i in
    let f = c.free_total in
    omega (arith, n.ensures, some-free (table_of c.args.img.now) c.requires.lent.shaped f.result f.ensures c.if-free_total-eq0.false)

pub returns : goal.returns
unfolding opens ◌⇒◌∣◌
returns c =
    let n = c.lowest_free-i in
    let f = c.free_total in
    let t = table_of c.args.img.now in
    let low = some-free t c.requires.lent.shaped f.result f.ensures c.if-free_total-eq0.false in
    λ room. rw (lt-ltb (lowest_free t) stream_total low, ← n.ensures)
    (leaves_opening c.args.img.now room (with_slot (remembering t) n.result just_opened) n.result _ _ refl c.open_slot.ensures)
