-- After k turns the goodbyes of the k oldest stand at the room's start.
use Prim.Native.Nat.{ℕ, ◌*◌}
use native.Mathlib.Omega.{arith}
use mathlib.Core.Path.{◌≡◌, refl, ap, ◌∙◌}
use mathlib.Core.List.{List, [], map}
use lib.ListN.{length, take}
use lib.Seq.{take_all, length-take-le}
use borrow.Author.Rules.{rules}
use Rattle.octets.specs.Runs.{over}
use Rattle.octets.proofs.Runs.{over-next}
use Rattle.paper.specs.Base.{waiting}
use Rattle.paper.specs.RecordsOut.{order, bytes_of, all_bytes, disconnect_size}
use Rattle.paper.specs.Openings.{goodbye}
use Rattle.paper.specs.declared.LineOrder.TheVariants as line_order
use Rattle.paper.proofs.RecordsOut.{goodbyes-long}
use Rattle.table_image.specs.Layout.{table_of}
use Rattle.call_openings.proofs.Laws.{goodbyes-next}
use Rattle.octets.proofs.Writing.{wrote-most, wrote_of, wrote-over, over-wrote}
use Rattle.call_openings.proofs.put_drops.Goals as goal

pub loop-k-init : goal.loop-k-init
loop-k-init c =
    (omega (arith, c.count_at-count.ensures, c.args.table.lent.shaped.eight c.args.i), refl, refl)

pub loop-k-preserved : goal.loop-k-preserved
loop-k-preserved c =
    let call = c.number_at-c in
    let a = c.args in
    let count = c.count_at-count in
    let w : List ℕ = waiting (table_of a.table.image.now) a.i in
    let old : List ℕ = all_bytes (map (goodbye a.i) (take c.loop-k.k w)) in
    let size : length old ≡ c.loop-k.k * disconnect_size =
    omega (arith, goodbyes-long a.i (take c.loop-k.k w), length-take-le c.loop-k.k w (omega (arith, count.ensures))) in (
      c.loop-k.invariant.0,
      search rules,
      over-next old (bytes_of (order a.i (line_order.Disconnect call.result 0) [])) a.room.now (c.loop-k.k * disconnect_size) c.loop-k.invariant.2 size
          (wrote-over _ (wrote_of c.put_order.ensures))
          ∙ ap (λ (b : List ℕ). over b a.room.now) (goodbyes-next a.i c.loop-k.k w call.result (omega (arith, count.ensures)) call.ensures),
    )

pub returns : goal.returns
returns c =
    let a = c.args in
    let count = c.count_at-count in
    let w : List ℕ = waiting (table_of a.table.image.now) a.i in
    let bytes : List ℕ → List ℕ = λ v. all_bytes (map (goodbye a.i) v) in
    let all = take_all c.loop-k.k w (omega (arith, count.ensures)) in
    wrote-most (omega arith)
    (over-wrote (bytes w) (omega (arith, goodbyes-long a.i w, count.ensures)) (c.loop-k.invariant.2 ∙ ap (λ (v : List ℕ). over (bytes v) a.room.now) all))
