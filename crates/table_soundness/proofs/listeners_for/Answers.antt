-- The streams are counted place by place.
use Prim.Native.Nat.{ℕ}
use mathlib.Core.Path.{◌∙◌}
use mathlib.Core.Bool.{Bool}
use native.Mathlib.Omega.{arith}
use borrow.Author.Rules.{rules}
use Rattle.std.specs.List.{range_with_len}
use Rattle.std.proofs.lemmas.Iterator.{YieldsList-from_map, YieldsList-from_range}
use Rattle.std.proofs.lemmas.Iterator.Consumers.{sum_by_from_yields_List, fits_by_from_yields_list}
use Rattle.ledger.specs.Tally.{one_if}
use Rattle.paper.specs.Base.{Slot, closed, slot, stream_total}
use Rattle.paper.specs.Saps.{listens}
use Rattle.table_image.specs.Layout.{table_of}
use Rattle.table_soundness.proofs.Places.{summed_places, passed_most}
use Rattle.table_soundness.proofs.listeners_for.Goals as goal

pub sum-requires-clause-fits : goal.sum-requires-clause-fits
sum-requires-clause-fits c =
    let a = c.args in
    let t = table_of a.table.image.now in
    let heard : Slot → Bool = λ x. listens a.p a.sap x.stream in
    let at : ℕ → ℕ = λ i. one_if (heard (slot t i)) in
    fits_by_from_yields_list at (range_with_len 0 stream_total) _ _ (YieldsList-from_map _ at (YieldsList-from_range 0 stream_total stream_total c.map.ensures.source (omega arith)) c.map.ensures.closure (λ x r q k. search rules))
    (omega (arith, passed_most closed t.slots stream_total c.args.table.lent.shaped.sixteen heard))

pub returns : goal.returns
returns c =
    let a = c.args in
    let t = table_of a.table.image.now in
    let heard : Slot → ℕ = λ x. one_if (listens a.p a.sap x.stream) in
    let at : ℕ → ℕ = λ i. heard (slot t i) in
    sum_by_from_yields_List at (range_with_len 0 stream_total) _ _ c.sum.ensures.ran (YieldsList-from_map _ at (YieldsList-from_range 0 stream_total stream_total c.map.ensures.source (omega arith)) c.map.ensures.closure (λ x r q k. search rules))
    ∙ summed_places closed t.slots stream_total c.args.table.lent.shaped.sixteen heard
