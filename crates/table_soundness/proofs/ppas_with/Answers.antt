-- The PPAs are counted place by place.
use Prim.Native.Nat.{ℕ}
use mathlib.Core.Path.{◌∙◌, sym}
use lib.Dec.{eqb}
use lib.ListN.{get_or}
use native.Mathlib.Omega.{arith}
use borrow.Author.Rules.{rules}
use Rattle.std.specs.List.{range_with_len}
use Rattle.std.proofs.lemmas.Iterator.{YieldsList-from_map, YieldsList-from_range}
use Rattle.std.proofs.lemmas.Iterator.Consumers.{sum_by_from_yields_List, fits_by_from_yields_list}
use Rattle.ledger.specs.Tally.{one_if}
use Rattle.ledger.proofs.Tallies.{occ_sum}
use Rattle.paper.specs.Base.{ppa_numbers}
use Rattle.table_image.specs.Layout.{table_of}
use Rattle.table_soundness.proofs.Places.{summed_places, passed_most}
use Rattle.table_soundness.proofs.Slots.{ppas_many}
use Rattle.table_soundness.proofs.ppas_with.Goals as goal

pub sum-requires-clause-fits : goal.sum-requires-clause-fits
sum-requires-clause-fits c =
    let n = c.args.n in
    let t = table_of c.args.table.image.now in
    let ppas = ppa_numbers t in
    let total = c.from-total.result in
    let at : ℕ → ℕ = λ k. one_if (eqb n (get_or ppas k 0)) in
    fits_by_from_yields_list at (range_with_len 0 total) _ _ (YieldsList-from_map _ at (YieldsList-from_range 0 total total c.map.ensures.source (omega arith)) c.map.ensures.closure (λ x r q k. search rules))
    (omega (arith, c.args.table.lent.shaped.few, passed_most 0 ppas total (ppas_many t ∙ sym c.ppa_total.ensures ∙ sym c.from-total.ensures) (eqb n)))

pub returns : goal.returns
returns c =
    let n = c.args.n in
    let t = table_of c.args.table.image.now in
    let ppas = ppa_numbers t in
    let total = c.from-total.result in
    let at : ℕ → ℕ = λ k. one_if (eqb n (get_or ppas k 0)) in
    sum_by_from_yields_List at (range_with_len 0 total) _ _ c.sum.ensures.ran (YieldsList-from_map _ at (YieldsList-from_range 0 total total c.map.ensures.source (omega arith)) c.map.ensures.closure (λ x r q k. search rules))
    ∙ summed_places 0 ppas total (ppas_many t ∙ sym c.ppa_total.ensures ∙ sym c.from-total.ensures) (λ (x : ℕ). one_if (eqb n x))
    ∙ sym (occ_sum n ppas)
