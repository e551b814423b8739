-- The streams' counts are summed, each at most 8.
use Rattle.std.proofs.Common.{◌∙◌, sym, length, ℕ, ◌≡◌, refl, arith, rules}
use Rattle.std.specs.List.{range_with_len}
use Rattle.std.proofs.lemmas.Iterator.{YieldsList-from_range, YieldsList-from_map}
use Rattle.std.proofs.lemmas.Iterator.Consumers.{sum_by_from_yields_List}
use Rattle.std.proofs.lemmas.Iterator.Adapters.{fits_from_length, at_most_from_yields_List}
use Rattle.ledger.specs.Tally.{occ}
use Rattle.ledger.proofs.Places.{summed}
use Rattle.ledger.proofs.Tallies.{occ-length}
use Rattle.paper.specs.Base.{Slot, waiting, closed}
use Rattle.paper.specs.Correlations.{occurrences}
use Rattle.table_image.specs.Layout.{table_of}
use Rattle.table_numbers.proofs.occurrences.Goals as goal

pub sum-requires-clause-fits : goal.sum-requires-clause-fits
sum-requires-clause-fits c =
    let t = table_of c.args.table.image.now in
    fits_from_length _ _ 16 _ (at_most_from_yields_List (YieldsList-from_range 0 16 16 c.map.ensures.source refl) (omega arith)) c.map.ensures.closure (omega arith)
    (λ x r q k. let e : r ≡ occ c.args.n (waiting t x) = search rules in (search rules, omega (arith, occ-length c.args.n (waiting t x), c.args.table.lent.shaped.eight x)))

pub returns : goal.returns
unfolding occurrences
returns c =
    let t = table_of c.args.table.image.now in
    let n = c.args.n in
    let h = λ (k : ℕ). occ n (waiting t k) in
    sum_by_from_yields_List h (range_with_len 0 (length t.slots)) _ _ c.sum.ensures.ran
    (YieldsList-from_map _ h (YieldsList-from_range 0 16 (length t.slots) c.map.ensures.source (sym c.args.table.lent.shaped.sixteen)) c.map.ensures.closure (λ x r q k. search rules))
    ∙ summed (λ (x : Slot). occ n x.waiting) closed t.slots
