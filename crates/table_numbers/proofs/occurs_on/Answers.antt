-- The places counted are those of the number.
use Rattle.std.proofs.Common.{◌∙◌, eqb, get_or, length, ℕ, arith, rules}
use Rattle.std.proofs.lemmas.Iterator.{YieldsList-from_range}
use Rattle.std.proofs.lemmas.Iterator.Consumers.{YieldsList-from_filter, count_from_yields_List}
use Rattle.ledger.proofs.Places.{counted}
use Rattle.paper.specs.Base.{waiting}
use Rattle.table_image.specs.Layout.{table_of}
use Rattle.table_numbers.proofs.occurs_on.Goals as goal

pub returns : goal.returns
returns c =
    let w = waiting (table_of c.args.table.image.now) c.args.i in
    let n = c.args.n in
    count_from_yields_List _ _ c.count.ensures.ran
    (YieldsList-from_filter _ (λ (k : ℕ). eqb n (get_or w k 0)) (YieldsList-from_range 0 _ (length w) c.filter.ensures.source (omega arith)) c.filter.ensures.closure (λ x r q k. search rules))
    ∙ counted n w
