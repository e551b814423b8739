-- The first place that passes the test.
use Rattle.std.proofs.Common.{◌≡◌, true, false, get_or, eqb, rules}
use Rattle.std.proofs.lemmas.Iterator.{first_from_Range}
use Rattle.ledger.proofs.Places.{found}
use Rattle.paper.specs.Base.{waiting}
use Rattle.table_image.specs.Layout.{table_of}
use Rattle.table_numbers.proofs.number_place.Goals as goal

pub returns : goal.returns
returns c =
    let w = waiting (table_of c.args.table.image.now) c.args.i in
    let n = c.args.n.0 in
    found (eqb n) 0 w _ _ c.count_at.ensures
    (first_from_Range _ _ _ _ (λ k. eqb n (get_or w k 0) ≡ true) (λ k. eqb n (get_or w k 0) ≡ false) c.find.ensures.ran (λ x q k. search rules) (λ x q k. search rules))
