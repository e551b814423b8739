-- The first place that passes the test.
use Rattle.std.proofs.Common.{◌≡◌, Bool, true, false, rules}
use Rattle.std.proofs.lemmas.Iterator.{first_from_Range}
use lib.Dec.{eqb}
use lib.ListN.{get_or}
use Rattle.paper.specs.Base.{no_ppa}
use Rattle.paper.specs.declared.Ppa.{Ppa}
use Rattle.table_image.specs.Layout.{table_of}
use Rattle.ledger.proofs.Places.{found}
use Rattle.table_lookup.proofs.ppa_place.Goals as goal

pub returns : goal.returns
returns c =
    let l = (table_of c.args.table.image.now).ppas in
    let f : Ppa → Bool = λ q. eqb q.number.0 c.args.p.0 in
    found f no_ppa l _ _ c.ppa_total.ensures
    (first_from_Range _ _ _ _ (λ k. f (get_or l k no_ppa) ≡ true) (λ k. f (get_or l k no_ppa) ≡ false) c.find.ensures.ran (λ x q k. search rules) (λ x q k. search rules))
