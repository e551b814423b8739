-- A number has a place that is taken and holds it.
use lib.Dec.{eqb, ltb}
use borrow.Author.Tests.{tests}
use borrow.Author.Rules.{rules}
use Rattle.ledger.specs.Choice.{both}
use Rattle.paper.specs.Saps.{most_open}
use Rattle.fates_register.specs.Register.{places_of}
use Rattle.fates_register.proofs.Laws.{first-find}
use Rattle.fates_register.proofs.place_of.Goals as goal

pub returns : goal.returns
returns c =
    let a = c.args in
    rw (first-find most_open (places_of a.i) a.n a.register.now) at (c.first_place.ensures (λ x y. both (ltb 0 x) (eqb y a.n)) (λ x y b t. search (rules, tests)))
