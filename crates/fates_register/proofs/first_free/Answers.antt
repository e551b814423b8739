-- A place is free where its first cell is 0.
use lib.Dec.{eqb}
use borrow.Author.Tests.{tests}
use borrow.Author.Rules.{rules}
use Rattle.fates_register.proofs.Laws.{first-free}
use Rattle.fates_register.proofs.first_free.Goals as goal

pub returns : goal.returns
returns c = rw first-free at (c.first_place.ensures (λ x y. eqb x 0) (λ x y b t. search (rules, tests)))
