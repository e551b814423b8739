-- The test whether a place is free is that of the definition, and the two cells written are those of that place.
use borrow.Author.Tests.{lt-ltb, le-ltb}
use Rattle.ledger.specs.Choice.{◌⇒◌∣◌}
use Rattle.fates_register.specs.Register.{placed}
use Rattle.fates_register.proofs.place.Goals as goal

pub returns-then-i-c : goal.returns-then-i-c
unfolding placed ◌⇒◌∣◌
returns-then-i-c c = simp (← c.first_free-c.ensures.is, le-ltb _ _ c.if-i-c.true)

pub returns : goal.returns
unfolding placed ◌⇒◌∣◌
returns c =
    simp (← c.first_free-c.ensures.is, lt-ltb _ _ c.if-i-c.false)
