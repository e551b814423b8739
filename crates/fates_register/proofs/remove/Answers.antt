-- The test whether the number has a place is that of the definition, and what closes up is what stands behind that place.
use borrow.Author.Tests.{lt-ltb, le-ltb}
use Rattle.ledger.specs.Choice.{◌⇒◌∣◌}
use Rattle.fates_register.specs.Register.{removed}
use Rattle.fates_register.proofs.remove.Goals as goal

pub returns-then-i-c : goal.returns-then-i-c
unfolding removed ◌⇒◌∣◌
returns-then-i-c c = simp (← c.place_of-c.ensures.is, le-ltb _ _ c.if-i-c.true)

pub returns : goal.returns
unfolding removed ◌⇒◌∣◌
returns c =
    simp (← c.place_of-c.ensures.is, lt-ltb _ _ c.if-i-c.false) c.close_up.ensures
