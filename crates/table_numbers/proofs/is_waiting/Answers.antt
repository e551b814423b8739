-- A number is open exactly if it has a place.
use Rattle.ledger.proofs.Places.{has-place}
use Rattle.table_numbers.proofs.is_waiting.Goals as goal

pub returns : goal.returns
returns c = rw (c.is_some.ensures, c.number_place.ensures, has-place)
