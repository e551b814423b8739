-- The row by which an event may come to stream i: none where it is not due.
use Rattle.std.specs.Prelude.{ℕ, None, Option}
use Rattle.ledger.specs.Choice.{◌⇒◌∣◌}
use Rattle.paper.specs.Base.{Table, slot, stream}
use Rattle.paper.specs.StateRows.{state_rows, found}
use Rattle.paper.specs.Sight.{letter_of}
use Rattle.paper.specs.Decide.{is_due}
use Rattle.paper.specs.declared.Event.{Event}
use Rattle.paper.specs.declared.StateRow.{StateRow}

abbrev pub due_row : Table → ℕ → Event → Option StateRow
due_row t i e = is_due (slot t i) e ⇒ found state_rows (stream t i) (letter_of e) ∣ None
