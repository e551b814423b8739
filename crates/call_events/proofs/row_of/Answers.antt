-- Where the event is not due there is no row, and else the row is that of the state.
use mathlib.Core.Path.{sym, ◌∙◌}
use Rattle.ledger.specs.Choice.{◌⇒◌∣◌}
use Rattle.call_events.proofs.row_of.Goals as goal

pub returns-then-not-is_due : goal.returns-then-not-is_due
unfolding ◌⇒◌∣◌
returns-then-not-is_due c = rw (sym c.is_due.ensures ∙ c.if-not-is_due.true)

pub returns : goal.returns
unfolding ◌⇒◌∣◌
returns c =
    rw (sym c.is_due.ensures ∙ c.if-not-is_due.false, sym c.requires.loaded) c.event_row.ensures
