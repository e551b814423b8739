-- Somebody listens exactly if the listener is one of the table's streams.
use mathlib.Core.Path.{◌∙◌}
use Rattle.paper.specs.Saps.{is_listened_for}
use Rattle.ledger.proofs.Places.{is_place}
use Rattle.table_lookup.proofs.is_listened_for.Goals as goal

pub returns : goal.returns
unfolding is_listened_for
returns c = c.is_some.ensures ∙ is_place _ _ _ c.listener.ensures
