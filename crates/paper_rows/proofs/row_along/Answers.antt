-- A course with its cause is a row, which is tested for the stream's state and mode.
use mathlib.Core.Path.{◌∙◌}
use Rattle.paper_rows.proofs.row_along.Goals as goal

pub returns-in-Leads : goal.returns-in-Leads
returns-in-Leads c =
    c.row_in.ensures ∙ rw (c.in-Leads.is, ← c.number-state.ensures)

pub returns-in-Loses : goal.returns-in-Loses
returns-in-Loses c =
    c.row_in-in-Loses.ensures ∙ rw (c.in-Loses.is, ← c.number-state.ensures)
