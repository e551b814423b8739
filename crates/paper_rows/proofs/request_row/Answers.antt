-- The course is that of the one row that the list can have for what comes.
use mathlib.Core.Path.{◌∙◌}
use Rattle.paper.specs.StateRows.{found}
use Rattle.paper_rows.proofs.request_row.Goals as goal

pub returns : goal.returns
unfolding found
returns c =
    c.row_along.ensures ∙ rw (c.code_of.ensures, ← c.number.ensures) c.request_course-course.ensures
