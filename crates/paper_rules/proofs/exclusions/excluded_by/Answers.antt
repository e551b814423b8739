-- In the table the first that holds is found.
use mathlib.Core.Path.{◌∙◌}
use Rattle.paper.specs.Exclusions.{excluded_by}
use Rattle.paper_rules.proofs.exclusions.excluded_by.Goals as goal

pub returns : goal.returns
unfolding excluded_by
returns c = c.excluded_in.ensures ∙ rw c.exclusions.ensures
