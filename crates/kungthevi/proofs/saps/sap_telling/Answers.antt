-- What is told is told of the exclusion that holds.
use mathlib.Core.Path.{◌∙◌}
use Rattle.paper.specs.Exclusions.{sap_telling}
use Rattle.kungthevi.proofs.saps.sap_telling.Goals as goal

pub returns : goal.returns
unfolding sap_telling
returns c = c.telling_of.ensures ∙ rw c.excluded_by.ensures
