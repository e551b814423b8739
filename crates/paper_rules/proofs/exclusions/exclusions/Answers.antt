-- The table in code is the definition's, entry by entry: both are computed.
use mathlib.Core.Path.{refl}
use Rattle.paper_rules.proofs.exclusions.exclusions.Goals as goal

pub returns : goal.returns
returns c = refl
