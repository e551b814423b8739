-- What was passed over does not hold, so the search goes on in what is left of the list.
use mathlib.Core.Path.{◌≡◌}
use lib.ListN.{drop}
use Rattle.paper.specs.Exclusions.{excluded_in}
use Rattle.paper_rules.proofs.exclusions.excluded_in.Given as goal

abbrev pub invariant-loop-x : goal.invariant-loop-x
invariant-loop-x l = excluded_in l.x-items l.n ≡ excluded_in (drop l.x-index l.x-items) l.n
