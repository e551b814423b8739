-- The one test of the code is that of the definition, on as many bytes as the page shows.
use native.Mathlib.Omega.{arith}
use mathlib.Core.Path.{ap}
use lib.ListN.{length}
use borrow.Author.Rules.{rules}
use Rattle.turns.proofs.Laws.{drained-as-is, drained-cleared}
use Rattle.turns.proofs.drain.Goals as goal

pub returns-then-text-le-MOST_WAITING : goal.returns-then-text-le-MOST_WAITING
returns-then-text-le-MOST_WAITING g c = drained-as-is _ c.requires (omega (arith, ap length c.text.ensures))

pub returns : goal.returns
returns g c = drained-cleared _ _ c.requires (omega (arith, ap length c.text.ensures)) (search rules) (search rules)
