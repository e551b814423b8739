-- The tests are the definition's, in its order: itself, then one that is open; an open stream is one of the table.
use native.Mathlib.Omega.{arith}
use mathlib.Core.Path.{sym, ◌∙◌}
use lib.Dec.{eqb}
use borrow.Author.Tests.{eqb-false}
use Rattle.ledger.specs.Choice.{◌⇒◌∣◌}
use Rattle.ledger.proofs.Tallies.{either_no}
use Rattle.paper.specs.Sight.{carrier_of}
use Rattle.table_image.specs.Layout.{table_of}
use Rattle.table_image.proofs.Shapes.{open_within}
use Rattle.table_lookup.proofs.carrier_of.Goals as goal

pub returns-then-means_itself : goal.returns-then-means_itself
unfolding carrier_of ◌⇒◌∣◌
returns-then-means_itself c = rw (← c.means_itself.ensures, c.if-means_itself.true)

pub overflow_sub-j : goal.overflow_sub-j
overflow_sub-j c =
    let k = c.args.k.0 in
    omega (arith, eqb-false k 0 (either_no (eqb k 0) _ (sym c.means_itself.ensures ∙ c.if-means_itself.false)).0)

-- the other stream is one of the 16
pub load_stream-requires : goal.load_stream-requires
load_stream-requires c = open_within (table_of c.args.table.image.now) c.args.table.lent.shaped _ (sym c.is_open.ensures ∙ c.if-is_open.true)

pub overflow_cast-result : goal.overflow_cast-result
overflow_cast-result c = omega (arith, open_within (table_of c.args.table.image.now) c.args.table.lent.shaped _ (sym c.is_open.ensures ∙ c.if-is_open.true))

pub returns-then-is_open : goal.returns-then-is_open
unfolding carrier_of ◌⇒◌∣◌
returns-then-is_open c =
    rw (← c.means_itself.ensures, c.if-means_itself.false, ← c.is_open.ensures, c.if-is_open.true, c.load_stream.ensures)

pub returns : goal.returns
unfolding carrier_of ◌⇒◌∣◌
returns c =
    rw (← c.means_itself.ensures, c.if-means_itself.false, ← c.is_open.ensures, c.if-is_open.false)
