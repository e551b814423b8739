-- Where the number is open one fewer stays, and else all do.
use mathlib.Core.Path.{◌∙◌, sym}
use Rattle.std.proofs.Common.{◌≡◌, ℕ, suc, true, length, sym, ap, ◌∙◌, arith, ltb-true}
use Rattle.ledger.specs.Tally.{occ, without, has}
use Rattle.ledger.proofs.Tallies.{length_without}
use Rattle.ledger.proofs.Searches.{without_none}
use Rattle.paper.specs.Base.{Table, waiting}
use Rattle.paper.specs.declared.Correlation.{Correlation}
use Rattle.table_image.specs.Layout.{table_of}
use Rattle.table_numbers.proofs.remaining.Goals as goal

-- a number that is open is one of the list's
one_fewer : (t : Table) (i : ℕ) (n : Correlation) → has n.0 (waiting t i) ≡ true → suc (length (without n.0 (waiting t i))) ≡ length (waiting t i)
one_fewer t i n h = length_without n.0 (waiting t i) (ltb-true 0 (occ n.0 (waiting t i)) h)

pub returns-then-is_waiting : goal.returns-then-is_waiting
returns-then-is_waiting c =
    let a = c.args in
    omega (arith, c.count_at-count.ensures, one_fewer (table_of a.table.image.now) a.i a.n (sym c.is_waiting.ensures ∙ c.if-is_waiting.true))

pub returns-else-is_waiting : goal.returns-else-is_waiting
returns-else-is_waiting c =
    let a = c.args in
    c.count_at-count.ensures
    ∙ ap length (sym (without_none a.n.0 (waiting (table_of a.table.image.now) a.i) (sym c.is_waiting.ensures ∙ c.if-is_waiting.false)))
