-- The kinds are those of the definition, in their order, and each arm reads the same bytes of the record.
use native.Mathlib.Omega.{arith}
use borrow.Author.Tests.{ne_eqb}
use Rattle.ledger.specs.Choice.{◌⇒◌∣◌}
use Rattle.fates_book.specs.Lines.{line_at}
use Rattle.fates_book.proofs.line_at.Goals as goal

pub returns-in-97 : goal.returns-in-97
unfolding line_at ◌⇒◌∣◌
returns-in-97 c = simp (← c.byte_at-kind.ensures, ← c.number_at-n.ensures, c.in-97.is, ← c.asker.ensures)

pub returns-in-100 : goal.returns-in-100
unfolding line_at ◌⇒◌∣◌
returns-in-100 c =
    simp (← c.byte_at-kind.ensures, ← c.byte_at-named.ensures, ← c.number_at-n.ensures, c.in-100.is, ← c.parting.ensures)
    c.end_line.ensures

pub returns-in_default : goal.returns-in_default
unfolding line_at ◌⇒◌∣◌
returns-in_default c =
    let kind = c.byte_at-kind.result in
    simp (← c.byte_at-kind.ensures, ne_eqb kind 97 (omega arith), ne_eqb kind 100 (omega arith), ← c.is_message.ensures, c.if-is_message.true)
    c.up_line.ensures

pub returns-in_default-2 : goal.returns-in_default-2
unfolding line_at ◌⇒◌∣◌
returns-in_default-2 c =
    let kind = c.byte_at-kind.result in
    simp (← c.byte_at-kind.ensures, ne_eqb kind 97 (omega arith), ne_eqb kind 100 (omega arith), ← c.is_message.ensures, c.if-is_message.false)
