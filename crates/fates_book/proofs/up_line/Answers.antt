-- The numbers of the primitives are those of the definition, in their order, and each arm reads the field where its message has it.
use native.Mathlib.Omega.{arith}
use borrow.Author.Tests.{ne_eqb}
use Rattle.ledger.specs.Choice.{◌⇒◌∣◌}
use Rattle.fates_book.specs.Lines.{up_line}
use Rattle.fates_book.proofs.up_line.Goals as goal

pub returns-in-4 : goal.returns-in-4
unfolding up_line ◌⇒◌∣◌
returns-in-4 c = simp (← c.byte_at-i.ensures, ← c.number_at.ensures, c.in-4.is, ← c.number_at-in-4.ensures)

pub returns-in-14 : goal.returns-in-14
unfolding up_line ◌⇒◌∣◌
returns-in-14 c = simp (← c.byte_at-i.ensures, ← c.number_at.ensures, c.in-14.is, ← c.number_at-in-14.ensures)

pub returns-in-20 : goal.returns-in-20
unfolding up_line ◌⇒◌∣◌
returns-in-20 c = simp (← c.byte_at-i.ensures, ← c.number_at.ensures, c.in-20.is, ← c.number_at-in-20.ensures) c.end_line.ensures

pub returns-in_default : goal.returns-in_default
unfolding up_line ◌⇒◌∣◌
returns-in_default c =
    let code = c.number_at.result in
    simp (← c.number_at.ensures, ne_eqb code 0x04 (omega arith), ne_eqb code 0x0e (omega arith), ne_eqb code 0x14 (omega arith))
