-- The lines of a call are that of the opening and those of the records, and the records are told behind the opening.
use Prim.Native.Nat.{◌/◌}
use lib.ListN.{length}
use Rattle.fates_book.specs.Lines.{opening_lines, lines_in}
use Rattle.fates_report.proofs.Laws.{lines-told}
use Rattle.fates_report.proofs.tell_call.Goals as goal

pub returns : goal.returns
returns c =
    let a = c.args in
    let written = c.start_of-written.result.now in
    let opened = opening_lines (a.answer / 16777216) in
    let said = lines_in (length written) c.input_of-q.result written in
    rw (← c.start_of-written.ensures, ← c.input_of-q.ensures)
    (lines-told a.register.now opened said c.tell_opening.ensures c.tell_records.ensures)
