-- A stream that was never opened has no text, as the one test says; else the line of the opening stands behind the lines of those still open.
use borrow.Author.Tests.{eq-eqb, ne_eqb}
use Rattle.ledger.specs.Choice.{◌⇒◌∣◌}
use Rattle.text.proofs.Putting.{none_put, put_then}
use Rattle.fates_report.specs.Report.{end_text}
use Rattle.fates_report.proofs.put_end.Goals as goal

pub returns-then-register-i-ne0 : goal.returns-then-register-i-ne0
unfolding end_text ◌⇒◌∣◌
returns-then-register-i-ne0 c =
    rw (ne_eqb _ _ c.if-register-i-ne0.true) (put_then c.put_still_open.ensures c.put_opening.ensures)

pub returns-else-register-i-ne0 : goal.returns-else-register-i-ne0
unfolding end_text ◌⇒◌∣◌
returns-else-register-i-ne0 c = rw (eq-eqb _ _ c.if-register-i-ne0.false) (none_put _ _)
