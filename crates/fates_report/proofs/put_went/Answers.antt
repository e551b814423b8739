-- The test of the code is that of the definition: that the number has a place on the stream's page.
use borrow.Author.Tests.{lt-ltb, le-ltb}
use Rattle.ledger.specs.Choice.{◌⇒◌∣◌}
use Rattle.text.proofs.Putting.{none_put}
use Rattle.fates_report.specs.Report.{line_text}
use Rattle.fates_report.proofs.put_went.Goals as goal

pub returns-then-c-i : goal.returns-then-c-i
unfolding line_text ◌⇒◌∣◌
returns-then-c-i c =
    rw (lt-ltb _ _ c.requires.within, ← c.place_of-c.ensures.is, lt-ltb _ _ c.if-c-i.true, ← c.word_of.ensures) c.put_indication.ensures

pub returns-else-c-i : goal.returns-else-c-i
unfolding line_text ◌⇒◌∣◌
returns-else-c-i c =
    rw (lt-ltb _ _ c.requires.within, ← c.place_of-c.ensures.is, le-ltb _ _ c.if-c-i.false)
    (none_put _ _)
