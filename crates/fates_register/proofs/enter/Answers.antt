-- Each kind of line has its own change in the definition too, and both leave a register as it is for a stream without a page.
use borrow.Author.Rules.{rules}
use Rattle.ledger.specs.Choice.{◌⇒◌∣◌}
use Rattle.fates_register.specs.Register.{entered}
use Rattle.fates_register.proofs.enter.Goals as goal

pub returns-in-Began : goal.returns-in-Began
unfolding entered ◌⇒◌∣◌
returns-in-Began c = simp (c.in-Began.is, ← c.if-has_page.ensures) c.begin.ensures

pub returns-else-has_page : goal.returns-else-has_page
unfolding entered ◌⇒◌∣◌
returns-else-has_page c = simp (c.in-Began.is, ← c.if-has_page.ensures)

pub returns-in-Came : goal.returns-in-Came
unfolding entered ◌⇒◌∣◌
returns-in-Came c = simp (c.in-Came.is, ← c.if-has_page-2.ensures) c.ring.ensures

pub returns-else-has_page-2 : goal.returns-else-has_page-2
unfolding entered ◌⇒◌∣◌
returns-else-has_page-2 c = simp (c.in-Came.is, ← c.if-has_page-2.ensures)

pub returns-in-Went : goal.returns-in-Went
unfolding entered ◌⇒◌∣◌
returns-in-Went c = simp (c.in-Went.is, ← c.if-has_page-3.ensures) c.leave.ensures

pub returns-else-has_page-3 : goal.returns-else-has_page-3
unfolding entered ◌⇒◌∣◌
returns-else-has_page-3 c = simp (c.in-Went.is, ← c.if-has_page-3.ensures)

pub returns : goal.returns
unfolding entered ◌⇒◌∣◌
returns c = search rules
