-- Each kind of line has its own text in the definition too, and three of them none; a stream without a page has none either.
use borrow.Author.Rules.{rules}
use mathlib.Core.Path.{◌≡◌}
use mathlib.Core.List.{[]}
use Rattle.ledger.specs.Choice.{◌⇒◌∣◌}
use Rattle.text.proofs.Putting.{none_put}
use Rattle.fates_report.specs.Report.{line_text}
use Rattle.fates_report.proofs.put_line.Goals as goal

pub returns-in-Began : goal.returns-in-Began
unfolding line_text ◌⇒◌∣◌
returns-in-Began c = rw (c.in-Began.is, ← c.if-has_page.ensures) c.put_end.ensures

pub returns-else-has_page : goal.returns-else-has_page
unfolding line_text ◌⇒◌∣◌
returns-else-has_page c = rw (c.in-Began.is, ← c.if-has_page.ensures) (none_put _ _)

pub returns-else-has_page-2 : goal.returns-else-has_page-2
unfolding line_text ◌⇒◌∣◌
returns-else-has_page-2 c = rw (c.in-Went.is, ← c.if-has_page-2.ensures) (none_put _ _)

pub returns : goal.returns
unfolding line_text
returns c =
    let none : line_text c.args.y c.args.register.now ≡ [] = search rules in
    rw none (none_put _ _)
