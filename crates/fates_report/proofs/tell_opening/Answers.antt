-- Where a stream was opened its one line is told, and else there is none.
use mathlib.Core.Path.{refl}
use Rattle.text.proofs.Putting.{none_put}
use Rattle.fates_register.specs.Register.{entered_all}
use Rattle.fates_report.specs.Report.{all_text}
use Rattle.fates_report.proofs.Laws.{opened_text, opened_register}
use Rattle.fates_report.proofs.tell_opening.Goals as goal

pub returns-then-token-ne0 : goal.returns-then-token-ne0
returns-then-token-ne0 c =
    let a = c.args in
    let l = a.register.now in
    let some = c.if-token-ne0.true in
    rw (opened_text a.token l some, opened_register a.token l some) c.tell.ensures

pub returns-else-token-ne0 : goal.returns-else-token-ne0
unfolding all_text entered_all
returns-else-token-ne0 c =
    rw c.if-token-ne0.false (record { wrote = none_put _ _; entered = refl })
