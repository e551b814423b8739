-- Each turn puts the text of the next stream, so the streams that follow lead to the same text.
use Prim.Native.Nat.{◌+◌, ◌-◌}
use native.Mathlib.Omega.{arith}
use borrow.Author.Rules.{rules}
use Rattle.text.proofs.Putting.{all_to_come, less_to_come, all_put}
use Rattle.paper.specs.Base.{stream_total}
use Rattle.fates_report.specs.Report.{end_text, end_texts}
use Rattle.fates_report.proofs.Laws.{ends-end, ends_next}
use Rattle.fates_report.proofs.put_ends.Goals as goal

pub loop-i-init : goal.loop-i-init
loop-i-init c = record { few = omega arith; rest = all_to_come _ _ }

pub loop-i-preserved : goal.loop-i-preserved
loop-i-preserved c =
    let l = c.loop-i in
    let g = c.args.register.now in
    record {
      few = omega (arith, c.put_end.ensures.few, l.invariant.few);
      rest =
          less_to_come (end_text l.i g) (end_texts (stream_total - (l.i + 1)) (l.i + 1) g) l.invariant.rest
          (ends_next stream_total l.i g (search rules)) c.put_end.ensures;
    }

pub returns : goal.returns
returns c =
    let l = c.loop-i in
    all_put (search rules) l.invariant.rest (ends-end stream_total l.i c.args.register.now c.loop-i-test.false)
