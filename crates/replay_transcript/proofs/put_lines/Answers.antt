-- Each turn puts the line of the first record that is left: what is still to come leads, from where the page is, to the same text.
-- A line takes so much for each byte of its record, so those of a room's records fit, and that of one that is cut.
use Prim.Native.Nat.{◌-◌, ◌<◌}
use native.Mathlib.Omega.{arith}
use mathlib.Core.Path.{sym, ap}
use borrow.Author.Tests.{eqb-true, eqb-false}
use lib.ListN.{length, get_or, drop, length-drop}
use Rattle.paper.specs.RecordsOut.{size_out}
use Rattle.paper.proofs.Sizes.{size-within}
use Rattle.text.proofs.Putting.{all_to_come, less_to_come, all_put}
use Rattle.replay_transcript.specs.Transcript.{record_line, record_lines}
use Rattle.replay_transcript.proofs.Laws.{lines_end, lines_next}
use Rattle.replay_transcript.proofs.put_lines.Goals as goal

pub loop-rest-init : goal.loop-rest-init
loop-rest-init c =
    let a = c.args in
    record { k = length a.rs.now; enough = omega arith; uncut = λ h. omega arith; few = omega arith; text = all_to_come _ _ }

pub put_record-requires : goal.put_record-requires
put_record-requires c =
    let l = c.loop-rest in
    let some : 0 < length l.rest.now = omega (arith, eqb-false (length l.rest.now) 0 (sym c.loop-rest-test.ensures)) in
    omega (arith, size-within (get_or l.rest.now 0 0), l.invariant.uncut some, c.requires.room)

pub loop-rest-smaller : goal.loop-rest-smaller
loop-rest-smaller c =
    let rest = c.loop-rest.rest.now in
    let size = size_out (get_or rest 0 0) in
    omega (
      arith,
      eqb-false (length rest) 0 (sym c.loop-rest-test.ensures),
      size-within (get_or rest 0 0),
      ap length c.behind_first-rest.ensures,
      length-drop size rest,
    )

pub loop-rest-preserved : goal.loop-rest-preserved
loop-rest-preserved c =
    let a = c.args in
    let l = c.loop-rest in
    let left = l.invariant in
    let line = c.put_record.ensures in
    let size = size_out (get_or l.rest.now 0 0) in
    let sized = size-within (get_or l.rest.now 0 0) in
    let shorter = length-drop size l.rest.now in
    let some : 0 < length l.rest.now = omega (arith, eqb-false (length l.rest.now) 0 (sym c.loop-rest-test.ensures)) in
    rw c.behind_first-rest.ensures (record {
      k = left.k - 1;
      enough = omega (arith, left.enough, sized, shorter);
      uncut = λ h. omega (arith, line.few, left.uncut some, shorter);
      few = omega (arith, line.few, left.uncut some, sized, c.requires.short);
      text =
          less_to_come (record_line a.n l.rest.now) (record_lines (left.k - 1) a.n (drop size l.rest.now)) left.text
          (lines_next left.k a.n l.rest.now (omega (arith, left.enough)) some) line;
    })

pub returns : goal.returns
returns c =
    let left = c.loop-rest.invariant in
    let rest = c.loop-rest.rest.now in
    all_put left.few left.text (lines_end left.k c.args.n rest (omega (arith, eqb-true (length rest) 0 (sym c.loop-rest-test.ensures))))
