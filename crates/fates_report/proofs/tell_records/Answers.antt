-- Each turn tells the line of the first record that is left, so what is still to be told leads to the same text and register.
use Prim.Native.Nat.{◌*◌, ◌≤◌, ◌<◌}
use native.Mathlib.Omega.{arith}
use mathlib.Core.Path.{refl, sym, ap}
use lib.ListN.{length, get_or, length-drop}
use borrow.Author.Rules.{rules}
use borrow.Author.Tests.{eqb-true, eqb-false}
use Rattle.paper.specs.RecordsOut.{size_out}
use Rattle.paper.proofs.Sizes.{size-within}
use Rattle.fates_report.specs.Report.{line_text, per_byte}
use Rattle.fates_report.proofs.Laws.{said_most, all_telling, less-telling, none_telling}
use Rattle.fates_report.proofs.tell_records.Goals as goal

pub loop-rest-init : goal.loop-rest-init
loop-rest-init c =
    let a = c.args in
    record {
      uncut = λ h. omega arith;
      few = omega arith;
      whole = refl;
      left = all_telling a.page.now a.q a.written.now a.register.now;
    }

pub tell-requires : goal.tell-requires
tell-requires c =
    let l = c.loop-rest in
    let some : 0 < length l.rest.now = omega (arith, eqb-false (length l.rest.now) 0 (sym c.loop-rest-test.ensures)) in
    record { long = omega arith; room = omega (arith, l.invariant.uncut some, c.requires.lent.room) }

pub loop-rest-smaller : goal.loop-rest-smaller
loop-rest-smaller c =
    let rest = c.loop-rest.rest.now in
    let size = size_out (get_or rest 0 0) in
    omega (
      arith,
      eqb-false (length rest) 0 (sym c.loop-rest-test.ensures),
      size-within (get_or rest 0 0),
      ap length c.behind_first-rest.ensures,
      length-drop size rest,
    )

pub loop-rest-preserved : goal.loop-rest-preserved
loop-rest-preserved c =
    let l = c.loop-rest in
    let rest = l.rest.now in
    let line = c.line_at in
    let text = c.tell.ensures in
    let size = size_out (get_or rest 0 0) in
    let sized = size-within (get_or rest 0 0) in
    let shorter = length-drop size rest in
    let some : 0 < length rest = omega (arith, eqb-false (length rest) 0 (sym c.loop-rest-test.ensures)) in
    let most : length (line_text line.result l.register) ≤ per_byte * size = rw line.ensures (said_most c.args.q rest l.register) in
    rw c.behind_first-rest.ensures (record {
      uncut = λ h. omega (arith, text.wrote.ends, most, l.invariant.uncut some, shorter);
      few = omega (arith, text.wrote.ends, most, l.invariant.uncut some, sized, c.requires.short);
      whole = search rules;
      left = less-telling line.result l.invariant.left some line.ensures text;
    })

pub returns : goal.returns
returns c =
    let l = c.loop-rest in
    let none = eqb-true (length l.rest.now) 0 (sym c.loop-rest-test.ensures) in
    none_telling l.invariant.left (omega (arith, none)) l.invariant.few
