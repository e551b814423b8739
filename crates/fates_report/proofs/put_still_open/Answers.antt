-- Each turn puts the line of the oldest that is left, so those that are left lead to the same text; a free place ends them.
use Prim.Native.Nat.{ℕ, ◌+◌, ◌-◌, ◌<◌}
use native.Mathlib.Omega.{arith}
use mathlib.Core.Path.{◌≡◌}
use mathlib.Core.List.{List}
use lib.ListN.{get_or}
use Rattle.text.specs.Page.{Put}
use Rattle.text.specs.declared.Page.{Page}
use Rattle.text.proofs.Putting.{ToCome, all_to_come, less_to_come, all_put}
use Rattle.paper.specs.Saps.{most_open}
use Rattle.fates_report.specs.Report.{word_still_open, indication_line, open_lines}
use Rattle.fates_report.proofs.Laws.{open_end, open_none, open_next}
use Rattle.fates_report.proofs.put_still_open.Goals as goal

-- a line more
one_less : {first page page' : Page} {whole : List ℕ} {most : ℕ} (i c left : ℕ) (g : List ℕ) → 0 < left → (get_or g c 0 ≡ 0 → ⊥)
    → ToCome first whole page (open_lines left i c g) → Put most (indication_line i c word_still_open g) page page'
    → ToCome first whole page' (open_lines (left - 1) i (c + 2) g)
one_less i c left g h n rest line =
    less_to_come (indication_line i c word_still_open g) (open_lines (left - 1) i (c + 2) g) rest (open_next left i c g h n) line

pub loop-c-init : goal.loop-c-init
loop-c-init c = record { left = most_open; stands = omega arith; few = omega arith; rest = all_to_come _ _ }

pub returns-then-register-c-eq0 : goal.returns-then-register-c-eq0
returns-then-register-c-eq0 c =
    let l = c.loop-c in
    let a = c.args in
    all_put (omega (arith, l.invariant.few)) l.invariant.rest (open_none l.invariant.left a.i l.c a.register.now c.if-register-c-eq0.true)

pub loop-c-preserved : goal.loop-c-preserved
loop-c-preserved c =
    let l = c.loop-c in
    let a = c.args in
    let line = c.put_indication.ensures in
    let left = l.invariant.left in
    record {
      left = left - 1;
      stands = omega (arith, l.invariant.stands);
      few = omega (arith, line.few, l.invariant.few, l.invariant.stands);
      rest = one_less a.i l.c left a.register.now (omega arith) c.if-register-c-eq0.false l.invariant.rest line;
    }

pub returns-else-register-c-eq0 : goal.returns-else-register-c-eq0
returns-else-register-c-eq0 c =
    let l = c.loop-c in
    let a = c.args in
    let g = a.register.now in
    let line = c.put_indication.ensures in
    let left = l.invariant.left in
    let rest = one_less a.i l.c left g (omega arith) c.if-register-c-eq0.false l.invariant.rest line in
    all_put (omega (arith, line.few, l.invariant.few, l.invariant.stands)) rest (open_end (left - 1) a.i (l.c + 2) g (omega arith))

pub returns : goal.returns
returns c =
    let l = c.loop-c in
    let a = c.args in
    all_put (omega (arith, l.invariant.few)) l.invariant.rest (open_end l.invariant.left a.i l.c a.register.now (omega arith))
