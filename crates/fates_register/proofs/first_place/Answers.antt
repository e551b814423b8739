-- A place that is passed is not the one, so the places left to look at give the answer of all.
use native.Mathlib.Omega.{arith}
use mathlib.Core.Path.{refl, sym, ◌∙◌}
use Prim.Native.Nat.{◌+◌, ◌-◌}
use Rattle.paper.specs.Saps.{most_open}
use Rattle.fates_register.proofs.Laws.{first_here, first_past, first_none}
use Rattle.fates_register.proofs.first_place.Goals as goal
use Rattle.fates_register.proofs.first_place.Goals.{else-loop-c-test, then-loop-c-test+else-is_it+else-end-c-gt2}

pub loop-c-init : goal.loop-c-init
loop-c-init g c = record { left = most_open; stands = omega arith; same = λ test t. refl }

pub returns-then-is_it : goal.returns-then-is_it
returns-then-is_it g c = λ test t.
    let l = c.loop-c in
    let left = l.invariant.left in
    record {
      is = sym (l.invariant.same test t ∙ first_here test left l.c c.args.register.now (omega arith) (sym (t _ _ _ c.is_it.ensures) ∙ c.if-is_it.true));
      first = omega arith;
      last = omega arith;
    }

pub loop-c-preserved : goal.loop-c-preserved
loop-c-preserved g c =
    let l = c.loop-c in
    let left = l.invariant.left in
    record {
      left = left - 1;
      stands = omega (arith, l.invariant.stands);
      same = λ test t. l.invariant.same test t ∙ first_past test left l.c c.args.register.now (omega arith) (sym (t _ _ _ c.is_it.ensures) ∙ c.if-is_it.false);
    }

pub returns : goal.returns
returns g c = λ test t.
    let l = c.loop-c in
    let left = l.invariant.left in
    let register = c.args.register.now in
    let all = l.invariant.same test t in
    record {
      is = elim c.loop-c-test.branch [
        | else-loop-c-test w ↦ first_none test left l.c _ register (omega arith) (omega arith) ∙ sym all
        | then-loop-c-test+else-is_it+else-end-c-gt2 w ↦
            first_none test (left - 1) (l.c + 2) _ register (omega arith) (omega arith)
            ∙ sym (all ∙ first_past test left l.c register (omega arith) (sym (t _ _ _ w.is_it.ensures) ∙ w.if-is_it.false))
      ];
      first = omega arith;
      last = omega arith;
    }
