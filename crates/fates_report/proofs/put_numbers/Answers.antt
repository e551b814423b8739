-- Each turn puts the first of the numbers that are left, so those that are left lead to the same text.
use Prim.Native.Nat.{ℕ, ◌+◌, ◌-◌, ◌≤◌, ◌<◌}
use native.Mathlib.Nat.{sub-zero}
use native.Mathlib.Omega.{arith}
use mathlib.Core.Path.{◌≡◌}
use mathlib.Core.List.{List}
use lib.ListN.{length, get_or, take, drop, length-take, length-drop}
use Rattle.std.proofs.lemmas.List.Edits.{get_or-between}
use Rattle.text.proofs.Putting.{all_to_come, less_to_come, all_put}
use Rattle.fates_report.specs.Report.{spaced_number, numbers}
use Rattle.fates_report.proofs.Laws.{numbers_end, numbers_next}
use Rattle.fates_report.proofs.put_numbers.Goals as goal

-- as many cells as are asked for, and each where it stands in the register
cells : (c k : ℕ) (g : List ℕ) → c + k ≤ length g → length (take (c + k - c) (drop c g)) ≡ k
cells c k g h = omega (arith, length-take (c + k - c) (drop c g), length-drop c g)

pub put_spaced-requires : goal.put_spaced-requires
put_spaced-requires c =
    let a = c.args in
    omega (arith, c.requires.room, c.loop-n.invariant.few, cells a.c a.k a.register.now (omega arith))

pub loop-n-init : goal.loop-n-init
loop-n-init c =
    let a = c.args in
    let none : a.c + 0 ≡ a.c = omega arith in
    record { few = omega arith; rest = rw (sub-zero a.k, none) (all_to_come a.page.now (numbers a.k a.c a.register.now)) }

pub loop-n-preserved : goal.loop-n-preserved
loop-n-preserved c =
    let l = c.loop-n in
    let a = c.args in
    let g = a.register.now in
    let j = l.n-index in
    let inside : j < a.k = omega (arith, cells a.c a.k g (omega arith)) in
    let one = rw (get_or-between g a.c (a.c + a.k) j 0 (omega arith)) at c.put_spaced.ensures in
    record {
      few = omega (arith, one.few, l.invariant.few);
      rest =
          less_to_come (spaced_number (get_or g (a.c + j) 0)) (numbers (a.k - (j + 1)) (a.c + (j + 1)) g) l.invariant.rest
          (numbers_next a.k j a.c g inside) one;
    }

pub returns : goal.returns
returns c =
    let l = c.loop-n in
    let a = c.args in
    let g = a.register.now in
    let all : a.k ≤ l.n-index = omega (arith, cells a.c a.k g (omega arith)) in
    all_put (omega (arith, l.invariant.few, cells a.c a.k g (omega arith))) l.invariant.rest (numbers_end a.k l.n-index a.c g all)
