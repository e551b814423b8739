-- To fill the cells with zeros is to clear them one by one.
use native.Mathlib.Omega.{arith}
use Prim.Native.Nat.{◌+◌, ◌-◌}
use mathlib.Core.Path.{◌≡◌}
use lib.ListN.{length, take, drop, length-take, length-drop}
use lib.Seq.{drop-drop}
use Rattle.fates_register.specs.Register.{newest_size}
use Rattle.fates_register.proofs.Laws.{clear_all}
use Rattle.fates_register.proofs.clear.Goals as goal

pub returns : goal.returns
returns c =
    let l = c.args.register.now in
    let at = c.args.at in
    let size : at + newest_size - at ≡ newest_size = omega arith in
    let long : length (take newest_size (drop at l)) ≡ newest_size = omega (arith, length-take newest_size (drop at l), length-drop at l) in
    let zeros = c.fill.ensures.after (λ y e. e) in
    rw (zeros, size, long, drop-drop newest_size at l, ← clear_all newest_size at l (omega arith))
