-- To copy the cells at once is to copy them one by one.
use native.Mathlib.Omega.{arith}
use Prim.Native.Nat.{◌+◌, ◌-◌}
use mathlib.Core.Path.{◌≡◌, sym, ◌∙◌}
use mathlib.Core.List.{append_assoc}
use lib.ListN.{take, drop}
use Rattle.fates_register.proofs.Laws.{close_all}
use Rattle.fates_register.proofs.close_up.Goals as goal

pub returns : goal.returns
returns c =
    let l = c.args.register.now in
    let at = c.args.at in
    let size : at + 2 + c.args.k - (at + 2) ≡ c.args.k = omega arith in
    rw size at c.copy_within.ensures.after ∙ append_assoc (take at l) (take c.args.k (drop (at + 2) l)) (drop (at + c.args.k) l) ∙ sym (close_all c.args.k at l (omega arith))
