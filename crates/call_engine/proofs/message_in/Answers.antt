-- The slice from the block's start on, L bytes long.
use Prim.Native.Nat.{◌+◌, ◌-◌}
use native.Mathlib.Omega.{arith}
use mathlib.Core.Path.{◌≡◌, ap}
use Rattle.octets.specs.Runs.{part}
use Rattle.paper.specs.RecordsIn.{head_size}
use Rattle.call_engine.proofs.message_in.Goals as goal

pub returns : goal.returns
returns c =
    let a = c.args in
    let size : head_size + a.l - head_size ≡ a.l = omega arith in
    ap (part a.r.now head_size) size
