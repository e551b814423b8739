-- The correlation goes right behind the letter and the stream, and the reason right behind the correlation.
use native.Mathlib.Omega.{arith}
use Prim.Native.Nat.{ℕ, ◌+◌}
use mathlib.Core.List.{List, [], ◌∷◌, ◌++◌}
use Rattle.octets.specs.Numbers.{be32}
use Rattle.octets.specs.Writing.{Wrote}
use Rattle.octets.proofs.Writing.{wrote_put}
use Rattle.wire_replies.proofs.put_disconnect.Goals as goal

pub returns : goal.returns
returns c =
    let a = c.args in
    let begun : List ℕ = 100 ∷ a.s ∷ [] in
    let so_far : Wrote (begun ++ be32 a.c.0) 0 (c.put_start-at.result + 4) a.room.now c.put_number.new.dst =
    wrote_put begun (be32 a.c.0) (omega arith) c.put_start-at.ensures c.put_number.ensures (omega arith) in
    wrote_put (begun ++ be32 a.c.0) (be32 a.reason) (omega arith) so_far c.put_number-2.ensures (omega arith)
