-- The block goes right behind the letter, the stream and L, and the M to the rest of the room, right behind the message.
use native.Mathlib.Omega.{arith}
use mathlib.Core.Path.{refl}
use Prim.Native.Nat.{ℕ}
use mathlib.Core.List.{List, [], ◌∷◌, ◌++◌}
use Rattle.octets.specs.Writing.{Wrote}
use Rattle.octets.proofs.Writing.{wrote_put, wrote-next, wrote-most, wrote_of}
use Rattle.paper.specs.RecordsIn.{message_size}
use Rattle.paper.specs.RecordsOut.{datum, bytes_of}
use Rattle.wire_replies.proofs.put_indication.Goals as goal

pub returns : goal.returns
returns c =
    let a = c.args in
    let start : List ℕ = 80 ∷ a.s ∷ a.size ∷ [] in
    let message : Wrote (start ++ a.block.now) 0 message_size a.room.now c.put_bytes-2.new.dst =
    wrote_put start a.block.now (omega arith) (record { ends = refl; stands = c.put_bytes.ensures }) c.put_bytes-2.ensures (omega arith) in
    wrote-most (omega (arith, c.put_data.ensures.few))
    (wrote-next (start ++ a.block.now) (bytes_of (datum a.s a.body.now)) message (wrote_of c.put_data.ensures))
