-- Calling goes right behind called.
use native.Mathlib.Omega.{arith}
use mathlib.Core.Path.{refl}
use lib.ListN.{length}
use Rattle.octets.specs.Writing.{Wrote}
use Rattle.octets.proofs.Writing.{wrote_put}
use Rattle.wire_replies.proofs.put_addresses.Goals as goal

pub returns : goal.returns
returns c =
    let a = c.args in
    let begun : Wrote a.called.now 0 (length a.called.now) a.room.now c.put_bytes.new.dst =
    record { ends = omega arith; stands = c.put_bytes.ensures } in
    wrote_put a.called.now a.calling.now (omega arith) begun c.put_bytes-2.ensures refl
