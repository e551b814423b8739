-- The tail goes over the zeros right behind the fields.
use native.Mathlib.Omega.{arith}
use Prim.Native.Nat.{◌*◌}
use lib.ListN.{length}
use Rattle.octets.specs.Blocks.{flat}
use Rattle.octets.proofs.Blocks.{flat-length, pad-at}
use Rattle.octets.proofs.block_with.Goals as goal

pub returns : goal.returns
returns c =
    let a = c.args in
    let fields = a.fields.now in
    rw (c.put_bytes.ensures, c.block_of-block.ensures)
    (pad-at (flat fields) a.tail.now (length fields * 4) (flat-length fields) (omega arith))
