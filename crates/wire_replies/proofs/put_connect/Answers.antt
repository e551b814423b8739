-- The called address goes right behind the letter and the stream, and is no longer than an address.
use native.Mathlib.Omega.{arith}
use mathlib.Core.List.{[], ◌∷◌}
use Rattle.octets.proofs.Writing.{wrote_put, wrote-most}
use Rattle.wire_replies.proofs.put_connect.Goals as goal

pub returns : goal.returns
returns c =
    let a = c.args in
    wrote-most (omega arith)
    (wrote_put (99 ∷ a.s ∷ []) a.called.now (omega arith) c.put_start-at.ensures c.put_bytes.ensures (omega arith))
