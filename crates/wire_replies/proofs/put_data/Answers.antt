-- Length and data go right behind the letter and the stream, and are no longer than those of an M.
use native.Mathlib.Omega.{arith}
use mathlib.Core.List.{[], ◌∷◌}
use Rattle.octets.proofs.Writing.{wrote_put, wrote-most}
use Rattle.wire_replies.proofs.put_data.Goals as goal

pub returns : goal.returns
returns c =
    let a = c.args in
    wrote-most (omega arith)
    (wrote_put (77 ∷ a.s ∷ []) a.body.now (omega arith) c.put_start-at.ensures c.put_bytes.ensures (omega arith))
