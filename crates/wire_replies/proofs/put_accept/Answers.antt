-- The correlation goes right behind the letter and the stream, so the three stand as the record has them.
use native.Mathlib.Omega.{arith}
use mathlib.Core.List.{[], ◌∷◌}
use Rattle.octets.specs.Numbers.{be32}
use Rattle.octets.proofs.Writing.{wrote_put}
use Rattle.wire_replies.proofs.put_accept.Goals as goal

pub returns : goal.returns
returns c =
    let a = c.args in
    wrote_put (97 ∷ a.s ∷ []) (be32 a.c.0) (omega arith) c.put_start-at.ensures c.put_number.ensures (omega arith)
