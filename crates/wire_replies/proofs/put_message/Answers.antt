-- The block goes right behind the letter, the stream and L, and L is how long the fields and the bytes behind them are.
use Prim.Native.Nat.{ℕ}
use native.Mathlib.Omega.{arith}
use mathlib.Core.Path.{◌≡◌, refl, sym, ap, ◌∙◌}
use mathlib.Core.List.{List, [], ◌∷◌, ◌++◌}
use lib.ListN.{length}
use Rattle.octets.specs.Runs.{paste}
use Rattle.octets.specs.Blocks.{flat, block_size, pad}
use Rattle.octets.specs.Writing.{Wrote}
use Rattle.octets.proofs.Writing.{wrote_put, wrote-most}
use Rattle.octets.proofs.Blocks.{content_length, pad-length}
use Rattle.paper.specs.RecordsIn.{head_size}
use Rattle.wire_replies.proofs.put_message.Goals as goal

pub returns : goal.returns
returns c =
    let filled = c.block_with in
    let a = c.args in
    let fields = a.fields.now in
    let tail = a.tail.now in
    let content = flat fields ++ tail in
    let long = content_length fields tail in
    let start : List ℕ = a.letter ∷ a.s ∷ length content ∷ [] in
    let begun : Wrote start 0 head_size a.room.now c.put_bytes.new.dst =
    record { ends = refl; stands = c.put_bytes.ensures ∙ ap (λ (n : ℕ). paste a.room.now 0 (a.letter ∷ a.s ∷ n ∷ [])) (sym long) } in
    let size : length (pad content) ≡ block_size = pad-length block_size content (omega (arith, long)) in
    wrote-most (omega arith)
    (wrote_put start (pad content) (omega arith) begun (c.put_bytes-2.ensures ∙ ap (paste c.put_bytes.new.dst head_size) filled.ensures) (omega arith))
