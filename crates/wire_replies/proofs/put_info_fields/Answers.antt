-- The nineteen fields are the code and those of INFO_ACK, where state and mode, a byte each, take four bytes.
use Prim.Native.Nat.{ℕ}
use mathlib.Core.Path.{ap₂}
use mathlib.Core.Bool.{true}
use mathlib.Core.List.{List, ◌∷◌, ◌++◌}
use Rattle.octets.specs.Blocks.{flat}
use Rattle.octets.proofs.Writing.{wrote-same}
use Rattle.paper.specs.Replies.{info_fields}
use Rattle.paper.specs.RecordsOut.{message_bytes}
use Rattle.wire_replies.proofs.put_info_fields.Goals as goal

pub returns : goal.returns
returns c =
    let a = c.args in
    let fields : ℕ → ℕ → List ℕ = λ (q m : ℕ). 3 ∷ info_fields q a.address a.sap m a.offset in
    wrote-same
    (ap₂ (λ (q m : ℕ). message_bytes true a.s (flat (fields q m) ++ a.tail.now)) c.from-q.ensures c.from-m.ensures)
    c.put_message.ensures
