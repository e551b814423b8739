-- The six fields are those of BIND_ACK: the address is as long as the MAC and the SAP, and the count granted takes four bytes.
use Prim.Native.Nat.{ℕ, ◌+◌}
use mathlib.Core.Path.{ap₂}
use mathlib.Core.Bool.{true}
use mathlib.Core.List.{List, [], ◌∷◌, ◌++◌}
use Rattle.octets.specs.Blocks.{flat}
use Rattle.octets.proofs.Writing.{wrote-same}
use Rattle.paper.specs.Base.{mac_size}
use Rattle.paper.specs.Replies.{content_of}
use Rattle.paper.specs.RecordsOut.{message_bytes}
use Rattle.wire_replies.proofs.put_bound.Goals as goal

pub returns : goal.returns
unfolding content_of
returns c =
    let a = c.args in
    let fields : ℕ → ℕ → List ℕ = λ (n g : ℕ). 4 ∷ a.sap ∷ (mac_size + n) ∷ 24 ∷ g ∷ 0 ∷ [] in
    wrote-same
    (ap₂ (λ (n g : ℕ). message_bytes true a.s (flat (fields n g) ++ a.tail.now)) c.sap_length.ensures.is c.from-most.ensures)
    c.put_message.ensures
