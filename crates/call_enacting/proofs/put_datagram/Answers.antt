-- The M is written right behind the order, and both are parts of the record lent.
use Prim.Native.Nat.{ℕ, ◌+◌}
use native.Mathlib.Omega.{arith}
use mathlib.Core.Path.{◌≡◌, ap, ap₂, ◌∙◌}
use mathlib.Core.List.{List, ◌++◌}
use Rattle.octets.specs.Blocks.{pad_to}
use Rattle.octets.specs.Runs.{part}
use Rattle.octets.proofs.Runs.{part-most}
use Rattle.octets.proofs.Writing.{wrote-next, wrote-most, wrote_of, wrote-same}
use Rattle.paper.specs.Base.{most_address, length_of}
use Rattle.paper.specs.RecordsIn.{message_size, body_size, block_in, data_in}
use Rattle.paper.specs.RecordsOut.{Record, order, datum, bytes_of}
use Rattle.paper.specs.declared.LineOrder.TheVariants as line_order
use Rattle.paper.proofs.RecordsOut.{two_records}
use borrow.Author.Rules.{rules}
use Rattle.call_enacting.proofs.put_datagram.Goals as goal

pub put_unitdata-a-requires : goal.put_unitdata-a-requires
put_unitdata-a-requires c =
    let a = c.args in
    record { short = rw c.address_in-address.ensures (part-most c.block_in.result.now a.at (length_of a.form)); roomy = search rules }

pub put_data-requires : goal.put_data-requires
put_data-requires c =
    let a = c.args in
    record { short = rw c.part_at.ensures (part-most a.r.now (message_size + 2) body_size); roomy = search rules }

pub returns : goal.returns
returns c =
    let a = c.args in
    let o : List ℕ → List ℕ = λ address. bytes_of (order a.s (line_order.Unitdata a.at a.form) (pad_to most_address address)) in
    let d : List ℕ → List ℕ = λ body. bytes_of (datum a.s body) in
    let address : List ℕ = part (block_in a.r.now) a.at (length_of a.form) in
    let found : c.address_in-address.result.now ≡ address = c.address_in-address.ensures ∙ ap (λ (b : List ℕ). part b a.at (length_of a.form)) c.block_in.ensures in
    let u : Record = order a.s (line_order.Unitdata a.at a.form) (pad_to most_address address) in
    wrote-same (ap₂ (λ (x y : List ℕ). o x ++ d y) found c.part_at.ensures ∙ two_records u (datum a.s (data_in a.r.now)))
    (wrote-most (omega (arith, c.put_unitdata-a.ensures.few, c.put_data.ensures.few))
    (wrote-next (o c.address_in-address.result.now) (d c.part_at.result.now) (wrote_of c.put_unitdata-a.ensures) (wrote_of c.put_data.ensures)))
