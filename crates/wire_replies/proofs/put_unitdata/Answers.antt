-- The address goes over the first of eight zeros, so they are the address and zeros past it, and they go right behind letter, stream and length.
use Prim.Native.Nat.{ℕ, ◌≤◌}
use native.Mathlib.Omega.{arith}
use mathlib.Core.Path.{◌≡◌, ap, ◌∙◌}
use mathlib.Core.List.{List, [], ◌∷◌, append-nil}
use lib.ListN.{length, replicate}
use Rattle.octets.specs.Runs.{paste}
use Rattle.octets.specs.Blocks.{pad_to}
use Rattle.octets.proofs.Blocks.{pad-more, pad-length}
use Rattle.octets.proofs.Writing.{wrote_put, wrote-most}
use Rattle.paper.specs.Base.{most_address, length_of}
use Rattle.paper.specs.declared.Form.{Form}
use Rattle.paper.proofs.Tails.{form_most}
use Rattle.wire_replies.specs.Rooms.{Sends}
use Rattle.wire_replies.proofs.put_unitdata.Goals as goal

-- an address of any form fits the field
in_field : (form : Form) (address room : List ℕ) → Sends form address room → length address ≤ most_address
in_field form address room h = omega (arith, h.short, form_most form)

-- over zeros
filled : (address : List ℕ) → length address ≤ most_address → paste (replicate most_address 0) 0 address ≡ pad_to most_address address
filled address h = simp append-nil at (pad-more [] [] address [] most_address 0 (omega arith) (omega arith))

pub put_bytes-requires : goal.put_bytes-requires
put_bytes-requires c =
    omega (arith, in_field c.args.form c.args.address.now c.args.room.now c.requires)

pub returns : goal.returns
returns c =
    let a = c.args in
    let address = a.address.now in
    let few = in_field a.form address a.room.now c.requires in
    let field : c.put_bytes.new.dst ≡ pad_to most_address address = c.put_bytes.ensures ∙ filled address few in
    wrote-most (omega arith)
    (wrote_put (117 ∷ a.s ∷ length_of a.form ∷ []) (pad_to most_address address) (omega arith) c.put_unitdata_start-at.ensures
    (c.put_bytes-2.ensures ∙ ap (paste c.put_unitdata_start-at.new.room c.put_unitdata_start-at.result) field)
    (omega (arith, c.put_unitdata_start-at.ensures.ends, pad-length most_address address few)))
