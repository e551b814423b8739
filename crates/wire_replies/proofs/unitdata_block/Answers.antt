-- The two addresses fit the small array and start it, the six fields are those of UNITDATA_IND, and both go into the block.
use Prim.Native.Nat.{ℕ, ◌+◌, ◌-◌, ◌≤◌}
use native.Mathlib.Omega.{arith}
use mathlib.Core.Path.{◌≡◌, ap₂, ◌∙◌}
use mathlib.Core.List.{List, [], ◌∷◌, ◌++◌}
use lib.ListN.{length, take, replicate, length-append}
use Rattle.octets.specs.Blocks.{flat, pad}
use Rattle.octets.specs.Writing.{Wrote}
use Rattle.octets.proofs.Runs.{over_begins}
use Rattle.octets.proofs.Writing.{wrote-over}
use Rattle.paper.specs.Base.{most_address}
use Rattle.paper.specs.declared.Form.{Form}
use Rattle.paper.proofs.Tails.{form_most}
use Rattle.wire_replies.specs.Rooms.{Addressed}
use Rattle.wire_replies.proofs.unitdata_block.Goals as goal

-- two addresses are no longer than two of the longest
both_short : (form : Form) (called calling : List ℕ) → Addressed form called calling → length called + length calling ≤ most_address + most_address
both_short form called calling h = omega (arith, h.callable, h.answerable, form_most form)

-- and they start what they were written to
both_begin : (called calling l : List ℕ) {n : ℕ} {x : List ℕ} → Wrote (called ++ calling) 0 n l x → take (n - 0) x ≡ called ++ calling
both_begin called calling l {n} w = over_begins (called ++ calling) l (n - 0) (wrote-over (called ++ calling) w) (omega (arith, w.ends))

pub overflow_cast-size : goal.overflow_cast-size
overflow_cast-size c = omega (arith, c.length-size.ensures, form_most c.args.form)

pub put_addresses-end-requires : goal.put_addresses-end-requires
put_addresses-end-requires c =
    both_short c.args.form c.args.called.now c.args.calling.now c.requires

pub overflow_add-size : goal.overflow_add-size
overflow_add-size c =
    omega (arith, c.length-size.ensures, form_most c.args.form)

pub slice_bounds-block_with-end : goal.slice_bounds-block_with-end
slice_bounds-block_with-end c =
    let few = both_short c.args.form c.args.called.now c.args.calling.now c.requires in
    omega (arith, few, c.put_addresses-end.ensures.ends, length-append c.args.called.now c.args.calling.now)

pub block_with-requires : goal.block_with-requires
block_with-requires c =
    let called = c.args.called.now in
    let calling = c.args.calling.now in
    let few = both_short c.args.form called calling c.requires in
    rw (both_begin called calling (replicate (most_address + most_address) 0) c.put_addresses-end.ensures) (omega (arith, few, length-append called calling))

pub returns : goal.returns
returns c =
    let a = c.args in
    let called = a.called.now in
    let calling = a.calling.now in
    c.block_with.ensures
    ∙ ap₂ (λ (n : ℕ) (l : List ℕ). pad (flat (8 ∷ n ∷ 24 ∷ n ∷ (24 + n) ∷ 0 ∷ []) ++ l))
    c.length-size.ensures
    (both_begin called calling (replicate (most_address + most_address) 0) c.put_addresses-end.ensures)
