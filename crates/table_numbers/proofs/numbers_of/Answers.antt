-- The bytes of the slot from its count on go over all of the array.
use Rattle.std.proofs.Common.{◌≡◌, ◌+◌, length, replicate, arith}
use native.Mathlib.Nat.{add-sub_cancel_left}
use Rattle.paper.specs.Base.{waiting}
use Rattle.table_image.specs.Layout.{table_of, waiting_bytes, numbers_size}
use Rattle.table_numbers.proofs.Laws.{numbers-part, waiting-length}
use Rattle.octets.proofs.Runs.{paste-whole}
use Rattle.table_numbers.proofs.numbers_of.Goals as goal

pub returns : goal.returns
returns c =
    let a = c.args in
    let w = waiting (table_of a.table.image.now) a.i in
    let n : length (waiting_bytes w) ≡ 1 + numbers_size = waiting-length w (c.args.table.lent.shaped.eight a.i) in
    rw (c.put_bytes.ensures, add-sub_cancel_left, numbers-part a.table.image.now c.args.table.lent a.i c.requires)
    (paste-whole (replicate (1 + numbers_size) 0) (waiting_bytes w) (omega arith))
