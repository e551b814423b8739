-- What stands around the number is joined, and zeros stay behind it.
use Rattle.std.proofs.Common.{◌≡◌, ◌+◌, length, arith, length-take, rules}
use Rattle.paper.specs.Base.{waiting}
use Rattle.table_image.specs.Layout.{table_of, numbers_size}
use Rattle.table_numbers.proofs.Laws.{less-bytes, placed-few}
use Rattle.table_numbers.proofs.one_number_less.Goals as goal

pub slice_bounds-put_bytes-end : goal.slice_bounds-put_bytes-end
slice_bounds-put_bytes-end c = let h = placed-few _ c.args.table.lent c.args.i c.args.k c.requires.placed in search rules

pub put_bytes-requires : goal.put_bytes-requires
put_bytes-requires c = let h = placed-few _ c.args.table.lent c.args.i c.args.k c.requires.placed in simp length-take (omega arith)

pub slice_bounds-put_bytes-count-2 : goal.slice_bounds-put_bytes-count-2
slice_bounds-put_bytes-count-2 c =
    omega (arith, placed-few _ c.args.table.lent c.args.i c.args.k c.requires.placed)

pub slice_bounds-put_bytes-start-2 : goal.slice_bounds-put_bytes-start-2
slice_bounds-put_bytes-start-2 c =
    let h = placed-few _ c.args.table.lent c.args.i c.args.k c.requires.placed in search rules

pub put_bytes-requires-2 : goal.put_bytes-requires-2
put_bytes-requires-2 c =
    let h = placed-few _ c.args.table.lent c.args.i c.args.k c.requires.placed in
    let n : length c.put_bytes.new.dst ≡ 1 + numbers_size = search rules in
    simp length-take (omega arith)

pub returns : goal.returns
returns c =
    let a = c.args in
    let w = waiting (table_of a.table.image.now) a.i in
    rw (c.put_bytes-2.ensures, c.put_bytes.ensures, c.numbers_of-old.ensures, c.count_at-count.ensures)
    (less-bytes w a.k c.requires.placed (c.args.table.lent.shaped.eight a.i))
