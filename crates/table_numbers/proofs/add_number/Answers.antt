-- The slot is written with the stream's bytes and those with one number more.
use Rattle.std.proofs.Common.{[], ◌∷◌, ◌++◌, arith, length-append}
use Rattle.paper.specs.Base.{waiting}
use Rattle.table_image.specs.Layout.{table_of}
use Rattle.table_numbers.proofs.Laws.{numbers_stored}
use Rattle.table_numbers.proofs.add_number.Goals as goal

pub returns : goal.returns
returns c =
    let a = c.args in
    let w = waiting (table_of a.img.now) a.i in
    let n = a.n.0 ∷ [] in
    rw (c.put_slot.ensures, c.one_number_more-bytes.ensures)
    (numbers_stored a.img.now c.requires.at.lent a.i c.requires.at.within a.s (w ++ n) (omega (arith, length-append w n)))
