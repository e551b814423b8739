-- The number goes over the first zeros.
use Rattle.paper.specs.Base.{waiting}
use Rattle.table_image.specs.Layout.{table_of}
use Rattle.table_numbers.proofs.Laws.{more_bytes}
use Rattle.table_numbers.proofs.one_number_more.Goals as goal

pub returns : goal.returns
returns c =
    let a = c.args in
    let w = waiting (table_of a.table.image.now) a.i in
    rw (c.put_number.ensures, c.numbers_of-bytes.ensures, c.count_at-count.ensures) (more_bytes w a.n c.requires.place)
