-- After k turns the first k numbers of the stream stand over dst from the place on.
use Rattle.std.proofs.Common.{◌<◌, length, add-one, arith}
use lib.Seq.{paste-suc}
use Rattle.paper.specs.Base.{waiting}
use Rattle.table_image.specs.Layout.{table_of}
use Rattle.table_numbers.proofs.copy_numbers.Goals as goal

pub loop-k-preserved : goal.loop-k-preserved
loop-k-preserved c =
    let l = c.loop-k in
    let a = c.args in
    let w = waiting (table_of a.table.image.now) a.i in
    let h : l.k < length w = omega arith in
    rw (c.number_at.ensures, l.invariant, add-one) (paste-suc a.dst.now a.at w l.k 0 (omega arith) h)
