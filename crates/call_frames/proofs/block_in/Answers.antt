-- Both addresses are as long as their form says.
use native.Mathlib.Omega.{arith}
use Rattle.octets.proofs.Runs.{part-most}
use Rattle.paper.proofs.Tails.{form_most}
use Rattle.call_frames.proofs.block_in.Goals as goal

pub part_at-requires : goal.part_at-requires
part_at-requires c = omega (arith, c.length-length.ensures, form_most c.args.form)

pub part_at-requires-2 : goal.part_at-requires-2
part_at-requires-2 c =
    omega (arith, c.length-length.ensures, form_most c.args.form)

pub unitdata_block-requires : goal.unitdata_block-requires
unitdata_block-requires c =
    let r = c.args.r.now in
    let n = c.length-length.result in
    record {
      callable = rw (c.part_at.ensures, ← c.length-length.ensures) (part-most r 6 n);
      answerable = rw (c.part_at-2.ensures, ← c.length-length.ensures) (part-most r 14 n);
    }

pub returns : goal.returns
returns c = rw (c.unitdata_block.ensures, c.part_at-2.ensures, c.part_at.ensures, c.length-length.ensures)
