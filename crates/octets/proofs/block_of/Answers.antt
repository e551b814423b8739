-- One field more goes over the zeros right behind those that stand there.
use Rattle.std.proofs.Common.{rules, arith}
use Rattle.octets.proofs.Blocks.{flat-more}
use Rattle.octets.proofs.block_of.Goals as goal

pub loop-i-preserved : goal.loop-i-preserved
loop-i-preserved c = rw (c.put_number.ensures, c.loop-i.invariant) (flat-more c.args.fields.now c.loop-i.i (search rules) (omega arith))
