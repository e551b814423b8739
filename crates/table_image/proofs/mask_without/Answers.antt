-- A bit that is set is cleared by taking its value away, which the mask is no less than.
use native.Mathlib.Omega.{arith}
use Rattle.table_image.proofs.Bits.{one_shl, set_le}
use Rattle.table_image.proofs.mask_without.Goals as goal

pub overflow_sub-result : goal.overflow_sub-result
overflow_sub-result c = omega (arith, one_shl c.args.i c.requires.within, set_le c.args.i c.args.m c.requires.told)

pub returns : goal.returns
returns c = omega (arith, one_shl c.args.i c.requires.within)
