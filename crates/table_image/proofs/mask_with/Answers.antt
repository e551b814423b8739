-- A bit that is not set is set by adding its value, and 16 bits still hold it.
use native.Mathlib.Omega.{arith}
use Rattle.table_image.proofs.Bits.{one_shl, raise_fits}
use Rattle.table_image.proofs.mask_with.Goals as goal

pub overflow_add-result : goal.overflow_add-result
overflow_add-result c = omega (arith, one_shl c.args.i c.requires.within, raise_fits c.args.i 16 c.args.m c.requires.within (omega arith) c.requires.told)

pub returns : goal.returns
returns c = omega (arith, one_shl c.args.i c.requires.within)
