-- A record's size fits 32 bits.
use native.Mathlib.Omega.{arith}
use Rattle.paper.proofs.Records.{record_most}
use Rattle.kungthevi.proofs.kungthevi_record_size.Goals as goal

pub overflow_cast-result : goal.overflow_cast-result
overflow_cast-result c = omega (arith, c.record_size.ensures, record_most c.args.bytes.now)
