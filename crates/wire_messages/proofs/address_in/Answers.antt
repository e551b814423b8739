-- The part is as long as the form says, which is at most eight bytes.
use native.Mathlib.Omega.{arith}
use Rattle.paper.proofs.Tails.{form_most}
use Rattle.wire_messages.proofs.address_in.Goals as goal

pub part_at-requires : goal.part_at-requires
part_at-requires c = omega (arith, c.length.ensures, form_most c.args.form)

pub returns : goal.returns
returns c = rw (← c.length.ensures) c.part_at.ensures
