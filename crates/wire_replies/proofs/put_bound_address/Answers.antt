-- The test is the paper's: where the stream's state tells its binding the address is written, else nothing.
use native.Mathlib.Omega.{arith}
use mathlib.Core.Path.{refl, sym, ◌∙◌}
use Rattle.wire_replies.proofs.put_bound_address.Goals as goal

pub returns-then-is_told : goal.returns-then-is_told
returns-then-is_told c =
    rw (sym c.is_told.ensures ∙ c.if-is_told.true) c.put_address.ensures

pub returns : goal.returns
returns c = rw (sym c.is_told.ensures ∙ c.if-is_told.false) (record { few = omega arith; ends = refl; stands = refl })
