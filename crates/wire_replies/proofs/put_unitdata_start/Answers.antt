-- The length of the form is at most eight, so it is one byte.
use Prim.Native.Nat.{ℕ}
use native.Mathlib.Omega.{arith}
use mathlib.Core.Path.{refl, ap, ◌∙◌}
use mathlib.Core.List.{[], ◌∷◌}
use Rattle.octets.specs.Runs.{paste}
use Rattle.paper.proofs.Tails.{form_most}
use Rattle.wire_replies.proofs.put_unitdata_start.Goals as goal

pub overflow_cast-size : goal.overflow_cast-size
overflow_cast-size c =
    omega (arith, c.length-size.ensures, form_most c.args.form)

pub returns : goal.returns
returns c =
    let a = c.args in
    record { ends = refl; stands = c.put_bytes.ensures ∙ ap (λ (n : ℕ). paste a.room.now 0 (117 ∷ a.s ∷ n ∷ [])) c.length-size.ensures }
