-- The sum that stops at the largest number is that of the definition, on either side of its test.
use native.Mathlib.Omega.{arith}
use Prim.Native.Nat.{ℕ, ◌+◌}
use mathlib.Core.Path.{◌≡◌}
use lib.Dec.{eqb}
use borrow.Author.Tests.{eqb-true, eqb-false}
use Rattle.ledger.proofs.Tallies.{chosen}
use Rattle.fates_register.specs.Register.{one_more, most_count}
use Rattle.fates_register.proofs.one_more.Goals as goal

pub returns : goal.returns
unfolding one_more
returns c =
    let n = c.args.n in
    chosen (λ (r : ℕ). c.saturating_add.result ≡ r) (eqb n most_count) n (n + 1)
    (λ q. omega (arith, eqb-true n most_count q)) (λ q. omega (arith, eqb-false n most_count q))
