-- "A refusal writes no record and changes no table": a call that is refused comes to nothing but its number, as each test of the call
-- answers with a number alone.
use Prim.Native.Nat.{ℕ, ◌<◌}
use mathlib.Core.Path.{◌≡◌}
use mathlib.Core.Bool.{true}
use mathlib.Core.List.{List}
use lib.Dec.{ltb}
use Rattle.paper.specs.Base.{Table}
use Rattle.paper.specs.Refusals.{refused}
use Rattle.paper.specs.Sound.{sound}
use Rattle.paper.specs.StateRows.{state_rows}
use Rattle.paper.specs.Step.{step}
use Rattle.promises.proofs.Orderly.{orderly}

pub refusal-is_all : (t : Table) (r : List ℕ) (room : ℕ) → ltb 0 (step t r room).refusal ≡ true → step t r room ≡ refused t (step t r room).refusal
refusal-is_all t r room = (orderly state_rows t r room).bare

-- and the number is one of the paper's, 16 at most,
pub refusal-small : (t : Table) (r : List ℕ) (room : ℕ) → (step t r room).refusal < 17
refusal-small t r room = (orderly state_rows t r room).small

-- which a sound table never gets.
pub sound-not-sixteen : (t : Table) (r : List ℕ) (room : ℕ) → sound t ≡ true → (step t r room).refusal < 16
sound-not-sixteen t r room = (orderly state_rows t r room).soundly
