-- What is still to come, on the bytes that are left, leads to the same end: a call more, or none where no byte is left.
use Prim.Native.Nat.{ℕ, ◌≤◌, ◌+◌}
use mathlib.Core.Path.{◌≡◌}
use mathlib.Core.Bool.{true}
use mathlib.Core.List.{List}
use lib.ListN.{length}
use Rattle.table_image.specs.Layout.{sound_image}
use Rattle.inner.specs.Run.{run_from}
use Rattle.inner.proofs.Laws.{Ahead}
use Rattle.inner.proofs.run.Given as goal

pub record Running (table₀ capture room₀ table rest room : List ℕ) (refused : ℕ) : Type 0 where
  pub few : refused + length rest ≤ length capture
  pub long : length table ≡ length table₀
  pub roomy : length room ≡ length room₀
  pub sound : sound_image table ≡ true
  pub ahead : Ahead rest table refused (run_from (length capture) table₀ 0 capture)

abbrev pub invariant-loop-rest : goal.invariant-loop-rest
invariant-loop-rest l = Running l.initial.table l.capture l.initial.room l.table l.rest l.room l.refused

abbrev pub decreases-loop-rest : goal.decreases-loop-rest
decreases-loop-rest l = length l.rest
