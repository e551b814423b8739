-- A place that is passed is not the one, so the places left to look at give the answer of all.
use Prim.Native.Nat.{ℕ, ◌+◌, ◌*◌}
use mathlib.Core.Bool.{Bool}
use mathlib.Core.List.{List}
use mathlib.Core.Path.{◌≡◌}
use Rattle.fates_register.specs.Register.{first_from, first_place, places_end, Tells}
use Rattle.fates_register.proofs.first_place.Given as goal

pub record ToLook (answers : ℕ → ℕ → Bool → Type 0) (i : ℕ) (register : List ℕ) (c : ℕ) : Type 0 where
  pub left : ℕ
  pub stands : c + left * 2 ≡ places_end i
  pub same : (test : ℕ → ℕ → Bool) → Tells answers test → first_place test i register ≡ first_from test left c register

abbrev pub invariant-loop-c : goal.invariant-loop-c
invariant-loop-c g l = ToLook (goal.F-post g l.is_it) l.i l.register l.c
