-- A number's digits are found from the last to the first: those still to come, and behind them those that stand from `from` on, are
-- its digits at every turn.
use Prim.Native.Nat.{ℕ, ◌<◌, ◌^◌}
use mathlib.Core.Path.{◌≡◌}
use mathlib.Core.List.{List, ◌++◌}
use lib.ListN.{length, drop}
use Rattle.text.specs.Digits.{digits, most_digits, decimal}
use Rattle.text.proofs.put_digits.Given as goal

pub record ToCome (n : ℕ) (b : List ℕ) (from rest : ℕ) : Type 0 where
  pub small : rest < 10 ^ from
  pub long : length b ≡ most_digits
  pub stand : digits from rest ++ drop from b ≡ decimal n

abbrev pub invariant-loop-from : goal.invariant-loop-from
invariant-loop-from l = ToCome l.n l.digits l.from l.rest
