-- 'Correlation numbers': the counter stands one past a number, and wraps at four bytes, since it counts modulo 2^32.
use Prim.Native.Nat.{ℕ, ◌+◌, ◌<◌}
use native.Mathlib.Omega.{arith}
use mathlib.Core.Path.{◌≡◌, refl}
use Rattle.paper.specs.Correlations.{one_past}

pub one_past_lem : (n : ℕ) → n < 4294967295 → one_past n ≡ n + 1
one_past_lem n h = omega arith

pub wraps : one_past 4294967295 ≡ 0
wraps = refl
