-- After i turns the first i bytes of src stand over dst from the place on.
use Prim.Native.Nat.{ℕ}
use mathlib.Core.Path.{◌≡◌}
use mathlib.Core.List.{List}
use lib.ListN.{length}
use lib.Seq.{paste}
use Rattle.octets.proofs.put_bytes.Given as goal

-- the first i bytes of s stand over b₀
pub record Over (b₀ : List ℕ) (at : ℕ) (s b : List ℕ) (i : ℕ) : Type 0 where
  pub stands : b ≡ paste b₀ at s i
  pub long : length b ≡ length b₀

abbrev pub invariant-loop-i : goal.invariant-loop-i
invariant-loop-i l = Over l.initial.dst l.at l.src l.dst l.i
