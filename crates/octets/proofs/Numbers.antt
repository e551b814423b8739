-- Numbers and their bytes: each is read back from the other.
use Prim.Native.Nat.{ℕ, ◌+◌, ◌<◌, ◌*◌, ◌/◌, ◌%◌, ◌^◌}
use native.Mathlib.Omega.{arith}
use mathlib.Core.Path.{◌≡◌}
use mathlib.Core.List.{List, ◌++◌, [], ◌∷◌}
use Rattle.octets.specs.Numbers.{be16_at, be16, be32_at, be32}
use Rattle.octets.specs.Runs.{part, Bytes}
use Rattle.octets.proofs.Runs.{part_byte}

-- reading a number's bytes gives the number
pub be16_at-be16 : (v : ℕ) (r : List ℕ) → be16_at (be16 v ++ r) 0 ≡ v
be16_at-be16 v r = omega arith

pub be32_at-be32 : (v : ℕ) (r : List ℕ) → be32_at (be32 v ++ r) 0 ≡ v
be32_at-be32 v r = omega arith

-- a number in a part is one of the whole: of two bytes, of four, of the four that are the part
pub part-be16 : (c : List ℕ) (at n k m : ℕ) → k + 1 < n → at + k ≡ m → be16_at (part c at n) k ≡ be16_at c m
part-be16 c at n k m h e = omega (arith, part_byte c at n k m (omega arith) e, part_byte c at n (k + 1) (m + 1) h (omega arith))

pub part-be32 : (c : List ℕ) (at n k m : ℕ) → k + 3 < n → at + k ≡ m → be32_at (part c at n) k ≡ be32_at c m
part-be32 c at n k m h e =
    omega (
      arith,
      part_byte c at n k m (omega arith) e,
      part_byte c at n (k + 1) (m + 1) (omega arith) (omega arith),
      part_byte c at n (k + 2) (m + 2) (omega arith) (omega arith),
      part_byte c at n (k + 3) (m + 3) h (omega arith),
    )

-- a number read out of its four bytes alone
pub be32_at-part : (c : List ℕ) (at : ℕ) → be32_at (part c at 4) 0 ≡ be32_at c at
be32_at-part c at = part-be32 c at 4 0 at (omega arith) (omega arith)

-- the bytes of a number that was read are those that it was read from
pub be16_back : (a b : ℕ) → b < 256 → be16 (a * 256 + b) ≡ a ∷ b ∷ []
be16_back a b g =
    let x : (a * 256 + b) / 256 ≡ a = omega arith in
    let y : (a * 256 + b) % 256 ≡ b = omega arith in
    λ i. x i ∷ y i ∷ []

pub be32_back : (a b c d : ℕ) → b < 256 → c < 256 → d < 256 → be32 (a * 16777216 + b * 65536 + c * 256 + d) ≡ a ∷ b ∷ c ∷ d ∷ []
be32_back a b c d f g h =
    let v : ℕ = a * 16777216 + b * 65536 + c * 256 + d in
    let w : v / 16777216 ≡ a = omega arith in
    let x : v / 65536 % 256 ≡ b = omega arith in
    let y : v / 256 % 256 ≡ c = omega arith in
    let z : v % 256 ≡ d = omega arith in
    λ i. w i ∷ x i ∷ y i ∷ z i ∷ []

-- a number read from four bytes is one of four bytes
pub be32_at-small : (c : List ℕ) (j : ℕ) → Bytes c → be32_at c j < 2 ^ 32
be32_at-small c j b = omega (arith, b j, b (j + 1), b (j + 2), b (j + 3))
