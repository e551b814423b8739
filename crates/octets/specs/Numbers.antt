-- Numbers in lists of bytes, the top byte first.
use Rattle.std.specs.Prelude.{ℕ, ◌≡◌, ◌+◌, ◌*◌, ◌/◌, ◌%◌, List, [], ◌∷◌, get_or, take, drop}
use Rattle.std.proofs.Common.{arith, ap, ◌∙◌}
use lib.Seq.{get_or-drop, get_or-take}

-- the number whose two bytes stand at a place; a byte past the end is 0
abbrev pub be16_at : List ℕ → ℕ → ℕ
be16_at s at = get_or s at 0 * 256 + get_or s (at + 1) 0

-- the number whose four bytes stand at a place
abbrev pub be32_at : List ℕ → ℕ → ℕ
be32_at s at = get_or s at 0 * 16777216 + get_or s (at + 1) 0 * 65536 + get_or s (at + 2) 0 * 256 + get_or s (at + 3) 0

-- the two bytes of a number; the top one is not reduced
abbrev pub be16 : ℕ → List ℕ
be16 v = v / 256 ∷ v % 256 ∷ []

-- the four bytes of a number
abbrev pub be32 : ℕ → List ℕ
be32 v = v / 16777216 ∷ v / 65536 % 256 ∷ v / 256 % 256 ∷ v % 256 ∷ []

-- ---- laws: a number is read at its place as from the bytes that begin there, and from so many bytes as from all

byte-dropped : (s : List ℕ) (k : ℕ) → get_or (drop k s) 0 0 ≡ get_or s k 0
byte-dropped s k = get_or-drop k s 0 0 ∙ ap (λ (j : ℕ). get_or s j 0) (omega arith)

pub be16-dropped : (s : List ℕ) (k : ℕ) → be16_at (drop k s) 0 ≡ be16_at s k
be16-dropped s k = omega (arith, byte-dropped s k, get_or-drop k s 1 0)

pub be16-taken : (s : List ℕ) → be16_at (take 2 s) 0 ≡ be16_at s 0
be16-taken s = omega (arith, get_or-take 2 s 0 0 (omega arith), get_or-take 2 s 1 0 (omega arith))

pub be32-dropped : (s : List ℕ) (k : ℕ) → be32_at (drop k s) 0 ≡ be32_at s k
be32-dropped s k = omega (arith, byte-dropped s k, get_or-drop k s 1 0, get_or-drop k s 2 0, get_or-drop k s 3 0)

pub be32-taken : (s : List ℕ) → be32_at (take 4 s) 0 ≡ be32_at s 0
be32-taken s =
    omega (
      arith,
      get_or-take 4 s 0 0 (omega arith),
      get_or-take 4 s 1 0 (omega arith),
      get_or-take 4 s 2 0 (omega arith),
      get_or-take 4 s 3 0 (omega arith),
    )
