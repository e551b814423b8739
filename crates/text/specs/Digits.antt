-- Text: digits, numbers in decimal, bytes in hex.
use Rattle.std.specs.Prelude.{ℕ, zero, suc, ◌+◌, ◌/◌, ◌%◌, ◌<◌, ◌≡◌, List, [], ◌∷◌, ◌++◌, ltb, length, drop}
use Rattle.ledger.specs.Choice.{pick}

-- a digit below 16, in small letters
abbrev pub digit : ℕ → ℕ
digit d = pick (ltb d 10) (48 + d) (87 + d)

-- the digits of a number that has at most k
unfoldable pub digits : ℕ → ℕ → List ℕ
digits zero n = []
digits (suc k) n = pick (ltb n 10) ((48 + n) ∷ []) (digits k (n / 10) ++ ((48 + n % 10) ∷ []))

-- 64 bits have no more
abbrev pub most_digits : ℕ
most_digits = 20

-- a number in decimal
unfoldable pub decimal : ℕ → List ℕ
decimal n = digits most_digits n

-- a buffer for the digits of a number has them at its end, and one at least
pub record DigitsFrom (n from : ℕ) (buffer : List ℕ) : Type 0 where
  pub some : from < most_digits
  pub long : length buffer ≡ most_digits
  pub stand : drop from buffer ≡ decimal n

-- bytes in hex
abbrev pub hex : List ℕ → List ℕ
hex [] = []
hex (b ∷ l) = digit (b / 16) ∷ digit (b % 16) ∷ hex l
