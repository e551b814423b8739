-- Runs of bytes in lists: a part, a run written over a list, and the tests of runs.
use Rattle.std.specs.Prelude.{ℕ, ◌+◌, ◌<◌, List, [], ◌∷◌, ◌++◌, Bool, true, false, ◌&&◌, length, get_or, take, drop, eqb, ltb}
use Rattle.ledger.specs.Tally.{all_of}

-- each number of a list is a byte
abbrev pub Bytes : List ℕ → Type 0
Bytes l = (k : ℕ) → get_or l k 0 < 256

-- as a test (what C lends always are bytes; a list may hold any numbers)
abbrev pub are_bytes : List ℕ → Bool
are_bytes l = all_of (λ (n : ℕ). ltb n 256) l

-- No place that is read stands farther on, though a message says with four bytes where its address begins: sums of places
-- never wrap.
abbrev pub farthest : ℕ
farthest = 8589934592

-- n bytes of a list from a place on
abbrev pub part : List ℕ → ℕ → ℕ → List ℕ
part l at n = take n (drop at l)

-- a list with another written over it from a place on
abbrev pub paste : List ℕ → ℕ → List ℕ → List ℕ
paste b at s = take at b ++ s ++ drop (at + length s) b

-- a room with bytes written over its start
abbrev pub over : List ℕ → List ℕ → List ℕ
over bs room = bs ++ drop (length bs) room

-- every byte is 0
abbrev pub all_zero : List ℕ → Bool
all_zero [] = true
all_zero (x ∷ l) = eqb x 0 && all_zero l

-- two runs have the same length and the same bytes
abbrev pub same_bytes : List ℕ → List ℕ → Bool
same_bytes [] [] = true
same_bytes [] (y ∷ b) = false
same_bytes (x ∷ a) [] = false
same_bytes (x ∷ a) (y ∷ b) = eqb x y && same_bytes a b
