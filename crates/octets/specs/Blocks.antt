-- Blocks of 96 bytes: fields of four bytes each, other bytes behind them, then zeros.
use Rattle.std.specs.Prelude.{ℕ, ◌-◌, List, ◌++◌, length, replicate}
use Rattle.octets.specs.Numbers.{be32}
use Rattle.ledger.specs.Lists.{joined}

-- numbers, each as four bytes
abbrev pub flat : List ℕ → List ℕ
flat ws = joined be32 ws

-- bytes, then zeros up to n
abbrev pub pad_to : ℕ → List ℕ → List ℕ
pad_to n l = l ++ replicate (n - length l) 0

-- a block
abbrev pub block_size : ℕ
block_size = 96

abbrev pub pad : List ℕ → List ℕ
pad l = pad_to block_size l
