-- A message that has its code, and no more bytes than a block.
use Rattle.std.specs.Prelude.{ℕ, ◌≤◌, List, length}
use Rattle.octets.specs.Blocks.{block_size}

pub record Whole (m : List ℕ) : Type 0 where
  pub coded : 4 ≤ length m
  pub short : length m ≤ block_size
