-- What a writer wrote: bytes over a lent room, from a place on, and the place behind them.
use Rattle.std.specs.Prelude.{ℕ, ◌+◌, ◌≤◌, ◌≡◌, List, length}
use Rattle.octets.specs.Runs.{paste}

pub record Wrote (bytes : List ℕ) (at end : ℕ) (before after : List ℕ) : Type 0 where
  pub ends : end ≡ at + length bytes
  pub stands : after ≡ paste before at bytes

-- and they are no more than so many
pub record WroteMost (most : ℕ) (bytes : List ℕ) (at end : ℕ) (before after : List ℕ) : Type 0 where
  pub few : end ≤ at + most
  pub ends : end ≡ at + length bytes
  pub stands : after ≡ paste before at bytes
