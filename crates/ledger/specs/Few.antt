-- A number that is another, and no more than so many.
use Rattle.std.specs.Prelude.{ℕ, ◌≤◌, ◌≡◌}

pub record Few (most n r : ℕ) : Type 0 where
  pub is : r ≡ n
  pub few : r ≤ most
