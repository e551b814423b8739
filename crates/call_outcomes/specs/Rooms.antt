-- What is lent to a call's writers: the table, and room for what they write.
use Rattle.std.specs.Prelude.{ℕ, ◌≤◌, List, length}
use Rattle.paper.specs.Room.{room_size}
use Rattle.table_image.specs.Lent.{Lent}

-- as much room as a call needs
pub record LentCall (img room : List ℕ) : Type 0 where
  pub lent : Lent img
  pub roomy : room_size ≤ length room
