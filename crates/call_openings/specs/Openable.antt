-- What an opening asks of the table, and how much a close writes.
use Rattle.std.specs.Prelude.{ℕ, ◌*◌, ◌≡◌, false, List}
use Rattle.paper.specs.Base.{slot, closed}
use Rattle.paper.specs.Saps.{most_open}
use Rattle.paper.specs.RecordsOut.{disconnect_size}
use Rattle.table_image.specs.Layout.{table_of}
use Rattle.table_image.specs.Lent.{Lent}

-- a stream that is not open holds nothing
pub record Openable (img : List ℕ) : Type 0 where
  pub lent : Lent img
  pub shut : (i : ℕ) → (slot (table_of img) i).is_open ≡ false → slot (table_of img) i ≡ closed

-- a d for each of the most indications that can be open
abbrev pub most_goodbyes : ℕ
most_goodbyes = most_open * disconnect_size
