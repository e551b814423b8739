-- The open numbers of all streams in a row, one stream's behind another's.
use Rattle.std.specs.Prelude.{◌≡◌, ℕ, ◌≤◌, List, length, take}
use Rattle.ledger.specs.Lists.{joined}
use Rattle.paper.specs.Base.{Slot, Table}
use Rattle.paper.specs.Correlations.{most_numbers}
use Rattle.table_image.specs.Lent.{Lent}

-- they are the first n of the row
pub record InRow (t : Table) (n : ℕ) (row : List ℕ) : Type 0 where
  pub few : n ≤ most_numbers
  pub first : take n row ≡ joined (λ (x : Slot). x.waiting) t.slots

-- room for all of them
pub record RowRoom (img row : List ℕ) : Type 0 where
  pub lent : Lent img
  pub wide : length row ≡ most_numbers
