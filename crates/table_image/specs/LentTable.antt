-- The table in a lent image, and a stream of it that was read.
use Rattle.std.specs.Prelude.{ℕ, ◌<◌, ◌≡◌}
use Rattle.paper.specs.Base.{Table, stream, stream_total}
use Rattle.paper.specs.declared.Stream.{Stream}
use Rattle.table_image.specs.Layout.{table_of}
use Rattle.table_image.specs.declared.LentTable.{LentTable}

abbrev pub table_in : LentTable → Table
table_in t = table_of t.image.now

-- stream i of the table stands as s
pub record Loaded (s : Stream) (i : ℕ) (t : Table) : Type 0 where
  pub within : i < stream_total
  pub loaded : s ≡ stream t i
