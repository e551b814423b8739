-- A stream has a place for an open indication that it takes.
use Rattle.std.specs.Prelude.{◌≡◌, ℕ, ◌<◌, true, List, length}
use Rattle.paper.specs.Base.{waiting}
use Rattle.paper.specs.Saps.{most_open}
use Rattle.paper.specs.declared.Change.{Change}
use Rattle.table_image.specs.Layout.{table_of}
use Rattle.table_image.specs.Lent.{LentAt}
use Rattle.call_outcomes.specs.Takes.{takes}

pub record Changes (change : Change) (i : ℕ) (img : List ℕ) : Type 0 where
  pub at : LentAt i img
  pub place : takes change ≡ true → length (waiting (table_of img) i) < most_open
