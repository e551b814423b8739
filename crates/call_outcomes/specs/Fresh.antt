-- What making a fresh table leaves: a number and the bytes lent for the table.
use Rattle.std.specs.Prelude.{ℕ, List, length, eqb}
use Rattle.ledger.specs.Choice.{◌⇒◌∣◌}
use Rattle.paper.specs.Base.{fresh}
use Rattle.paper.specs.Refusals.{not_sound}
use Rattle.table_image.specs.Layout.{image_size, image_of}

pub record Made : Type 0 where
  pub number : ℕ
  pub image : List ℕ

abbrev pub made : ℕ → List ℕ → Made
made n img = record { number = n; image = img }

-- An image of another length than a table's is never sound.
unfoldable pub fresh_of : List ℕ → Made
fresh_of img = eqb (length img) image_size ⇒ made 0 (image_of fresh) ∣ made not_sound img
