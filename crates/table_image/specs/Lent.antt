-- What is lent to the functions that read a table where it lies, and to those that change it.
use Rattle.std.specs.Prelude.{ℕ, ◌<◌, ◌≡◌, true, List, length}
use Rattle.paper.specs.Base.{stream_total, most_ppas, mac_size, slot, closed, waiting}
use Rattle.table_image.specs.Layout.{image_size, table_of, image_of, bit}
use Rattle.table_image.specs.Shape.{Shaped}
use Rattle.paper.specs.Saps.{most_open}

-- bytes as long as an image,
pub record Held (img : List ℕ) : Type 0 where
  pub long : length img ≡ image_size

-- with one of its streams
pub record At (i : ℕ) (img : List ℕ) : Type 0 where
  pub within : i < stream_total
  pub held : Held img

-- the image of the table that they hold,
pub record Lent (img : List ℕ) : Type 0 where
  pub held : Held img
  pub same : image_of (table_of img) ≡ img
  pub shaped : Shaped (table_of img)

-- with one of its streams
pub record LentAt (i : ℕ) (img : List ℕ) : Type 0 where
  pub within : i < stream_total
  pub lent : Lent img

-- one that is closed,
pub record LentClosed (i : ℕ) (img : List ℕ) : Type 0 where
  pub at : LentAt i img
  pub shut : slot (table_of img) i ≡ closed

-- one that is open
pub record LentOpen (i : ℕ) (img : List ℕ) : Type 0 where
  pub at : LentAt i img
  pub opened : (slot (table_of img) i).is_open ≡ true

-- a place for one open number more
pub record NumberPlace (i : ℕ) (img : List ℕ) : Type 0 where
  pub at : LentAt i img
  pub place : length (waiting (table_of img) i) < most_open

-- a MAC, and a place for one PPA more
pub record LentMac (mac img : List ℕ) : Type 0 where
  pub lent : Lent img
  pub six : length mac ≡ mac_size

pub record PpaPlace (mac img : List ℕ) : Type 0 where
  pub given : LentMac mac img
  pub place : length (table_of img).ppas < most_ppas

-- bit i of a mask is b
pub record Masked (i m b : ℕ) : Type 0 where
  pub within : i < stream_total
  pub told : bit m i ≡ b
