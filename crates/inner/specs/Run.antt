-- The run over a capture: one call for each record, and how many of them were refused.
use Rattle.std.specs.Prelude.{ℕ, zero, suc, ◌+◌, ◌≤◌, ◌<◌, ◌≡◌, Bool, true, List, eqb, length, drop}
use Rattle.ledger.specs.Choice.{◌⇒◌∣◌}
use Rattle.ledger.specs.Tally.{one_if}
use Rattle.paper.specs.Base.{fresh}
use Rattle.paper.specs.RecordsIn.{record_size}
use Rattle.paper.specs.Room.{frame_room_size}
use Rattle.table_image.specs.Layout.{image_of, sound_image, image_size}
use Rattle.call_outcomes.specs.Leaving.{call_made, is_refused}

-- The number that a run gives, and the image that it leaves.
pub record Ran : Type 0 where
  pub number : ℕ
  pub image : List ℕ

abbrev pub ran : ℕ → List ℕ → Ran
ran n img = record { number = n; image = img }

-- How many bytes are read: the record, or all where its size is 0.
unfoldable pub passed : List ℕ → ℕ
passed bytes = eqb (record_size bytes) 0 ⇒ length bytes ∣ record_size bytes

-- A sound table, and as much room as any call needs.
pub record CallRoom (img room : List ℕ) : Type 0 where
  pub sound : sound_image img ≡ true
  pub roomy : length room ≡ frame_room_size

-- What one call leaves: its image, sound again, and whether it was refused.
pub record Called (img bytes img' : List ℕ) (refused : Bool) : Type 0 where
  pub image : img' ≡ (call_made img bytes).image
  pub sound : sound_image img' ≡ true
  pub told : refused ≡ is_refused (call_made img bytes)

-- How many bytes are read: some, and no more than there are.
pub record Passed (bytes : List ℕ) (n : ℕ) : Type 0 where
  pub is : n ≡ passed bytes
  pub some : 0 < n
  pub within : n ≤ length bytes

-- From an image and a count on. A call is lent all bytes not read yet, and reads a byte at least, so as many calls as there are
-- bytes suffice.
unfoldable pub run_from : ℕ → List ℕ → ℕ → List ℕ → Ran
run_from zero img n bytes = ran n img
run_from (suc calls) img n bytes =
    eqb (length bytes) 0 ⇒ ran n img
    ∣ run_from calls (call_made img bytes).image (n + one_if (is_refused (call_made img bytes))) (drop (passed bytes) bytes)

-- The number that says that the lent table has not the size of one.
abbrev no_table : ℕ
no_table = 18446744073709551615

-- The run, whole: from a fresh table.
unfoldable pub run_of : List ℕ → List ℕ → Ran
run_of img bytes = eqb (length img) image_size ⇒ run_from (length bytes) (image_of fresh) 0 bytes ∣ ran no_table img
