-- What holds between two calls of fates: its table and its register are those of a harness, of what it holds and what it heard.
use Rattle.std.specs.Prelude.{ℕ, ◌≡◌, List, take}
use Rattle.call_outcomes.specs.Leaving.{Left, token_in, written_in}
use Rattle.fates_book.specs.declared.Line.{Line}
use Rattle.fates_book.specs.Lines.{lines_of}
use Rattle.fates_register.specs.Register.{blank, entered_all}
use Rattle.promises.specs.History.{lines}
use Rattle.promises.specs.Harness.{Harness, image_in, heard_in}

pub record Told (img register : List ℕ) : Type 0 where
  pub harness : Harness
  pub table : img ≡ image_in harness
  pub entered : register ≡ entered_all (lines (heard_in harness)) blank

-- what a call says: of the record lent, the token and the bytes written
abbrev pub lines_by : List ℕ → Left → List Line
lines_by r l = lines_of r (token_in l.number) (take (written_in l.number) l.room)
