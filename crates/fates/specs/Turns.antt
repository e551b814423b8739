-- What a turn of fates tells: the lines of its call and their text, and what it leaves.
use Rattle.std.specs.Prelude.{ℕ, ◌≡◌, false, List}
use Rattle.std.proofs.Common.{lit≤}
use Rattle.text.specs.Page.{shown, put, Put}
use Rattle.text.specs.declared.Page.{Page}
use Rattle.call_outcomes.specs.Leaving.{call_made}
use Rattle.fates_book.specs.declared.Line.{Line}
use Rattle.fates_register.specs.Register.{entered_all}
use Rattle.fates_report.specs.Report.{all_text, told_size, heading, closing}
use Rattle.turns.specs.Turns.{unread, call_on, after_call, turn_after, after_turn, Fine, Whole}
use Rattle.turns.specs.Programs.{Teller}
use Rattle.turns.specs.declared.Turn.{Turn}
use Rattle.fates.specs.Told.{Told, lines_by}
use Rattle.fates.specs.declared.Fates.{Fates}

-- Its table and its register are of what was heard, and the lines of a call are entered. Refused calls are not counted.
abbrev pub fates_tell : Teller Fates
fates_tell = record {
  holds = λ table s. Told table s.register;
  kept = λ table bytes s. record { register = entered_all (lines_by bytes (call_made table bytes)) s.register };
  text = λ table bytes s n. all_text (lines_by bytes (call_made table bytes)) s.register;
  refuses = λ table bytes. false;
  most = told_size;
  fits = lit≤ tt;
  title = heading;
  closing = λ s n m. closing s.register;
}

abbrev lines_on : List ℕ → List ℕ → Turn → List Line
lines_on table input t = lines_by (unread input t) (call_on table input t)

-- by the register as it was before the call
abbrev text_on : List ℕ → List ℕ → List ℕ → Turn → List ℕ
text_on table register input t = all_text (lines_on table input t) register

-- ---- what is left: after a call, after the call of a turn, after the turn, and after any turns

-- the lines of the call are entered, and their text is put
pub record CallTold (table register bytes : List ℕ) (page : Page) (table' register' : List ℕ) (page' : Page) : Type 0 where
  pub told : Told table' register'
  pub image : table' ≡ (call_made table bytes).image
  pub entered : register' ≡ entered_all (lines_by bytes (call_made table bytes)) register
  pub wrote : Put told_size (all_text (lines_by bytes (call_made table bytes)) register) page page'

-- Refused calls are not counted.
pub record Called (table register input : List ℕ) (page : Page) (t : Turn) (table' register' : List ℕ) (page' : Page) (r : Turn) : Type 0 where
  pub is : r ≡ after_call input false t
  pub fine : Fine r
  pub prints : Whole page'
  pub told : Told table' register'
  pub image : table' ≡ (call_on table input t).image
  pub entered : register' ≡ entered_all (lines_on table input t) register
  pub stands : shown page' ≡ put (shown page) (text_on table register input t)
  pub same_reference : page'.bytes.ghost_name ≡ page.bytes.ghost_name

pub record Turned (table register input : List ℕ) (page : Page) (t : Turn) (table' register' : List ℕ) (page' : Page) (r : Turn) : Type 0 where
  pub is : r ≡ turn_after input false t
  pub fine : Fine r
  pub prints : Whole page'
  pub told : Told table' register'
  pub image : table' ≡ after_turn t table (call_on table input t).image
  pub entered : register' ≡ after_turn t register (entered_all (lines_on table input t) register)
  pub stands : shown page' ≡ after_turn t (shown page) (put (shown page) (text_on table register input t))
  pub same_reference : page'.bytes.ghost_name ≡ page.bytes.ghost_name

pub record Kept (table register : List ℕ) (page : Page) (t : Turn) : Type 0 where
  pub fine : Fine t
  pub prints : Whole page
  pub told : Told table register
