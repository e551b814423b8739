-- What the replay program prints of a call, and what that makes of a turn.
use Rattle.std.specs.Prelude.{ℕ, ◌+◌, ◌≡◌, Bool, true, List}
use Rattle.std.proofs.Common.{lit≤}
use Rattle.text.specs.Page.{shown, put, Put}
use Rattle.text.specs.declared.Page.{Page}
use Rattle.table_image.specs.Layout.{sound_image}
use Rattle.call_outcomes.specs.Leaving.{Left, call_made, is_refused}
use Rattle.replay_transcript.specs.Transcript.{call_text, call_text_size, title, totals}
use Rattle.turns.specs.Turns.{call_on, after_call, turn_after, after_turn, Fine, Whole}
use Rattle.turns.specs.Programs.{Teller}
use Rattle.turns.specs.declared.Turn.{Turn}
use Rattle.replay.specs.declared.Replay.{Replay}

abbrev pub printed : ℕ → Left → List ℕ
printed n l = call_text n l.number l.room

-- Its table is sound, and nothing is kept beside it.
abbrev pub replay_tells : Teller Replay
replay_tells = record {
  holds = λ table s. sound_image table ≡ true;
  kept = λ table bytes s. s;
  text = λ table bytes s n. printed n (call_made table bytes);
  refuses = λ table bytes. is_refused (call_made table bytes);
  most = call_text_size;
  fits = lit≤ tt;
  title = title;
  closing = λ s n m. totals n m;
}

-- The call of a turn has the next number.
abbrev text_on : List ℕ → List ℕ → Turn → List ℕ
text_on table input t = printed (t.calls + 1) (call_on table input t)

-- ---- what is left: after a call, after the call of a turn, after the turn, and after any turns

-- the table that the call leaves is sound again, its text is put, and whether it was refused is told
pub record Replayed (table bytes : List ℕ) (page : Page) (n : ℕ) (table' : List ℕ) (page' : Page) (refused : Bool) : Type 0 where
  pub image : table' ≡ (call_made table bytes).image
  pub sound : sound_image table' ≡ true
  pub wrote : Put call_text_size (printed n (call_made table bytes)) page page'
  pub told : refused ≡ is_refused (call_made table bytes)

pub record Called (table input : List ℕ) (page : Page) (t : Turn) (table' : List ℕ) (page' : Page) (r : Turn) : Type 0 where
  pub is : r ≡ after_call input (is_refused (call_on table input t)) t
  pub fine : Fine r
  pub prints : Whole page'
  pub image : table' ≡ (call_on table input t).image
  pub sound : sound_image table' ≡ true
  pub stands : shown page' ≡ put (shown page) (text_on table input t)
  pub same_reference : page'.bytes.ghost_name ≡ page.bytes.ghost_name

pub record Turned (table input : List ℕ) (page : Page) (t : Turn) (table' : List ℕ) (page' : Page) (r : Turn) : Type 0 where
  pub is : r ≡ turn_after input (is_refused (call_on table input t)) t
  pub fine : Fine r
  pub prints : Whole page'
  pub image : table' ≡ after_turn t table (call_on table input t).image
  pub sound : sound_image table' ≡ true
  pub stands : shown page' ≡ after_turn t (shown page) (put (shown page) (text_on table input t))
  pub same_reference : page'.bytes.ghost_name ≡ page.bytes.ghost_name

pub record Kept (table : List ℕ) (page : Page) (t : Turn) : Type 0 where
  pub fine : Fine t
  pub prints : Whole page
  pub sound : sound_image table ≡ true
