-- The turns of a program that reads records on its input and prints a text for each call: what a call makes of them, and
-- what holds between two.
use Rattle.std.specs.Prelude.{ℕ, ◌+◌, ◌-◌, ◌≤◌, ◌<◌, ◌≡◌, Bool, true, false, not, List, [], ◌++◌, eqb, ltb, length, take}
use Rattle.ledger.specs.Choice.{both, either, ◌⇒◌∣◌}
use Rattle.ledger.specs.Tally.{one_if}
use Rattle.octets.specs.Runs.{part}
use Rattle.text.specs.Page.{Shown, shown}
use Rattle.text.specs.declared.Page.{Page}
use Rattle.paper.specs.RecordsIn.{pair_size, record_size}
use Rattle.call_outcomes.specs.Leaving.{Left, call_made}
use Rattle.turns.specs.declared.Turn.{Turn}

-- a buffer of the program
abbrev pub buffer_size : ℕ
buffer_size = 163840

-- what may wait to be written while a call is made: the text of a call has room behind it
abbrev pub most_waiting : ℕ
most_waiting = 45000

-- what any text has room for
abbrev pub most_text : ℕ
most_text = 118840

-- 64 bits count no more
abbrev pub most_calls : ℕ
most_calls = 18446744073709551615

-- Nothing is read and nothing counted.
abbrev pub first_turn : Turn
first_turn = record {
  start = 0;
  end = 0;
  ended = false;
  calls = 0;
  refused = 0;
  going = true;
}

-- the bytes of the input that are not read yet
abbrev pub unread : List ℕ → Turn → List ℕ
unread input t = part input t.start (t.end - t.start)

-- ---- a turn, once there is input and room for output

-- The call is lent what is not read yet.
abbrev pub call_on : List ℕ → List ℕ → Turn → Left
call_on table input t = call_made table (unread input t)

-- A record may be cut, and more bytes may come.
abbrev pub waits : Turn → Bool
waits t = both (ltb (t.end - t.start) pair_size) (not t.ended)

-- No bytes are left, or no numbers to count calls with.
abbrev pub is_over : Turn → Bool
is_over t = either (eqb (t.end - t.start) 0) (eqb t.calls most_calls)

abbrev pub stopping : Turn → Turn
stopping t = record {
  start = t.start;
  end = t.end;
  ended = t.ended;
  calls = t.calls;
  refused = t.refused;
  going = false;
}

-- The call is counted. Reading goes on behind the record, or ends there.
abbrev pub after_call : List ℕ → Bool → Turn → Turn
after_call input refused t = record {
  start = t.start + record_size (unread input t);
  end = t.end;
  ended = t.ended;
  calls = t.calls + 1;
  refused = t.refused + one_if refused;
  going = ltb 0 (record_size (unread input t));
}

-- A turn with a call, or without one.
unfoldable pub turn_after : List ℕ → Bool → Turn → Turn
turn_after input refused t = waits t ⇒ t ∣ is_over t ⇒ stopping t ∣ after_call input refused t

-- What only a call changes stays as it was in a turn without one: the table, what is printed, what is kept of the calls.
unfoldable pub after_turn : {A : Type 0} → Turn → A → A → A
after_turn t before after = waits t ⇒ before ∣ is_over t ⇒ before ∣ after

-- ---- what holds between two turns: where the program stands in its input, and the page that it prints on

pub record Fine (t : Turn) : Type 0 where
  pub order : t.start ≤ t.end
  pub within : t.end ≤ buffer_size
  pub counted : t.refused ≤ t.calls

-- a page over a buffer
abbrev pub Whole : Page → Type 0
Whole p = length (shown p).text + length (shown p).spare ≡ buffer_size

-- a turn that is this one
pub record FineAs (t r : Turn) : Type 0 where
  pub is : r ≡ t
  pub fine : Fine r

-- a buffer, and where the program stands in it
pub record Buffer (bytes : List ℕ) (t : Turn) : Type 0 where
  pub long : length bytes ≡ buffer_size
  pub fine : Fine t

-- the input, and a number for one call more
pub record CallMade (input : List ℕ) (t : Turn) : Type 0 where
  pub long : length input ≡ buffer_size
  pub fine : Fine t
  pub numbered : t.calls < most_calls

-- some bytes of a buffer, no more than the longest record has with its data
pub record Rest (n from : ℕ) (buffer : List ℕ) : Type 0 where
  pub few : n ≤ pair_size
  pub within : from + n ≤ length buffer

-- ---- reading on and writing out

-- Reading on loses nothing: what was not read yet stands before what came.
pub record Fed (input : List ℕ) (t : Turn) (input' : List ℕ) (t' : Turn) : Type 0 where
  pub fine : Fine t'
  pub kept : take (t.end - t.start) (unread input' t') ≡ unread input t
  pub calls : t'.calls ≡ t.calls
  pub refused : t'.refused ≡ t.refused

-- a page with room for what a call prints
pub record Roomy (p : Page) : Type 0 where
  pub whole : Whole p
  pub fits : length (shown p).text ≤ most_waiting

-- What is printed goes where little room is left, and stays where there is more. Its bytes stay in either case.
unfoldable pub written_out : Shown → Shown
written_out p = ltb most_waiting (length p.text) ⇒ record { text = []; spare = p.text ++ p.spare } ∣ p

-- Writing out makes room for what a call prints, over the same lent bytes, and changes none of them.
pub record Drained (before after : Page) : Type 0 where
  pub roomy : Roomy after
  pub is : shown after ≡ written_out (shown before)
  pub same_bytes : (shown after).text ++ (shown after).spare ≡ (shown before).text ++ (shown before).spare
  pub same_reference : after.bytes.ghost_name ≡ before.bytes.ghost_name
