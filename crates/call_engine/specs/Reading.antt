-- What a record asks for, and what is lent with it.
use Rattle.std.specs.Prelude.{ℕ, ◌≤◌, ◌≡◌, Bool, true, false, List, length}
use Rattle.octets.specs.Blocks.{block_size}
use Rattle.paper.specs.RecordsIn.{message_size, input_of}
use Rattle.paper.specs.Room.{room_for}
use Rattle.paper.specs.declared.Input.{Input}
use Rattle.paper.specs.declared.Input.TheVariants as input
use Rattle.table_image.specs.Layout.{sound_image}

-- What comes to one stream, from its user or from the line, and what could not be read: not G, O and X, which touch PPAs and
-- openings, nor f, which comes to many.
abbrev pub is_to_stream : Input → Bool
is_to_stream input.Unreadable = true
is_to_stream input.Malformed = true
is_to_stream (input.AddPpa p) = false
is_to_stream input.Open = false
is_to_stream (input.Close i) = false
is_to_stream (input.Message i l n) = true
is_to_stream (input.CallArrives p sap) = true
is_to_stream (input.PeerAccepted i) = true
is_to_stream (input.PeerGone i reason) = true
is_to_stream (input.CallWithdrawn i n reason) = true
is_to_stream (input.PeerReset i reason) = true
is_to_stream (input.ResetConfirmed i) = true
is_to_stream (input.Frame f) = false

-- ---- what is asked of what is lent

-- the record of a message, whose L is no more than a block's
pub record Holds (l : ℕ) (r : List ℕ) : Type 0 where
  pub whole : message_size ≤ length r
  pub short : l ≤ block_size

-- a record that was read as q, and comes to a stream of a sound table
pub record ToStream (q : Input) (img r : List ℕ) : Type 0 where
  pub is_sound : sound_image img ≡ true
  pub read : input_of r ≡ q
  pub comes : is_to_stream q ≡ true

-- any record that was read as q, in room enough
pub record Servable (q : Input) (img r room : List ℕ) : Type 0 where
  pub is_sound : sound_image img ≡ true
  pub read : input_of r ≡ q
  pub roomy : room_for q ≤ length room
