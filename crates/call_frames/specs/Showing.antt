-- What is written of a frame, and what is asked of what is lent with it.
use Rattle.std.specs.Prelude.{ℕ, ◌*◌, ◌<◌, ◌≤◌, ◌≡◌, List, [], ◌∷◌, ◌++◌, length}
use Rattle.ledger.specs.Choice.{pick}
use Rattle.octets.specs.Blocks.{flat, pad}
use Rattle.paper.specs.Base.{stream_total, Table, slot}
use Rattle.paper.specs.RecordsIn.{pair_size, size_of, frame_called_in, frame_calling_in}
use Rattle.paper.specs.Datagrams.{is_shown}
use Rattle.paper.specs.Replies.{unitdata_fields}
use Rattle.paper.specs.Room.{frame_room_size}
use Rattle.paper.specs.StateRows.{state_rows}
use Rattle.paper.specs.declared.Form.{Form}
use Rattle.paper.specs.declared.Frame.{Frame}
use Rattle.paper.specs.declared.Kind.TheVariants as kind

-- the stream, where the frame is shown to it
abbrev pub if_shown : Table → Frame → ℕ → List ℕ
if_shown t f i = pick (is_shown state_rows f (slot t i)) (i ∷ []) []

-- the block of an indication, which is the same for all streams
abbrev pub block_of : List ℕ → Form → List ℕ
block_of r form = pad (flat (unitdata_fields form) ++ frame_called_in r form ++ frame_calling_in r form)

-- a pair for each stream
abbrev pub most_shown : ℕ
most_shown = stream_total * pair_size

-- a whole record of a frame, in room enough
pub record Framed (r room : List ℕ) : Type 0 where
  pub whole : size_of kind.Frame ≤ length r
  pub roomy : frame_room_size ≤ length room

-- with the block of its indications, and room for one
pub record ShowsOne (i : ℕ) (r : List ℕ) (f : Frame) (block room : List ℕ) : Type 0 where
  pub within : i < stream_total
  pub whole : size_of kind.Frame ≤ length r
  pub roomy : pair_size ≤ length room
  pub built : block ≡ block_of r f.form

-- or for all of them
pub record Shows (r : List ℕ) (f : Frame) (block room : List ℕ) : Type 0 where
  pub whole : size_of kind.Frame ≤ length r
  pub roomy : most_shown ≤ length room
  pub built : block ≡ block_of r f.form
