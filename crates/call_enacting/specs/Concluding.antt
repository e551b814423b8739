-- What is asked of what was decided, and what is written for it.
use Rattle.std.specs.Prelude.{ℕ, ◌≤◌, ◌<◌, List, [], ◌∷◌, Result}
use Rattle.std.specs.Result.{IfErr}
use Rattle.octets.specs.Blocks.{pad_to}
use Rattle.octets.specs.Runs.{part}
use Rattle.octets.specs.Writing.{Wrote}
use Rattle.paper.specs.Base.{Slot, most_address, length_of}
use Rattle.paper.specs.RecordsIn.{block_in, data_in}
use Rattle.paper.specs.RecordsOut.{order, datum, all_bytes}
use Rattle.paper.specs.declared.Form.{Form}
use Rattle.paper.specs.declared.LineOrder.TheVariants as line_order
use Rattle.table_image.specs.Layout.{table_of}
use Rattle.call_outcomes.specs.Deciding.{Enactable}
use Rattle.call_outcomes.specs.Rooms.{LentCall}
use Rattle.call_outcomes.specs.declared.Deed.{Deed}

-- what was decided can be enacted, in room enough
pub record Concludes {E : Type 0} (d : Result Deed E) (img room : List ℕ) : Type 0 where
  pub call : LentCall img room
  pub fits : Enactable (table_of img) d

-- a refusal has a number, of those by k
abbrev pub Numbered : {E : Type 0} → (E → ℕ) → Result Deed E → Type 0
Numbered k d = IfErr d (λ refusal. 0 < k refusal)

-- Bytes are written at the start of a room, no more than so many, whichever the stream's own slot is.
pub record WroteBeside (most : ℕ) (bytes : Slot → List ℕ) (n : ℕ) (before after : List ℕ) : Type 0 where
  pub few : n ≤ most
  pub each : (own : Slot) → Wrote (bytes own) 0 n before after

-- u and its M
abbrev pub datagram_bytes : ℕ → ℕ → Form → List ℕ → List ℕ
datagram_bytes s at form r =
    all_bytes (order s (line_order.Unitdata at form) (pad_to most_address (part (block_in r) at (length_of form))) ∷ datum s (data_in r) ∷ [])
