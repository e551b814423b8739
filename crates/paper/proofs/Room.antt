-- Every call needs 128 bytes of room, and none more than a frame.
use Prim.Native.Nat.{◌≤◌}
use native.Mathlib.Omega.{arith}
use Rattle.paper.specs.Room.{room_size, frame_room_size, room_for}
use Rattle.paper.specs.declared.Input.{Input}
use Rattle.paper.specs.declared.Input.TheVariants as input

pub room_within : (q : Input) → (room_size ≤ room_for q) × (room_for q ≤ frame_room_size)
room_within input.Unreadable = (omega arith, omega arith)
room_within input.Malformed = (omega arith, omega arith)
room_within (input.AddPpa p) = (omega arith, omega arith)
room_within input.Open = (omega arith, omega arith)
room_within (input.Close i) = (omega arith, omega arith)
room_within (input.Message i l n) = (omega arith, omega arith)
room_within (input.CallArrives p sap) = (omega arith, omega arith)
room_within (input.PeerAccepted i) = (omega arith, omega arith)
room_within (input.PeerGone i reason) = (omega arith, omega arith)
room_within (input.CallWithdrawn i n reason) = (omega arith, omega arith)
room_within (input.PeerReset i reason) = (omega arith, omega arith)
room_within (input.ResetConfirmed i) = (omega arith, omega arith)
room_within (input.Frame f) = (omega arith, omega arith)
