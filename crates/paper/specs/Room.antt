-- How much room a call needs, and how many bytes what it does may take.
use Rattle.std.specs.Prelude.{ℕ, ◌+◌, ◌≤◌, None, Option, Some}
use Rattle.paper.specs.RecordsIn.{message_size, data_size}
use Rattle.paper.specs.RecordsOut.{start_size, disconnect_size, unitdata_size}
use Rattle.paper.specs.declared.Input.{Input}
use Rattle.paper.specs.declared.Input.TheVariants as input
use Rattle.paper.specs.declared.LineOrder.{LineOrder}
use Rattle.paper.specs.declared.LineOrder.TheVariants as line_order
use Rattle.paper.specs.declared.Effect.{Effect}
use Rattle.paper.specs.declared.Reply.{Reply}

-- A call needs 128 bytes of room, however little it writes.
abbrev pub room_size : ℕ
room_size = 128

-- The frame event needs 4,096 (document 02).
abbrev pub frame_room_size : ℕ
frame_room_size = 4096

abbrev pub room_for : Input → ℕ
room_for input.Unreadable = room_size
room_for input.Malformed = room_size
room_for (input.AddPpa p) = room_size
room_for input.Open = room_size
room_for (input.Close i) = room_size
room_for (input.Message i l n) = room_size
room_for (input.CallArrives p sap) = room_size
room_for (input.PeerAccepted i) = room_size
room_for (input.PeerGone i reason) = room_size
room_for (input.CallWithdrawn i n reason) = room_size
room_for (input.PeerReset i reason) = room_size
room_for (input.ResetConfirmed i) = room_size
room_for (input.Frame f) = frame_room_size

-- ---- what an effect may take: the longest order, or u with its M; F; a message up

abbrev pub most_of_order : LineOrder → ℕ
most_of_order (line_order.Connect at) = disconnect_size
most_of_order (line_order.Accept n) = disconnect_size
most_of_order (line_order.Disconnect n reason) = disconnect_size
most_of_order line_order.Reset = disconnect_size
most_of_order line_order.ResetAnswer = disconnect_size
most_of_order (line_order.Unitdata at form) = unitdata_size + data_size

abbrev pub most_told : Option LineOrder → ℕ
most_told None = 0
most_told (Some o) = most_of_order o

abbrev pub most_said : Option Reply → ℕ
most_said None = 0
most_said (Some r) = message_size

-- so that the room is enough
abbrev pub Fits : Effect → Type 0
Fits e = most_told e.order + start_size + most_said e.up ≤ room_size
