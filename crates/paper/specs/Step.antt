-- A call, whole: from a table, the lent bytes and the room's length to the refusal, or the records and the next table. By a
-- list of state rows; `step` is the call by the paper's.
use Rattle.std.specs.Prelude.{ℕ, Bool, true, false, not, List, take, ltb}
use Rattle.ledger.specs.Choice.{◌⇒◌∣◌}
use Rattle.octets.specs.Runs.{same_bytes}
use Rattle.octets.specs.Blocks.{block_size}
use Rattle.paper.specs.Base.{mac_size, Table, slot, knows, mac_of}
use Rattle.paper.specs.RecordsIn.{most_data, input_of, mac_in, called_in, message_in}
use Rattle.paper.specs.Refusals.{little_room, not_open, no_code, over_long, unexpected, nobody_there, busy, not_a_record, not_sound, Outcome, refused, served}
use Rattle.paper.specs.Saps.{listener, is_listened_for}
use Rattle.paper.specs.Correlations.{next_number}
use Rattle.paper.specs.Sound.{sound}
use Rattle.paper.specs.Messages.{code_in, asked_by}
use Rattle.paper.specs.Datagrams.{frames}
use Rattle.paper.specs.Room.{room_for}
use Rattle.paper.specs.Openings.{adds_ppa, opens, closes}
use Rattle.paper.specs.StateRows.{state_rows}
use Rattle.paper.specs.Sight.{Coming, sends, brings, Sight, sight_of, carrier_at}
use Rattle.paper.specs.Effects.{enacted, told}
use Rattle.paper.specs.Decide.{Decision, refuses, does, decide}
use Rattle.paper.specs.declared.PpaNumber.{PpaNumber}
use Rattle.paper.specs.declared.Input.{Input}
use Rattle.paper.specs.declared.Input.TheVariants as input
use Rattle.paper.specs.declared.StateRow.{StateRow}
use Rattle.paper.specs.declared.Event.TheVariants as event

-- A decision on what came to stream i with record r, concluded.
unfoldable pub conclude : Table → ℕ → List ℕ → Sight → Decision → Outcome
conclude t i r s (refuses n) = refused t n
conclude t i r s (does e) =
    served (enacted t i (carrier_at i s.answer.carrier) r e)
    (told i (carrier_at i s.answer.carrier) s.own s.mac r e)

-- What comes to stream i is decided from what it sees.
unfoldable pub comes : List StateRow → Table → ℕ → List ℕ → Coming → Outcome
comes rows t i r c = conclude t i r (sight_of rows t i c) (decide (sight_of rows t i c) c)

-- Refusal 2 comes first of all that is said of a stream.
unfoldable pub of_open : Table → ℕ → Outcome → Outcome
of_open t i o = not (slot t i).is_open ⇒ refused t not_open ∣ o

-- A message of L bytes, with so many of data: 5, for L over 96 or data over 64, then 4.
unfoldable pub message : List StateRow → Table → ℕ → ℕ → ℕ → List ℕ → Outcome
message rows t i l n r =
    ltb block_size l ⇒ refused t over_long
    ∣ ltb most_data n ⇒ refused t over_long
    ∣ ltb l 4 ⇒ refused t no_code
    ∣ comes rows t i r (sends (code_in (message_in r l)) (asked_by (message_in r l)))

-- I comes to the listener for its PPA and SAP, with the next number: 7, then 8.
unfoldable pub arrives : List StateRow → Table → PpaNumber → ℕ → List ℕ → Outcome
arrives rows t p sap r =
    not (knows t p) ⇒ refused t nobody_there
    ∣ not (same_bytes (take mac_size (called_in r)) (mac_of t p)) ⇒ refused t nobody_there
    ∣ not (is_listened_for t p sap) ⇒ refused t nobody_there
    ∣ comes rows t (listener t p sap) r (brings busy (event.Arrives (record { 0 = next_number t })))

-- record r by what was read, in room enough (what is unreadable has been refused before)
abbrev pub serve_by : List StateRow → Table → List ℕ → Input → Outcome
serve_by rows t r input.Unreadable = refused t not_a_record
serve_by rows t r input.Malformed = refused t not_a_record
serve_by rows t r (input.AddPpa p) = adds_ppa t p (mac_in r)
serve_by rows t r input.Open = opens t
serve_by rows t r (input.Close i) = of_open t i (closes t i)
serve_by rows t r (input.Message i l n) = of_open t i (message rows t i l n r)
serve_by rows t r (input.CallArrives p sap) = arrives rows t p sap r
serve_by rows t r (input.PeerAccepted i) = of_open t i (comes rows t i r (brings unexpected event.Accepted))
serve_by rows t r (input.PeerGone i reason) = of_open t i (comes rows t i r (brings unexpected (event.Gone reason)))
serve_by rows t r (input.CallWithdrawn i n reason) = of_open t i (comes rows t i r (brings unexpected (event.Withdrawn n reason)))
serve_by rows t r (input.PeerReset i reason) = of_open t i (comes rows t i r (brings unexpected (event.Resets reason)))
serve_by rows t r (input.ResetConfirmed i) = of_open t i (comes rows t i r (brings unexpected event.Confirmed))
serve_by rows t r (input.Frame f) = frames rows t r f

abbrev pub is_readable : Input → Bool
is_readable input.Unreadable = false
is_readable input.Malformed = false
is_readable (input.AddPpa p) = true
is_readable input.Open = true
is_readable (input.Close i) = true
is_readable (input.Message i l n) = true
is_readable (input.CallArrives p sap) = true
is_readable (input.PeerAccepted i) = true
is_readable (input.PeerGone i reason) = true
is_readable (input.CallWithdrawn i n reason) = true
is_readable (input.PeerReset i reason) = true
is_readable (input.ResetConfirmed i) = true
is_readable (input.Frame f) = true

-- Order of tests: 16, 10, 1, 2, 5, 4, then the rest.
unfoldable pub step_by : List StateRow → Table → List ℕ → ℕ → Outcome
step_by rows t r room =
    not (sound t) ⇒ refused t not_sound
    ∣ not (is_readable (input_of r)) ⇒ refused t not_a_record
    ∣ ltb room (room_for (input_of r)) ⇒ refused t little_room
    ∣ serve_by rows t r (input_of r)

abbrev pub step : Table → List ℕ → ℕ → Outcome
step = step_by state_rows
