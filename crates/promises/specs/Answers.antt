-- Demand 2's two sentences on answers, in the paper's words: the errors that a call tells and how they come, a complete message
-- that we serve, the rule that answers it, a row of the state table, an accept that offers a stream that isn't idle.
use Rattle.std.specs.Prelude.{ℕ, ◌+◌, ◌≤◌, ◌≡◌, Bool, true, false, not, List, [], ◌∷◌, ◌++◌, length, get_or, eqb, Err, Ok, Result}
use Rattle.ledger.specs.Choice.{pick, both, ◌⇒◌∣◌}
use Rattle.ledger.specs.Tally.{has}
use Rattle.ledger.specs.Lists.{joined}
use Rattle.octets.specs.Numbers.{be32_at}
use Rattle.octets.specs.Blocks.{block_size, flat, pad}
use Rattle.paper.specs.Base.{is_in, Table, slot, waiting}
use Rattle.paper.specs.Messages.{asked_by}
use Rattle.paper.specs.RecordsIn.{is_message, input_of, head_size, most_data, message_in}
use Rattle.paper.specs.StateRows.{found, is_found}
use Rattle.paper.specs.Sight.{request_asks, carrier_of}
use Rattle.paper.specs.ErrorCodes.{Complaint, error_ack, uderror_ind}
use Rattle.paper.specs.ErrorOrder.{verdict_on}
use Rattle.fates_book.specs.Lines.{records_in}
use Rattle.paper.specs.declared.Input.TheVariants as input
use Rattle.paper.specs.declared.Request.{Request}
use Rattle.paper.specs.declared.Request.TheVariants as request
use Rattle.paper.specs.declared.Stream.{Stream}
use Rattle.paper.specs.declared.StateRow.{StateRow}
use Rattle.paper.specs.declared.Carrier.{Carrier}
use Rattle.paper.specs.declared.Carrier.TheVariants as carrier
use Rattle.paper.specs.Room.{room_size}
use Rattle.paper.specs.declared.Rule.{Rule}
use Rattle.paper.specs.declared.Service.{Service}

-- ---- answered with DL_ERROR_ACK, or a datagram with DL_UDERROR_IND

-- the error that the record at the start of some bytes tells: an ERROR_ACK or a UDERROR_IND its own (each has it at its own place), any
-- other none; and those of all records written
unfoldable pub error_at : List ℕ → List ℕ
error_at b =
    both (is_message (get_or b 0 0)) (eqb (be32_at b head_size) 0x05) ⇒ be32_at b (head_size + 8) ∷ []
    ∣ both (is_message (get_or b 0 0)) (eqb (be32_at b head_size) 0x09) ⇒ be32_at b (head_size + 16) ∷ []
    ∣ []

abbrev pub errors_told : List ℕ → List ℕ
errors_told written = joined error_at (records_in (length written) written)

-- How an error comes: to a datagram of full size as UDERROR_IND, to any other message as ERROR_ACK.
abbrev pub is_datagram : Request → Bool
is_datagram request.Info = false
is_datagram request.Token = false
is_datagram (request.Attach p) = false
is_datagram request.Detach = false
is_datagram (request.Bind b) = false
is_datagram request.Unbind = false
is_datagram (request.Connect c) = false
is_datagram (request.ConnectRes a) = false
is_datagram (request.Disconnect d) = false
is_datagram request.Reset = false
is_datagram request.ResetRes = false
is_datagram (request.Unitdata u) = true

abbrev pub complaint_to : Result Request Rule → ℕ → Complaint
complaint_to (Err w) error = error_ack error
complaint_to (Ok q) error = pick (is_datagram q) (uderror_ind error) (error_ack error)

-- All that is then written, to stream i and a message of this code: a C with ERROR_ACK, the code, the error and 0; a P with UDERROR_IND, no
-- address, 0 and the error.
abbrev pub complaint_bytes : ℕ → ℕ → Complaint → List ℕ
complaint_bytes i code (error_ack error) = (67 ∷ i ∷ 16 ∷ []) ++ pad (flat (0x05 ∷ code ∷ error ∷ 0 ∷ []))
complaint_bytes i code (uderror_ind error) = (80 ∷ i ∷ 20 ∷ []) ++ pad (flat (0x09 ∷ 0 ∷ 0 ∷ 0 ∷ error ∷ []))

-- ---- a complete message that we serve

-- Record r is a message that asks stream i of table t for q: of 4 to 96 bytes, of a code that we serve, of that code's
-- full size, to an open stream, in room enough. One of code 0x07 was read with its M, which has at most 64 bytes of data.
pub record Complete (t : Table) (r : List ℕ) (room i : ℕ) (q : Request) : Type 0 where
  pub size : ℕ
  pub data_length : ℕ
  pub read : input_of r ≡ input.Message i size data_length
  pub is_open : (slot t i).is_open ≡ true
  pub coded : 4 ≤ size
  pub whole : size ≤ block_size
  pub few : data_length ≤ most_data
  pub roomy : room_size ≤ room
  pub asks : asked_by (message_in r size) ≡ Ok q

-- ---- the rule that answers it

-- the order of errors on a message m to stream i, by what it sees
abbrev pub verdict_of : List StateRow → Table → ℕ → List ℕ → Result Service Rule
verdict_of rows t i m = verdict_on rows t i m (asked_by m)

-- a row of the state table for a request of a stream that stands as s
abbrev pub has_row : List StateRow → Stream → Request → Bool
has_row rows s q = is_found (found rows s (request_asks q).cause)

-- ---- an accept that offers another stream that isn't idle

-- another stream, not in state 6
abbrev pub is_busy : Carrier → Bool
is_busy carrier.Itself = false
is_busy carrier.None = false
is_busy (carrier.Other c x) = not (is_in 6 x)

-- With no earlier error in the paper's order: the number is open here (else BADCORR), the QOS length is 0 (else
-- BADQOSTYPE), and the token is that of an open stream (else BADTOKEN).
abbrev pub offers_busy : Table → ℕ → Request → Bool
offers_busy t i request.Info = false
offers_busy t i request.Token = false
offers_busy t i (request.Attach p) = false
offers_busy t i request.Detach = false
offers_busy t i (request.Bind b) = false
offers_busy t i request.Unbind = false
offers_busy t i (request.Connect c) = false
offers_busy t i (request.ConnectRes a) =
    both (has a.correlation.0 (waiting t i)) (both (eqb a.qos 0) (is_busy (carrier_of t i a.token)))
offers_busy t i (request.Disconnect d) = false
offers_busy t i request.Reset = false
offers_busy t i request.ResetRes = false
offers_busy t i (request.Unitdata u) = false
