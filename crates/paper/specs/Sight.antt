-- What a message or an event reads of the table, as one value: what it comes to is decided from that alone. (Refusals 16, 10,
-- 1, 2, 5, 4 and 7 stand before it, and the number that an indication takes comes with the event.)
use Rattle.std.specs.Prelude.{ℕ, suc, ◌-◌, Bool, false, List, eqb, Err, None, Ok, Option, Result, Some}
use Rattle.ledger.specs.Choice.{either, ◌⇒◌∣◌}
use Rattle.paper.specs.Base.{Slot, Table, slot, stream, token_of, knows, mac_at}
use Rattle.paper.specs.Saps.{is_listened_for}
use Rattle.paper.specs.StateRows.{info_req, bind_req, unbind_req, attach_req, detach_req, connect_req, connect_res, token_req, disconnect_req}
use Rattle.paper.specs.StateRows.{reset_req, reset_res, unitdata_req, call_arrives, peer_accepted, peer_gone, call_withdrawn, peer_reset, reset_confirmed, found}
use Rattle.paper.specs.declared.PpaNumber.{PpaNumber}
use Rattle.paper.specs.declared.Token.{Token}
use Rattle.paper.specs.declared.Carrier.{Carrier}
use Rattle.paper.specs.declared.Carrier.TheVariants as carrier
use Rattle.paper.specs.declared.Request.{Request}
use Rattle.paper.specs.declared.Request.TheVariants as request
use Rattle.paper.specs.declared.StateRow.{StateRow}
use Rattle.paper.specs.declared.Event.{Event}
use Rattle.paper.specs.declared.Event.TheVariants as event
use Rattle.paper.specs.declared.Rule.{Rule}

-- ---- what comes to a stream

-- A message of this code, from its user; or an event, which is refused with this number where it may not come.
pub data Coming : Type 0 where
  sends : ℕ → Result Request Rule → Coming
  brings : ℕ → Event → Coming

-- What it asks of the table beside its own stream: one thing at most.
pub data Question : Type 0 where
  nothing : Question
  is_there : PpaNumber → Question  -- is that PPA there
  is_listened : ℕ → Question  -- is its own PPA, with that SAP, listened for
  whose : Token → Question  -- which stream does that token name

-- its cause in the state rows, and its question
pub record Asking : Type 0 where
  pub cause : ℕ
  pub question : Question

infix 5 ◌asking◌
abbrev pub ◌asking◌ : ℕ → Question → Asking
cause asking question = record { cause = cause; question = question }

abbrev pub request_asks : Request → Asking
request_asks request.Info = info_req asking nothing
request_asks request.Token = token_req asking nothing
request_asks (request.Attach p) = attach_req asking is_there p
request_asks request.Detach = detach_req asking nothing
request_asks (request.Bind b) = bind_req asking is_listened b.sap
request_asks request.Unbind = unbind_req asking nothing
request_asks (request.Connect c) = connect_req asking nothing
request_asks (request.ConnectRes a) = connect_res asking whose a.token
request_asks (request.Disconnect d) = disconnect_req asking nothing
request_asks request.Reset = reset_req asking nothing
request_asks request.ResetRes = reset_res asking nothing
request_asks (request.Unitdata u) = unitdata_req asking nothing

abbrev pub letter_of : Event → ℕ
letter_of (event.Arrives n) = call_arrives
letter_of event.Accepted = peer_accepted
letter_of (event.Gone reason) = peer_gone
letter_of (event.Withdrawn n reason) = call_withdrawn
letter_of (event.Resets reason) = peer_reset
letter_of event.Confirmed = reset_confirmed

-- A message that is no served request asks nothing. Its code is taken for a cause, but what row that finds is not read.
abbrev asking_of : Coming → Asking
asking_of (sends code (Err r)) = code asking nothing
asking_of (sends code (Ok q)) = request_asks q
asking_of (brings refusal e) = letter_of e asking nothing

-- ---- the answer

-- Token 0 or one's own means this stream. Otherwise it is the token of an open stream, or of none.
unfoldable pub carrier_of : Table → ℕ → Token → Carrier
carrier_of t i k =
    either (eqb k.0 0) (eqb k.0 (suc i)) ⇒ carrier.Itself
    ∣ (slot t (k.0 - 1)).is_open ⇒ carrier.Other (k.0 - 1) (stream t (k.0 - 1))
    ∣ carrier.None

-- What is not asked is the same for every table.
pub record Answer : Type 0 where
  pub known : Bool
  pub listened : Bool
  pub carrier : Carrier

abbrev pub answer : Bool → Bool → Carrier → Answer
answer known listened carrier = record { known = known; listened = listened; carrier = carrier }

-- With no state row nothing is asked.
unfoldable pub answer_to : Table → ℕ → Option StateRow → Question → Answer
answer_to t i None q = answer false false carrier.None
answer_to t i (Some x) nothing = answer false false carrier.None
answer_to t i (Some x) (is_there p) = answer (knows t p) false carrier.None
answer_to t i (Some x) (is_listened sap) = answer false (is_listened_for t (stream t i).ppa sap) carrier.None
answer_to t i (Some x) (whose k) = answer false false (carrier_of t i k)

-- ---- what it sees: its stream, that stream's token and MAC, its state row, and the answer to its question

pub record Sight : Type 0 where
  pub own : Slot
  pub token : Token
  pub mac : List ℕ
  pub row : Option StateRow
  pub answer : Answer

abbrev pub sight_by : Table → ℕ → Option StateRow → Question → Sight
sight_by t i row q = record { own = slot t i; token = token_of i; mac = mac_at t i; row = row; answer = answer_to t i row q }

abbrev pub sight_of : List StateRow → Table → ℕ → Coming → Sight
sight_of rows t i c = sight_by t i (found rows (stream t i) (asking_of c).cause) (asking_of c).question

-- the stream that carries a call of stream i: the one that the token names; i where no token is asked
-- for, or it names none
abbrev pub carrier_at : ℕ → Carrier → ℕ
carrier_at i carrier.Itself = i
carrier_at i (carrier.Other c x) = c
carrier_at i carrier.None = i
