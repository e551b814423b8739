-- 'Answers with ERROR_ACK': the order in which the rules are tested. First that applies.
use Rattle.std.specs.Prelude.{ℕ, ◌+◌, ◌%◌, Bool, not, List, length, eqb, ltb, Err, None, Ok, Option, Result, Some}
use Rattle.ledger.specs.Choice.{both, either, ◌⇒◌∣◌}
use Rattle.ledger.specs.Tally.{has}
use Rattle.paper.specs.Base.{address_size, is_in, Table}
use Rattle.paper.specs.Saps.{is_sap, is_type, grant_of}
use Rattle.paper.specs.Messages.{code_in}
use Rattle.paper.specs.Datagrams.{judge_datagram}
use Rattle.paper.specs.Sight.{sends, Sight, sight_of}
use Rattle.paper.specs.declared.Correlation.{Correlation}
use Rattle.paper.specs.declared.PpaNumber.{PpaNumber}
use Rattle.paper.specs.declared.Stream.{Stream}
use Rattle.paper.specs.declared.BindRequest.{BindRequest}
use Rattle.paper.specs.declared.ConnectRequest.{ConnectRequest}
use Rattle.paper.specs.declared.ConnectResponse.{ConnectResponse}
use Rattle.paper.specs.declared.DisconnectRequest.{DisconnectRequest}
use Rattle.paper.specs.declared.Request.{Request}
use Rattle.paper.specs.declared.Request.TheVariants as request
use Rattle.paper.specs.declared.Rule.{Rule}
use Rattle.paper.specs.declared.Rule.TheVariants as rule
use Rattle.paper.specs.declared.Carrier.{Carrier}
use Rattle.paper.specs.declared.Carrier.TheVariants as carrier
use Rattle.paper.specs.declared.Service.TheVariants as service
use Rattle.paper.specs.declared.StateRow.{StateRow}
use Rattle.paper.specs.declared.Service.{Service}

-- 1. Another code than a served request's, or L under the size: `asked_by` (Messages). 2. No state row: `verdict_by`, below.
-- A datagram's address: `judge_datagram` (Datagrams).

-- 3. ATTACH: unknown PPA, BADPPA.
unfoldable pub judge_attach : PpaNumber → Bool → Result Service Rule
judge_attach p known = not known ⇒ Err rule.UnknownPpa ∣ Ok (service.Attach p)

-- 4. BIND, where the SAP may be bound: mode 1 with a type: UNSUPPORTED. Mode 1, max_conind over 0, and another stream
-- listens for that PPA and SAP: BOUND. (The asker, in state 3, listens for nothing.)
unfoldable pub judge_listening : BindRequest → Bool → Result Service Rule
judge_listening b listened =
    both (eqb b.mode 1) (is_type b.sap) ⇒ Err rule.TypeInModeOne
    ∣ both (eqb b.mode 1) (both (ltb 0 b.most) listened) ⇒ Err rule.ListenedFor
    ∣ Ok (service.Bind b.mode b.sap (grant_of b.mode b.most))

-- 4. BIND: mode not 1 or 2, or conn_mgmt not 0: UNSUPPORTED. xidtest not 0: NOAUTO. SAP neither an even unreserved
-- number under 256 nor an unreserved type 0x600 to 0xffff: BADADDR.
unfoldable pub judge_bind : BindRequest → Bool → Result Service Rule
judge_bind b listened =
    not (either (eqb b.mode 1) (eqb b.mode 2)) ⇒ Err rule.UnknownMode
    ∣ not (eqb b.management 0) ⇒ Err rule.Management
    ∣ not (eqb b.xidtest 0) ⇒ Err rule.AutomaticXid
    ∣ not (either (is_sap b.sap) (is_type b.sap)) ⇒ Err rule.SapNotAllowed
    ∣ judge_listening b listened

-- 5. CONNECT_REQ: QOS length not 0, BADQOSTYPE. Length not 7, offset under 24, an end beyond L (the sum does not wrap),
-- or an odd SAP: BADADDR.
unfoldable pub judge_connect : ConnectRequest → Result Service Rule
judge_connect c =
    not (eqb c.qos 0) ⇒ Err rule.ConnectQos
    ∣ not (eqb c.length address_size) ⇒ Err rule.AddressLength
    ∣ ltb c.offset 24 ⇒ Err rule.AddressTooEarly
    ∣ ltb c.size (c.offset + address_size) ⇒ Err rule.AddressTooLate
    ∣ eqb (c.last % 2) 1 ⇒ Err rule.AddressSapOdd
    ∣ Ok (service.Connect c.offset)

-- 6. Token 0 or one's own means this stream: with more than one open, PENDING.
unfoldable pub judge_itself : Correlation → ℕ → Result Service Rule
judge_itself n count = ltb 1 count ⇒ Err rule.OthersOpen ∣ Ok (service.Accept n)

-- 6. The token names another stream: that stream not in state 6, OUTSTATE; another PPA or mode 2, ACCESS.
unfoldable pub judge_other : Stream → Correlation → Stream → Result Service Rule
judge_other s n x =
    not (is_in 6 x) ⇒ Err rule.CarrierNotIdle
    ∣ not (eqb x.ppa.0 s.ppa.0) ⇒ Err rule.CarrierOfOtherPpa
    ∣ eqb x.mode 2 ⇒ Err rule.CarrierConnectionless
    ∣ Ok (service.Accept n)

-- 6. Token of no open stream, BADTOKEN.
unfoldable pub judge_carrier : Stream → Correlation → ℕ → Carrier → Result Service Rule
judge_carrier s n count carrier.Itself = judge_itself n count
judge_carrier s n count carrier.None = Err rule.TokenOfNone
judge_carrier s n count (carrier.Other c x) = judge_other s n x

-- 6. CONNECT_RES: number not open here, BADCORR. QOS length not 0, BADQOSTYPE.
unfoldable pub judge_accept : Stream → ConnectResponse → Bool → ℕ → Carrier → Result Service Rule
judge_accept s a number_open count carrier =
    not number_open ⇒ Err rule.AcceptNotOpen
    ∣ not (eqb a.qos 0) ⇒ Err rule.AcceptQos
    ∣ judge_carrier s a.correlation count carrier

-- 7. DISCONNECT_REQ: in state 9 a number not open here, elsewhere a number not 0: BADCORR.
unfoldable pub judge_denial : DisconnectRequest → Bool → Result Service Rule
judge_denial d number_open = not number_open ⇒ Err rule.DenialNotOpen ∣ Ok (service.Deny d.correlation d.reason)

unfoldable pub judge_disconnect : Stream → DisconnectRequest → Bool → Result Service Rule
judge_disconnect s d number_open =
    is_in 9 s ⇒ judge_denial d number_open
    ∣ not (eqb d.correlation.0 0) ⇒ Err rule.NumberNotZero
    ∣ Ok (service.Disconnect d.reason)

-- Steps 3 to 7, and a datagram's (document 02), by the request: what each reads of its sight stands beside it.
unfoldable pub judge_request : Sight → Request → Result Service Rule
judge_request s request.Info = Ok service.Inform
judge_request s request.Token = Ok service.TellToken
judge_request s (request.Attach p) = judge_attach p s.answer.known
judge_request s request.Detach = Ok service.Detach
judge_request s (request.Bind b) = judge_bind b s.answer.listened
judge_request s request.Unbind = Ok service.Unbind
judge_request s (request.Connect c) = judge_connect c
judge_request s (request.ConnectRes a) =
    judge_accept s.own.stream a (has a.correlation.0 s.own.waiting) (length s.own.waiting) s.answer.carrier
judge_request s (request.Disconnect d) = judge_disconnect s.own.stream d (has d.correlation.0 s.own.waiting)
judge_request s request.Reset = Ok service.Reset
judge_request s request.ResetRes = Ok service.ResetRes
judge_request s (request.Unitdata u) = judge_datagram s.own.stream u

-- 2. No state row. (Of a datagram it is a rule of its own.)
unfoldable pub without_row : Request → Rule
without_row request.Info = rule.NoRow
without_row request.Token = rule.NoRow
without_row (request.Attach p) = rule.NoRow
without_row request.Detach = rule.NoRow
without_row (request.Bind b) = rule.NoRow
without_row request.Unbind = rule.NoRow
without_row (request.Connect c) = rule.NoRow
without_row (request.ConnectRes a) = rule.NoRow
without_row (request.Disconnect d) = rule.NoRow
without_row request.Reset = rule.NoRow
without_row request.ResetRes = rule.NoRow
without_row (request.Unitdata u) = rule.DatagramNoRow

-- The order of errors as a whole, on a message: the first rule that applies, or what serves it. (The last argument is the
-- sight's row.)
abbrev pub verdict_by : Sight → Result Request Rule → Option StateRow → Result Service Rule
verdict_by s (Err r) f = Err r
verdict_by s (Ok q) None = Err (without_row q)
verdict_by s (Ok q) (Some x) = judge_request s q

abbrev pub verdict : Sight → Result Request Rule → Result Service Rule
verdict s a = verdict_by s a s.row

-- on message m of stream i, which asks this
abbrev pub verdict_on : List StateRow → Table → ℕ → List ℕ → Result Request Rule → Result Service Rule
verdict_on rows t i m a = verdict (sight_of rows t i (sends (code_in m) a)) a
