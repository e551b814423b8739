-- 'State rows', what each does, as a value: an effect. First the table after an effect and its records, then the effect of
-- each row.
use Rattle.std.specs.Prelude.{ℕ, Bool, true, false, not, List, [], ◌∷◌, ◌++◌, eqb, None, Option, Some}
use Rattle.ledger.specs.Choice.{pick}
use Rattle.ledger.specs.Tally.{without}
use Rattle.octets.specs.Runs.{part}
use Rattle.octets.specs.Blocks.{pad_to}
use Rattle.paper.specs.Base.{address_size, most_address, length_of, state_of, is_in, is_among, joined_states, attached_in, settled, Slot, Table, stream, waiting, with_numbers, with_stream, with_counter}
use Rattle.paper.specs.RecordsIn.{block_in, address_in, called_in, calling_in, data_in}
use Rattle.paper.specs.Replies.{address_of, info_tail}
use Rattle.paper.specs.RecordsOut.{Record, order, up, datum, flush_if, in_order}
use Rattle.paper.specs.Correlations.{one_past}
use Rattle.paper.specs.ErrorCodes.{complaint_of, reply_by}
use Rattle.paper.specs.declared.State.{State}
use Rattle.paper.specs.declared.State.TheVariants.{DataXfer}
use Rattle.paper.specs.declared.PpaNumber.{PpaNumber}
use Rattle.paper.specs.declared.Correlation.{Correlation}
use Rattle.paper.specs.declared.Token.{Token}
use Rattle.paper.specs.declared.Stream.{Stream}
use Rattle.paper.specs.declared.Service.{Service}
use Rattle.paper.specs.declared.Service.TheVariants as service
use Rattle.paper.specs.declared.Rule.{Rule}
use Rattle.paper.specs.declared.StateRow.{StateRow}
use Rattle.paper.specs.declared.Event.{Event}
use Rattle.paper.specs.declared.Event.TheVariants as event
use Rattle.paper.specs.declared.Change.{Change}
use Rattle.paper.specs.declared.Change.TheVariants.{Stays, Becomes, Takes, Loses}
use Rattle.paper.specs.declared.LineOrder.{LineOrder}
use Rattle.paper.specs.declared.LineOrder.TheVariants as line_order
use Rattle.paper.specs.declared.Reply.{Reply}
use Rattle.paper.specs.declared.Reply.TheVariants as reply
use Rattle.paper.specs.declared.Effect.{Effect}

-- ---- the table after an effect on stream i, where stream c carries

-- A listener that loses an open indication goes to 6 at the last one (the row's last state), unless it carries the call
-- itself: then it goes on to 11, as any stream that carries.
abbrev pub standing : State → Stream → List ℕ → Stream
standing last s [] = settled last s
standing last s (n ∷ l) = s

unfoldable pub changed : Table → ℕ → Change → Table
changed t i Stays = t
changed t i (Becomes s) = with_stream t i s
changed t i (Takes s n) = with_numbers (with_counter t (one_past n.0)) i s (waiting t i ++ (n.0 ∷ []))
changed t i (Loses s n last) = with_numbers t i (standing last s (without n.0 (waiting t i))) (without n.0 (waiting t i))

-- The carrying stream goes to 11.
unfoldable pub carried : Table → ℕ → Bool → Table
carried t c false = t
carried t c true = with_stream t c (settled DataXfer (stream t c))

-- An effect of record r, done. (An effect holds no bytes: what a table is to keep of a message would come from r. Nothing
-- is kept.)
unfoldable pub enacted : Table → ℕ → ℕ → List ℕ → Effect → Table
enacted t i c r e = carried (changed t i e.change) c e.carries

-- ---- its records, where r is the record of the message, with its M, or of the event

-- the stream that an order names
abbrev pub named_by : ℕ → ℕ → LineOrder → ℕ
named_by i c (line_order.Connect at) = i
named_by i c (line_order.Accept n) = c
named_by i c (line_order.Disconnect n reason) = i
named_by i c line_order.Reset = i
named_by i c line_order.ResetAnswer = i
named_by i c (line_order.Unitdata at form) = i

-- What stands behind the fields of an order: of the record, or of what the stream's own slot keeps. (c and u alone have any:
-- the address, handed on as that part of the message; of u zero past its length.)
abbrev pub behind_order : Slot → List ℕ → LineOrder → List ℕ
behind_order own r (line_order.Connect at) = part (block_in r) at address_size
behind_order own r (line_order.Accept n) = []
behind_order own r (line_order.Disconnect n reason) = []
behind_order own r line_order.Reset = []
behind_order own r line_order.ResetAnswer = []
behind_order own r (line_order.Unitdata at form) = pad_to most_address (part (block_in r) at (length_of form))

-- u has its M behind it
abbrev pub data_behind : ℕ → List ℕ → LineOrder → List Record
data_behind i r (line_order.Connect at) = []
data_behind i r (line_order.Accept n) = []
data_behind i r (line_order.Disconnect n reason) = []
data_behind i r line_order.Reset = []
data_behind i r line_order.ResetAnswer = []
data_behind i r (line_order.Unitdata at form) = datum i (data_in r) ∷ []

unfoldable pub orders_in : ℕ → ℕ → Slot → List ℕ → Option LineOrder → List Record
orders_in i c own r None = []
orders_in i c own r (Some o) = order (named_by i c o) o (behind_order own r o) ∷ data_behind i r o

-- what stands behind the fields of a message up
unfoldable pub behind_reply : List ℕ → List ℕ → Reply → List ℕ
behind_reply mac r (reply.InfoAck s) = info_tail mac s
behind_reply mac r (reply.BindAck sap granted) = address_of mac sap
behind_reply mac r (reply.ErrorAck code error) = []
behind_reply mac r (reply.OkAck code) = []
behind_reply mac r (reply.ConnectInd n) = called_in r ++ calling_in r
behind_reply mac r reply.ConnectCon = address_in r
behind_reply mac r (reply.TokenAck k) = []
behind_reply mac r (reply.DisconnectInd reason n) = []
behind_reply mac r (reply.ResetInd reason) = []
behind_reply mac r reply.ResetCon = []
behind_reply mac r (reply.UderrorInd error) = []

unfoldable pub ups_in : ℕ → List ℕ → List ℕ → Option Reply → List Record
ups_in i mac r None = []
ups_in i mac r (Some reply) = up i reply (behind_reply mac r reply) ∷ []

-- the records of an effect, in their order
unfoldable pub told : ℕ → ℕ → Slot → List ℕ → List ℕ → Effect → List Record
told i c own mac r e = in_order (orders_in i c own r e.order) (flush_if e.flush i) (ups_in i mac r e.up)

-- ---- what becomes of a stream by row x

abbrev pub next : StateRow → State
next x = state_of x.to

-- it goes to the row's next state
abbrev pub onward : StateRow → Stream → Change
onward x s = Becomes (settled (next x) s)

-- unchanged, where the row leads to its own state
abbrev pub unchanged : StateRow → Stream → Change
unchanged x s = pick (eqb x.to x.from) Stays (onward x s)

-- one open indication more, or less
abbrev pub more : StateRow → Stream → Correlation → Change
more x s n = Takes (settled (next x) s) n

abbrev pub less : StateRow → Stream → Correlation → Change
less x s n = Loses (settled (next x) s) n (state_of x.last)

-- bound
abbrev pub bound_in : State → PpaNumber → ℕ → ℕ → ℕ → Stream
bound_in q p mode sap granted = record { state = q; mode = mode; sap = sap; ppa = p; granted = granted }

-- ---- the effects

-- of one stream alone
abbrev pub acting : Change → Option LineOrder → Bool → Option Reply → Effect
acting c o f u = record { change = c; carries = false; order = o; flush = f; up = u }

-- A message that breaks a rule changes nothing.
abbrev pub error_effect : ℕ → Rule → Effect
error_effect code r = acting Stays None false (Some (reply_by code (complaint_of r)))

-- A request with a reply gets INFO_ACK, BIND_ACK, TOKEN_ACK or else OK_ACK, which has the request's code: the row's cause.
abbrev pub ok : StateRow → Option Reply
ok x = Some (reply.OkAck x.cause)

abbrev pub no_number : Correlation
no_number = record { 0 = 0 }

-- CONNECT_RES: the listener loses the indication, and the stream that the token names carries the call
abbrev pub accepting : StateRow → Stream → Correlation → Effect
accepting x s n = record { change = less x s n; carries = true; order = Some (line_order.Accept n); flush = false; up = ok x }

-- Row x serves a request of the stream with token k, which stands as s.
unfoldable pub effect_of : StateRow → Token → Stream → Service → Effect
effect_of x k s service.Inform = acting (unchanged x s) None false (Some (reply.InfoAck s))
effect_of x k s service.TellToken = acting (unchanged x s) None false (Some (reply.TokenAck k))
effect_of x k s (service.Attach p) = acting (Becomes (attached_in (next x) p)) None false (ok x)
effect_of x k s service.Detach = acting (onward x s) None false (ok x)
effect_of x k s (service.Bind mode sap granted) =
    acting (Becomes (bound_in (next x) s.ppa mode sap granted)) None false (Some (reply.BindAck sap granted))
-- with F
effect_of x k s service.Unbind = acting (onward x s) None true (ok x)
-- c, no reply
effect_of x k s (service.Connect at) = acting (onward x s) (Some (line_order.Connect at)) false None
-- a
effect_of x k s (service.Accept n) = accepting x s n
-- d, from 9; and from 8, 11, 12, 13, with F from the last three
effect_of x k s (service.Deny n reason) = acting (less x s n) (Some (line_order.Disconnect n reason)) false (ok x)
effect_of x k s (service.Disconnect reason) =
    acting (onward x s) (Some (line_order.Disconnect no_number reason)) (is_among joined_states s) (ok x)
-- r, no reply; s
effect_of x k s service.Reset = acting (onward x s) (Some line_order.Reset) false None
effect_of x k s service.ResetRes = acting (onward x s) (Some line_order.ResetAnswer) false (ok x)
-- u and its M, no reply
effect_of x k s (service.Unitdata at form) = acting (unchanged x s) (Some (line_order.Unitdata at form)) false None

-- What the line brings to a stream that stands as s, by row x.
unfoldable pub event_effect : StateRow → Stream → Event → Effect
-- I: CONNECT_IND
event_effect x s (event.Arrives n) = acting (more x s n) None false (Some (reply.ConnectInd n))
-- A: CONNECT_CON
event_effect x s event.Accepted = acting (onward x s) None false (Some reply.ConnectCon)
-- D: F except from 8, DISCONNECT_IND, correlation 0
event_effect x s (event.Gone reason) = acting (onward x s) None (not (is_in 8 s)) (Some (reply.DisconnectInd reason no_number))
-- W: DISCONNECT_IND with the number
event_effect x s (event.Withdrawn n reason) = acting (less x s n) None false (Some (reply.DisconnectInd reason n))
-- R: F, RESET_IND
event_effect x s (event.Resets reason) = acting (onward x s) None true (Some (reply.ResetInd reason))
-- S: F, RESET_CON
event_effect x s event.Confirmed = acting (onward x s) None true (Some reply.ResetCon)
