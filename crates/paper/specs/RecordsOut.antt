-- 'Records', the ones out. They are values first; `bytes_of` gives their bytes.
use Rattle.std.specs.Prelude.{ℕ, ◌+◌, Bool, true, false, List, [], ◌∷◌, ◌++◌, length, eqb}
use Rattle.ledger.specs.Choice.{pick, ◌⇒◌∣◌}
use Rattle.ledger.specs.Lists.{joined}
use Rattle.octets.specs.Numbers.{be32}
use Rattle.octets.specs.Blocks.{flat, pad}
use Rattle.paper.specs.Base.{address_size, most_address, length_of}
use Rattle.paper.specs.RecordsIn.{message_size, data_size, is_message}
use Rattle.paper.specs.Replies.{goes_as_c, content_of, unitdata_fields}
use Rattle.paper.specs.declared.Form.{Form}
use Rattle.paper.specs.declared.LineOrder.{LineOrder}
use Rattle.paper.specs.declared.LineOrder.TheVariants as line_order
use Rattle.paper.specs.declared.Reply.{Reply}

-- An order to the line, of a stream, with the address of a connect or of a datagram; a flush of both queues; a message up
-- to a stream, with the bytes behind its fields; a UNITDATA_IND to a stream, with the form of its addresses, and both; the
-- data of a datagram, to the line or up.
pub data Record : Type 0 where
  order : ℕ → LineOrder → List ℕ → Record
  flush : ℕ → Record
  up : ℕ → Reply → List ℕ → Record
  unitdata : ℕ → Form → List ℕ → Record
  datum : ℕ → List ℕ → Record

abbrev pub order_bytes : ℕ → LineOrder → List ℕ
order_bytes s (line_order.Connect at) = 99 ∷ s ∷ []  -- c: stream; the called address follows
order_bytes s (line_order.Accept n) = (97 ∷ s ∷ []) ++ be32 n.0  -- a: carrying stream, correlation
order_bytes s (line_order.Disconnect n reason) = (100 ∷ s ∷ []) ++ be32 n.0 ++ be32 reason  -- d: stream, correlation, reason
order_bytes s line_order.Reset = 114 ∷ s ∷ []  -- r: stream
order_bytes s line_order.ResetAnswer = 115 ∷ s ∷ []  -- s: stream
order_bytes s (line_order.Unitdata at form) = 117 ∷ s ∷ length_of form ∷ []  -- u: stream, address length; the address follows

-- P or C: stream, length L, the block of 96 bytes, zero past L.
abbrev pub message_bytes : Bool → ℕ → List ℕ → List ℕ
message_bytes as_c s content = (pick as_c 67 80 ∷ s ∷ length content ∷ []) ++ pad content

abbrev pub bytes_of : Record → List ℕ
bytes_of (order s o called) = order_bytes s o ++ called
bytes_of (flush s) = 70 ∷ s ∷ []  -- F: stream
bytes_of (up s reply tail) = message_bytes (goes_as_c reply) s (content_of reply tail)
bytes_of (unitdata s form addresses) = message_bytes false s (flat (unitdata_fields form) ++ addresses)
bytes_of (datum s body) = 77 ∷ s ∷ body  -- M: stream; length and data as they were lent

-- Each record is written right behind the one before it.
abbrev pub all_bytes : List Record → List ℕ
all_bytes rs = joined bytes_of rs

-- F where it is due
abbrev pub flush_if : Bool → ℕ → List Record
flush_if true s = flush s ∷ []
flush_if false s = []

-- Within a call the line order comes first, then F, then the message up.
unfoldable pub in_order : List Record → List Record → List Record → List Record
in_order orders flushes ups = orders ++ flushes ++ ups

-- ---- records out as they stand in the room, one behind the other

-- The kind's byte and the stream, which start every record out: all of F, r and s.
abbrev pub start_size : ℕ
start_size = 1 + 1

-- c: called
abbrev pub connect_size : ℕ
connect_size = start_size + address_size

-- a: correlation
abbrev pub accept_size : ℕ
accept_size = start_size + 4

-- d: correlation, reason
abbrev pub disconnect_size : ℕ
disconnect_size = start_size + 4 + 4

-- u: address length, address
abbrev pub unitdata_size : ℕ
unitdata_size = start_size + 1 + most_address

-- The size of a record out, by its kind.
unfoldable pub size_out : ℕ → ℕ
size_out k =
    is_message k ⇒ message_size
    ∣ eqb k 99 ⇒ connect_size  -- c
    ∣ eqb k 97 ⇒ accept_size  -- a
    ∣ eqb k 100 ⇒ disconnect_size  -- d
    ∣ eqb k 117 ⇒ unitdata_size  -- u
    ∣ eqb k 77 ⇒ data_size  -- M
    ∣ start_size  -- F, r, s
