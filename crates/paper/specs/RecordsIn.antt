-- 'Records', the ones in: one byte of kind, then a body whose length the kind fixes. Numbers are big-endian.
use Rattle.std.specs.Prelude.{ℕ, ◌+◌, ◌-◌, Bool, not, List, length, get_or, eqb, ltb, leb}
use Rattle.ledger.specs.Choice.{both, either, ◌⇒◌∣◌}
use Rattle.octets.specs.Numbers.{be16_at, be32_at}
use Rattle.octets.specs.Runs.{part, all_zero}
use Rattle.octets.specs.Blocks.{block_size}
use Rattle.paper.specs.Base.{mac_size, address_size, most_address, length_of, form_in}
use Rattle.paper.specs.StateRows.{unitdata_req}
use Rattle.paper.specs.declared.Form.{Form}
use Rattle.paper.specs.declared.Form.TheVariants.{WithSap, WithType}
use Rattle.paper.specs.declared.Kind.{Kind}
use Rattle.paper.specs.declared.Kind.TheVariants as kind
use Rattle.paper.specs.declared.Input.{Input}
use Rattle.paper.specs.declared.Input.TheVariants as input

-- The letters.
unfoldable pub kind_of : ℕ → Kind
kind_of b =
    eqb b 71 ⇒ kind.AddPpa  -- G
    ∣ eqb b 79 ⇒ kind.Open  -- O
    ∣ eqb b 88 ⇒ kind.Close  -- X
    ∣ eqb b 80 ⇒ kind.Message  -- P, and C: from a user they are treated alike
    ∣ eqb b 67 ⇒ kind.Message
    ∣ eqb b 73 ⇒ kind.CallArrives  -- I
    ∣ eqb b 65 ⇒ kind.PeerAccepted  -- A
    ∣ eqb b 68 ⇒ kind.PeerGone  -- D
    ∣ eqb b 87 ⇒ kind.CallWithdrawn  -- W
    ∣ eqb b 82 ⇒ kind.PeerReset  -- R
    ∣ eqb b 83 ⇒ kind.ResetConfirmed  -- S
    ∣ eqb b 77 ⇒ kind.Data  -- M, document 02
    ∣ eqb b 102 ⇒ kind.Frame  -- f, document 02
    ∣ kind.Unknown

-- P and C, in and out: the kind's byte, stream and L, then the block
abbrev pub head_size : ℕ
head_size = 1 + 1 + 1

abbrev pub message_size : ℕ
message_size = head_size + block_size

-- M, in and out: the kind's byte, stream and length, then 64 bytes of data
abbrev pub most_data : ℕ
most_data = 64

abbrev pub data_size : ℕ
data_size = head_size + most_data

-- what stands behind its stream: length and data
abbrev pub body_size : ℕ
body_size = 1 + most_data

-- a message and its M
abbrev pub pair_size : ℕ
pair_size = message_size + data_size

-- The kind's byte and the body. An unknown kind has no size.
abbrev pub size_of : Kind → ℕ
size_of kind.AddPpa = 1 + 4 + mac_size
size_of kind.Open = 1
size_of kind.Close = 1 + 1
size_of kind.Message = message_size
size_of kind.CallArrives = 1 + 4 + address_size + address_size
size_of kind.PeerAccepted = 1 + 1 + address_size
size_of kind.PeerGone = 1 + 1 + 4
size_of kind.CallWithdrawn = 1 + 1 + 4 + 4
size_of kind.PeerReset = 1 + 1 + 4
size_of kind.ResetConfirmed = 1 + 1
size_of kind.Data = data_size
size_of kind.Frame = 1 + 4 + 1 + most_address + most_address + 1 + most_data
size_of kind.Unknown = 0

-- P and C: stream, L, block.
abbrev pub is_message : ℕ → Bool
is_message k = either (eqb k 80) (eqb k 67)  -- P, C

abbrev pub stream_in : List ℕ → ℕ
stream_in r = get_or r 1 0

abbrev pub size_in : List ℕ → ℕ
size_in r = get_or r 2 0

-- Document 02: right behind each control record of code 0x07 with L 4 to 96
unfoldable pub wants_data : List ℕ → Bool
wants_data r = both (both (leb 4 (size_in r)) (leb (size_in r) block_size)) (eqb (be32_at r head_size) unitdata_req)

-- an M stands with the same stream, in the same call.
unfoldable pub has_data : List ℕ → Bool
has_data r = both (leb pair_size (length r)) (both (eqb (get_or r message_size 0) 77) (eqb (get_or r (message_size + 1) 0) (stream_in r)))

unfoldable pub is_pair : List ℕ → Bool
is_pair r = both (is_message (get_or r 0 0)) (both (wants_data r) (has_data r))

-- How far reading goes on behind the record at the start of the bytes: its size, with its M where it has one, or 0 where
-- reading ends there.
unfoldable pub record_size : List ℕ → ℕ
record_size r = ltb (length r) (size_of (kind_of (get_or r 0 0))) ⇒ 0 ∣ is_pair r ⇒ pair_size ∣ size_of (kind_of (get_or r 0 0))

-- The bytes of a field past its length are zero. Past a length over the field's size there are none.
unfoldable pub has_nonzero_past : List ℕ → ℕ → ℕ → ℕ → Bool
has_nonzero_past r at most n = both (leb n most) (not (all_zero (part r (at + n) (most - n))))

-- the block, and the L bytes of the message
abbrev pub block_in : List ℕ → List ℕ
block_in r = part r head_size block_size

abbrev pub message_in : List ℕ → ℕ → List ℕ
message_in r l = part r head_size l

-- G: number, MAC
abbrev pub mac_in : List ℕ → List ℕ
mac_in r = part r 5 mac_size

-- I: PPA, called, calling. An address is the MAC, then the SAP.
abbrev pub called_in : List ℕ → List ℕ
called_in r = part r 5 address_size

abbrev pub calling_in : List ℕ → List ℕ
calling_in r = part r 12 address_size

-- A: stream, address
abbrev pub address_in : List ℕ → List ℕ
address_in r = part r 2 address_size

-- the SAP or type of an address of that form, at the place where its MAC ends
unfoldable pub sap_at : List ℕ → Form → ℕ → ℕ
sap_at r WithSap at = get_or r at 0
sap_at r WithType at = be16_at r at

-- M of a pair: its length, then its data
abbrev pub data_length_in : List ℕ → ℕ
data_length_in r = get_or r (message_size + 2) 0

abbrev pub data_in : List ℕ → List ℕ
data_in r = part r (message_size + 2) body_size

-- f: PPA, address length, called, calling, data length, data
abbrev pub frame_called_in : List ℕ → Form → List ℕ
frame_called_in r form = part r 6 (length_of form)

abbrev pub frame_calling_in : List ℕ → Form → List ℕ
frame_calling_in r form = part r 14 (length_of form)

abbrev pub frame_data_in : List ℕ → List ℕ
frame_data_in r = part r 22 body_size

-- A message, with the length of its data: 0 where no M belongs to it. Refusal 10 for 0x07 without its M, or nonzero padding.
unfoldable pub pair_as : List ℕ → Input
pair_as r =
    not (has_data r) ⇒ input.Malformed
    ∣ has_nonzero_past r (message_size + head_size) most_data (data_length_in r) ⇒ input.Malformed
    ∣ input.Message (stream_in r) (size_in r) (data_length_in r)

unfoldable pub message_as : List ℕ → Input
message_as r =
    has_nonzero_past r head_size block_size (size_in r) ⇒ input.Malformed
    ∣ wants_data r ⇒ pair_as r
    ∣ input.Message (stream_in r) (size_in r) 0

-- A frame: refusal 10 for an address length not 7 or 8, or nonzero padding.
unfoldable pub frame_as : List ℕ → Input
frame_as r =
    not (either (eqb (get_or r 5 0) address_size) (eqb (get_or r 5 0) most_address)) ⇒ input.Malformed
    ∣ has_nonzero_past r 6 most_address (get_or r 5 0) ⇒ input.Malformed
    ∣ has_nonzero_past r 14 most_address (get_or r 5 0) ⇒ input.Malformed
    ∣ has_nonzero_past r 23 most_data (get_or r 22 0) ⇒ input.Malformed
    ∣ input.Frame (record { ppa = record { 0 = be32_at r 1 }; form = form_in (get_or r 5 0); sap = sap_at r (form_in (get_or r 5 0)) 12; bytes = get_or r 22 0 })

-- The record's values, by its kind.
abbrev pub input_as : Kind → List ℕ → Input
input_as kind.AddPpa r = input.AddPpa (record { 0 = be32_at r 1 })
input_as kind.Open r = input.Open
input_as kind.Close r = input.Close (stream_in r)
input_as kind.Message r = message_as r
input_as kind.CallArrives r = input.CallArrives (record { 0 = be32_at r 1 }) (get_or r 11 0)
input_as kind.PeerAccepted r = input.PeerAccepted (stream_in r)
input_as kind.PeerGone r = input.PeerGone (stream_in r) (be32_at r 2)
input_as kind.CallWithdrawn r = input.CallWithdrawn (stream_in r) (record { 0 = be32_at r 2 }) (be32_at r 6)
input_as kind.PeerReset r = input.PeerReset (stream_in r) (be32_at r 2)
input_as kind.ResetConfirmed r = input.ResetConfirmed (stream_in r)
-- an M by itself
input_as kind.Data r = input.Malformed
input_as kind.Frame r = frame_as r
input_as kind.Unknown r = input.Unreadable

-- A call reads the one record at the start of its lent bytes, a message of code 0x07 with its M.
unfoldable pub input_of : List ℕ → Input
input_of r = eqb (record_size r) 0 ⇒ input.Unreadable ∣ input_as (kind_of (get_or r 0 0)) r
