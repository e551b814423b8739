-- 'Messages', the ones up: the fields after the code, then what stands behind them, and the sizes.
use Rattle.std.specs.Prelude.{ℕ, ◌+◌, ◌-◌, ◌/◌, ◌%◌, ◌^◌, Bool, true, false, List, [], ◌∷◌, ◌++◌, replicate, ltb}
use Rattle.ledger.specs.Choice.{pick}
use Rattle.octets.specs.Blocks.{flat}
use Rattle.paper.specs.Base.{mac_size, address_size, length_of, number, header_number, is_among, told_states}
use Rattle.paper.specs.declared.Form.{Form}
use Rattle.paper.specs.declared.Stream.{Stream}
use Rattle.paper.specs.declared.Reply.{Reply}
use Rattle.paper.specs.declared.Reply.TheVariants.{InfoAck, BindAck, ErrorAck, OkAck, ConnectInd, ConnectCon, TokenAck, DisconnectInd, ResetInd, ResetCon, UderrorInd}

-- The originator is always 0x0701.
abbrev pub originator : ℕ
originator = 0x0701

-- An address is the MAC, then 1 byte of SAP or 2 of Ethernet type.
abbrev pub sap_bytes : ℕ → List ℕ
sap_bytes sap = pick (ltb sap 256) (sap ∷ []) (sap / 256 ∷ sap % 256 ∷ [])

unfoldable pub address_of : List ℕ → ℕ → List ℕ
address_of mac sap = mac ++ sap_bytes sap

abbrev pub sap_length : ℕ → ℕ
sap_length sap = pick (ltb sap 256) 1 2

abbrev address_length : ℕ → ℕ
address_length sap = mac_size + sap_length sap

-- INFO_ACK in order, with the five fields that differ from stream to stream
abbrev pub info_fields : ℕ → ℕ → ℕ → ℕ → ℕ → List ℕ
info_fields state address sap mode offset =
    1497 ∷ 0 ∷ address ∷ 0 ∷ 0 ∷ state ∷ sap ∷ mode ∷ 0 ∷ 0 ∷ 0 ∷ 0 ∷ 0x0501 ∷ offset ∷ 2 ∷ 6 ∷ (76 + address) ∷ 0 ∷ []

-- Unbound: address length, SAP length and address offset 0, mode 3. Bound: address offset 76, the SAP length is minus 1 or
-- minus 2 in two's complement, the bound mode. The state is by its number in the public header (document 02).
unfoldable pub info_of : Stream → List ℕ
info_of s =
    pick (is_among told_states s)
    (info_fields (header_number (number s)) (address_length s.sap) (2 ^ 32 - sap_length s.sap) s.mode 76)
    (info_fields (header_number (number s)) 0 0 3 0)

-- then the address if bound, then six bytes of 0xff
unfoldable pub info_tail : List ℕ → Stream → List ℕ
info_tail mac s = pick (is_among told_states s) (address_of mac s.sap) [] ++ replicate mac_size 0xff

-- At most so much stands behind the fields of a reply: called and calling, or as much of INFO_ACK's, an address with a type
-- and the six bytes.
abbrev pub most_tail : ℕ
most_tail = address_size + address_size

-- The code, and the fields after it.
abbrev pub fields_of : Reply → List ℕ
fields_of (InfoAck s) = 0x03 ∷ info_of s
fields_of (BindAck sap granted) = 0x04 ∷ sap ∷ address_length sap ∷ 24 ∷ granted ∷ 0 ∷ []
fields_of (ErrorAck code error) = 0x05 ∷ code ∷ error ∷ 0 ∷ []
fields_of (OkAck code) = 0x06 ∷ code ∷ []
fields_of (ConnectInd n) = 0x0e ∷ n.0 ∷ 7 ∷ 36 ∷ 7 ∷ 43 ∷ 0 ∷ 0 ∷ 0 ∷ []
fields_of ConnectCon = 0x10 ∷ 7 ∷ 24 ∷ 0 ∷ 0 ∷ 0 ∷ []
fields_of (TokenAck k) = 0x12 ∷ k.0 ∷ []
fields_of (DisconnectInd reason n) = 0x14 ∷ originator ∷ reason ∷ n.0 ∷ []
fields_of (ResetInd reason) = 0x18 ∷ originator ∷ reason ∷ []
fields_of ResetCon = 0x1a ∷ []
-- document 02: no address, so length and offset are 0; the UNIX error 0, then the error
fields_of (UderrorInd error) = 0x09 ∷ 0 ∷ 0 ∷ 0 ∷ error ∷ []

-- UNITDATA_IND, with addresses of a form (document 02): called length, offset 24, calling length, the offset right behind
-- called, group flag 0; then called and calling
abbrev pub unitdata_fields : Form → List ℕ
unitdata_fields form = 0x08 ∷ length_of form ∷ 24 ∷ length_of form ∷ (24 + length_of form) ∷ 0 ∷ []

-- the L bytes of a message up
unfoldable pub content_of : Reply → List ℕ → List ℕ
content_of reply tail = flat (fields_of reply) ++ tail

-- The sizes. CONNECT_IND's and CONNECT_CON's count the addresses behind the fields; INFO_ACK's does not, nor does
-- BIND_ACK's: '24 +'.
abbrev pub reply_size : Reply → ℕ
reply_size (InfoAck s) = 76
reply_size (BindAck sap granted) = 24
reply_size (ErrorAck code error) = 16
reply_size (OkAck code) = 8
reply_size (ConnectInd n) = 50
reply_size ConnectCon = 31
reply_size (TokenAck k) = 8
reply_size (DisconnectInd reason n) = 16
reply_size (ResetInd reason) = 12
reply_size ResetCon = 4
reply_size (UderrorInd error) = 20

-- how many bytes of address a size counts: called and calling; the address
abbrev pub address_bytes : Reply → ℕ
address_bytes (InfoAck s) = 0
address_bytes (BindAck sap granted) = 0
address_bytes (ErrorAck code error) = 0
address_bytes (OkAck code) = 0
address_bytes (ConnectInd n) = address_size + address_size
address_bytes ConnectCon = address_size
address_bytes (TokenAck k) = 0
address_bytes (DisconnectInd reason n) = 0
address_bytes (ResetInd reason) = 0
address_bytes ResetCon = 0
address_bytes (UderrorInd error) = 0

-- Codes 0x03 to 0x06 and 0x12 go up as C, the other replies as P.
abbrev pub goes_as_c : Reply → Bool
goes_as_c (InfoAck s) = true
goes_as_c (BindAck sap granted) = true
goes_as_c (ErrorAck code error) = true
goes_as_c (OkAck code) = true
goes_as_c (ConnectInd n) = false
goes_as_c ConnectCon = false
goes_as_c (TokenAck k) = true
goes_as_c (DisconnectInd reason n) = false
goes_as_c (ResetInd reason) = false
goes_as_c ResetCon = false
goes_as_c (UderrorInd error) = false
