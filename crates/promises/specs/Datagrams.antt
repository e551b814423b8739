-- Connectionless traffic as a harness holds it (document 02): the bytes that a datagram sends, the streams that a frame comes to, the
-- bytes that each of them is shown. They are read from the bytes lent and from how the streams stand, by no state row and no record.
use Rattle.std.specs.Prelude.{ℕ, ◌+◌, Bool, List, [], ◌∷◌, ◌++◌, get_or, eqb}
use Rattle.ledger.specs.Choice.{both}
use Rattle.octets.specs.Numbers.{be32_at}
use Rattle.octets.specs.Runs.{part, same_bytes}
use Rattle.octets.specs.Blocks.{flat, pad_to, pad}
use Rattle.paper.specs.Base.{mac_size, most_address, length_of, form_of, is_in, Table, slot, stream, mac_of}
use Rattle.paper.specs.RecordsIn.{head_size, message_size, most_data, data_size, stream_in, sap_at, block_in}
use Rattle.paper.specs.declared.Stream.{Stream}

-- the length of a stream's own form of address: 7 where it is bound to a SAP, 8 where to a type
abbrev pub own_length : Stream → ℕ
own_length s = length_of (form_of s.sap)

-- What a datagram of a stream that stands as s sends: u, with the address as it stands in the block where the request says (at its third
-- field), zero past its length; then the M as it was lent.
abbrev pub sent_bytes : Stream → List ℕ → List ℕ
sent_bytes s r =
    (117 ∷ stream_in r ∷ own_length s ∷ [])
    ++ pad_to most_address (part (block_in r) (be32_at r (head_size + 8)) (own_length s))
    ++ part r message_size data_size

-- A frame comes to stream i: it is open, in state 6, bound in mode 2, attached to the PPA that the frame names (from byte 1 on); the
-- called MAC (from byte 6 on) is that PPA's; the frame's address length (byte 5) is that of the stream's own form, and what stands
-- behind the called MAC, in that form, is the SAP or type that the stream is bound to.
abbrev pub comes_to : Table → List ℕ → ℕ → Bool
comes_to t r i =
    both (slot t i).is_open
    (both (is_in 6 (stream t i))
    (both (eqb (stream t i).mode 2)
    (both (eqb (stream t i).ppa.0 (be32_at r 1))
    (both (same_bytes (part r 6 mac_size) (mac_of t (stream t i).ppa))
    (both (eqb (own_length (stream t i)) (get_or r 5 0))
    (eqb (stream t i).sap (sap_at r (form_of (stream t i).sap) 12)))))))

-- What a stream is shown of a frame whose addresses have n bytes: a P with UNITDATA_IND, its fields, then called and calling, zero up to
-- 96 bytes; then an M with the frame's data length and data.
abbrev pub shown_with : List ℕ → ℕ → ℕ → List ℕ
shown_with r n i =
    (80 ∷ i ∷ (24 + n + n) ∷ [])
    ++ pad (flat (0x08 ∷ n ∷ 24 ∷ n ∷ (24 + n) ∷ 0 ∷ []) ++ (part r 6 n ++ part r 14 n))
    ++ (77 ∷ i ∷ part r 22 (1 + most_data))

-- n is the frame's address length
abbrev pub shown_bytes : List ℕ → ℕ → List ℕ
shown_bytes r i = shown_with r (get_or r 5 0) i
