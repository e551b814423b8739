-- 'Answers with ERROR_ACK', step 4: which SAPs a bind may name, what it grants, who listens.
use Rattle.std.specs.Prelude.{ℕ, ◌%◌, min, Bool, not, List, [], ◌∷◌, eqb, ltb, leb}
use Rattle.ledger.specs.Choice.{pick, both, either}
use Rattle.ledger.specs.Tally.{has, first_of}
use Rattle.paper.specs.Base.{stream_total, Slot, Table}
use Rattle.paper.specs.declared.Stream.{Stream}
use Rattle.paper.specs.declared.PpaNumber.{PpaNumber}

-- The reserved lists. The manual refers to RFC 1010, which calls one SAP reserved, 'Reserved (DOD IP)', and no type.
abbrev pub reserved_saps : List ℕ
reserved_saps = 0x06 ∷ []

abbrev pub reserved_types : List ℕ
reserved_types = []

-- an even unreserved number under 256
unfoldable pub is_sap : ℕ → Bool
is_sap n = both (ltb n 256) (both (eqb (n % 2) 0) (not (has n reserved_saps)))

-- an unreserved type 0x600 to 0xffff
unfoldable pub is_type : ℕ → Bool
is_type n = both (leb 0x600 n) (both (leb n 0xffff) (not (has n reserved_types)))

-- The count granted is the smaller of that asked and 8; in mode 2 it is 0.
abbrev pub most_open : ℕ
most_open = 8

unfoldable pub grant_of : ℕ → ℕ → ℕ
grant_of mode most = pick (eqb mode 2) 0 (min most most_open)

-- What a bind may leave: mode 1 (connection) with a SAP, mode 2 (connectionless) with a SAP or a type, what is granted.
unfoldable pub as_bind_allows : Stream → Bool
as_bind_allows s =
    either (both (eqb s.mode 1) (both (is_sap s.sap) (leb s.granted most_open)))
    (both (eqb s.mode 2) (both (either (is_sap s.sap) (is_type s.sap)) (eqb s.granted 0)))

-- A stream listens from a bind that granted over 0 until unbind or close.
unfoldable pub listens : PpaNumber → ℕ → Stream → Bool
listens p sap s = both (ltb 0 s.granted) (both (eqb s.ppa.0 p.0) (eqb s.sap sap))

-- the stream that listens for a PPA and SAP (16 where nobody does)
unfoldable pub listener : Table → PpaNumber → ℕ → ℕ
listener t p sap = first_of (λ (x : Slot). listens p sap x.stream) t.slots

unfoldable pub is_listened_for : Table → PpaNumber → ℕ → Bool
is_listened_for t p sap = ltb (listener t p sap) stream_total
