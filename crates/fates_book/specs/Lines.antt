-- What one call says of connection indications: read from the bytes lent, the stream opened and the bytes written.
use Rattle.std.specs.Prelude.{ℕ, zero, suc, ◌+◌, List, [], ◌∷◌, ◌++◌, map, Bool, true, length, get_or, drop, eqb}
use Rattle.ledger.specs.Choice.{both, ◌⇒◌∣◌}
use Rattle.octets.specs.Numbers.{be32_at}
use Rattle.paper.specs.RecordsIn.{input_of, head_size}
use Rattle.paper.specs.declared.Input.{Input}
use Rattle.paper.specs.declared.Input.TheVariants as input
use Rattle.fates_book.specs.declared.End.{End}
use Rattle.fates_book.specs.declared.End.TheVariants.{Accepted, Denied, Withdrawn, Dropped}
use Rattle.fates_book.specs.declared.Line.{Line}
use Rattle.fates_book.specs.declared.Line.TheVariants.{Began, Came, Went, Given, Nothing}
use Rattle.paper.specs.RecordsIn.{is_message}
use Rattle.paper.specs.RecordsOut.{size_out, start_size}

-- ---- the record lent

-- The stream that a message came from. An order a names the stream that carries the call; the indication is this one's.
abbrev pub asker : Input → ℕ
asker input.Unreadable = 0
asker input.Malformed = 0
asker (input.AddPpa p) = 0
asker input.Open = 0
asker (input.Close i) = i
asker (input.Message i l n) = i
asker (input.CallArrives p sap) = 0
asker (input.PeerAccepted i) = i
asker (input.PeerGone i reason) = i
asker (input.CallWithdrawn i n reason) = i
asker (input.PeerReset i reason) = i
asker (input.ResetConfirmed i) = i
asker (input.Frame f) = 0

-- What an order d with a number means: dropped for a close, denied else.
abbrev pub parting : Input → End
parting input.Unreadable = Denied
parting input.Malformed = Denied
parting (input.AddPpa p) = Denied
parting input.Open = Denied
parting (input.Close i) = Dropped
parting (input.Message i l n) = Denied
parting (input.CallArrives p sap) = Denied
parting (input.PeerAccepted i) = Denied
parting (input.PeerGone i reason) = Denied
parting (input.CallWithdrawn i n reason) = Denied
parting (input.PeerReset i reason) = Denied
parting (input.ResetConfirmed i) = Denied
parting (input.Frame f) = Denied

-- ---- a record written, at the start of some bytes

-- a d or a DISCONNECT_IND with number 0 is about a connection, not about an indication
unfoldable pub end_line : ℕ → ℕ → End → Line
end_line i n e = eqb n 0 ⇒ Nothing ∣ Went i n e

-- of the messages up: BIND_ACK, CONNECT_IND, DISCONNECT_IND
unfoldable pub up_line : List ℕ → Line
up_line b =
    eqb (be32_at b head_size) 0x04 ⇒ Given (get_or b 1 0) (be32_at b (head_size + 16))
    ∣ eqb (be32_at b head_size) 0x0e ⇒ Came (get_or b 1 0) (be32_at b (head_size + 4))
    ∣ eqb (be32_at b head_size) 0x14 ⇒ end_line (get_or b 1 0) (be32_at b (head_size + 12)) Withdrawn
    ∣ Nothing

unfoldable pub line_at : Input → List ℕ → Line
line_at q b =
    eqb (get_or b 0 0) 97 ⇒ Went (asker q) (be32_at b start_size) Accepted  -- a
    ∣ eqb (get_or b 0 0) 100 ⇒ end_line (get_or b 1 0) (be32_at b start_size) (parting q)  -- d
    ∣ is_message (get_or b 0 0) ⇒ up_line b
    ∣ Nothing

-- ---- the records written

-- one behind the other, at most so many: each with all that stands behind it
unfoldable pub records_in : ℕ → List ℕ → List (List ℕ)
records_in zero b = []
records_in (suc k) [] = []
records_in (suc k) (x ∷ b) = (x ∷ b) ∷ records_in k (drop (size_out x) (x ∷ b))

abbrev pub lines_in : ℕ → Input → List ℕ → List Line
lines_in k q b = map (line_at q) (records_in k b)

-- ---- a call

-- a token is its stream's number plus 1, and 0 where none was opened
abbrev pub opening_lines : ℕ → List Line
opening_lines zero = []
opening_lines (suc i) = Began i ∷ []

abbrev pub lines_of : List ℕ → ℕ → List ℕ → List Line
lines_of lent opened written = opening_lines opened ++ lines_in (length written) (input_of lent) written

-- the lines that say something
abbrev pub telling : List Line → List Line
telling [] = []
telling (Began i ∷ ys) = Began i ∷ telling ys
telling (Came i n ∷ ys) = Came i n ∷ telling ys
telling (Went i n e ∷ ys) = Went i n e ∷ telling ys
telling (Given i g ∷ ys) = Given i g ∷ telling ys
telling (Nothing ∷ ys) = telling ys

-- ---- which record lent may say which line

abbrev pub is_message_of : ℕ → List ℕ → Bool
is_message_of i r = both (is_message (get_or r 0 0)) (eqb (get_or r 1 0) i)

-- an O that a stream was opened; an I that an indication came; a message what its stream was granted, and that an indication of its
-- stream was accepted or denied; a W that its own was withdrawn; an X that one of its stream was dropped
abbrev pub may_be_said : List ℕ → Line → Bool
may_be_said r (Began i) = eqb (get_or r 0 0) 79
may_be_said r (Came i n) = eqb (get_or r 0 0) 73
may_be_said r (Given i g) = is_message_of i r
may_be_said r (Went i n Accepted) = is_message_of i r
may_be_said r (Went i n Denied) = is_message_of i r
may_be_said r (Went i n Withdrawn) = both (eqb (get_or r 0 0) 87) (both (eqb (get_or r 1 0) i) (eqb (be32_at r 2) n))
may_be_said r (Went i n Dropped) = both (eqb (get_or r 0 0) 88) (eqb (get_or r 1 0) i)
may_be_said r Nothing = true
