-- 'Measured examples': the cases marked *, as one list. Each is a call on a table, with all that it must come to: the
-- refusal number, the token, every byte written, the table after it. The calls that lead from a fresh table to those
-- tables are held to the same.
use Rattle.std.specs.Prelude.{ℕ, true, false, List, [], ◌∷◌, ◌++◌, map, replicate}
use Rattle.octets.specs.Numbers.{be32}
use Rattle.octets.specs.Blocks.{flat, pad}
use Rattle.paper.specs.Base.{closed, Table, fresh}
use Rattle.paper.specs.RecordsOut.{all_bytes}
use Rattle.paper.specs.Refusals.{Outcome}
use Rattle.paper.specs.Step.{step}
use Rattle.paper.specs.declared.State.TheVariants.{Unattached, Unbound, Idle, OutconPending, InconPending}
use Rattle.paper.specs.declared.Stream.{Stream}
use Rattle.paper.specs.declared.Ppa.{Ppa}

-- P and C, in and out: stream 0, length L, 96 bytes of block, zero behind the content
abbrev P : ℕ → List ℕ → List ℕ
P l content = (80 ∷ 0 ∷ l ∷ []) ++ pad content

abbrev C : ℕ → List ℕ → List ℕ
C l content = (67 ∷ 0 ∷ l ∷ []) ++ pad content

-- the PPA's MAC, the address of stream 0 once bound, and the peer's
abbrev mac : List ℕ
mac = 2 ∷ 0 ∷ 0 ∷ 0 ∷ 0 ∷ 1 ∷ []

abbrev pub own : List ℕ
own = mac ++ (0x80 ∷ [])

abbrev pub peer : List ℕ
peer = 2 ∷ 0 ∷ 0 ∷ 0 ∷ 0 ∷ 2 ∷ 0x84 ∷ []

-- ---- records in

-- G 00000001 020000000001
abbrev add_ppa : List ℕ
add_ppa = 71 ∷ be32 1 ++ mac

-- O
abbrev open_stream : List ℕ
open_stream = 79 ∷ []

-- I 00000001 02000000000180 02000000000284
abbrev pub rings_in : List ℕ
rings_in = 73 ∷ be32 1 ++ own ++ peer

abbrev info_message : List ℕ
info_message = P 4 (flat (0x00 ∷ []))

abbrev attach_message : List ℕ
attach_message = P 8 (flat (0x0b ∷ 1 ∷ []))

-- mode 1, conn_mgmt 0
abbrev bind_message : ℕ → ℕ → List ℕ
bind_message sap most = P 20 (flat (0x01 ∷ sap ∷ most ∷ 0x00010000 ∷ 0 ∷ []))

-- the address stands at 24
abbrev connect_message : ℕ → List ℕ
connect_message offset = P 31 (flat (0x0d ∷ 7 ∷ offset ∷ 0 ∷ 0 ∷ 0 ∷ []) ++ peer)

-- token 0: on the same stream
abbrev accept_message : ℕ → List ℕ
accept_message n = P 24 (flat (0x0f ∷ n ∷ 0 ∷ 0 ∷ 0 ∷ 0 ∷ []))

-- ---- records out

-- INFO_ACK in order: 1497, 0, address length, 0, 0, state, SAP length, mode, 0, 0, 0, 0, 0x0501, address offset, 2, 6,
-- broadcast offset, 0; then the address if bound, then six bytes of 0xff.
abbrev info_ack_unattached : List ℕ
info_ack_unattached =
    C 82 (flat (0x03 ∷ 1497 ∷ 0 ∷ 0 ∷ 0 ∷ 0 ∷ 4 ∷ 0 ∷ 3 ∷ 0 ∷ 0 ∷ 0 ∷ 0 ∷ 0x0501 ∷ 0 ∷ 2 ∷ 6 ∷ 76 ∷ 0 ∷ []) ++ replicate 6 0xff)

abbrev info_ack_bound : List ℕ
info_ack_bound =
    C 89
    (flat (0x03 ∷ 1497 ∷ 0 ∷ 7 ∷ 0 ∷ 0 ∷ 3 ∷ 0xffffffff ∷ 1 ∷ 0 ∷ 0 ∷ 0 ∷ 0 ∷ 0x0501 ∷ 76 ∷ 2 ∷ 6 ∷ 83 ∷ 0 ∷ []) ++ own ++ replicate 6 0xff)

-- SAP, address length, offset 24, max_conind, xidtest 0; address
abbrev bind_ack : ℕ → List ℕ
bind_ack granted = C 31 (flat (0x04 ∷ 0x80 ∷ 7 ∷ 24 ∷ granted ∷ 0 ∷ []) ++ own)

-- request code, error (BADADDR 1, BADPRIM 9, PENDING 0x1b), 0
abbrev error_ack : ℕ → ℕ → List ℕ
error_ack request error = C 16 (flat (0x05 ∷ request ∷ error ∷ 0 ∷ []))

abbrev ok_ack : ℕ → List ℕ
ok_ack request = C 8 (flat (0x06 ∷ request ∷ []))

abbrev connect_ind : ℕ → List ℕ
connect_ind n = P 50 (flat (0x0e ∷ n ∷ 7 ∷ 36 ∷ 7 ∷ 43 ∷ 0 ∷ 0 ∷ 0 ∷ []) ++ own ++ peer)

-- c: stream 0, called
abbrev connect : List ℕ
connect = 99 ∷ 0 ∷ peer

-- ---- tables: PPA 1 alone, and of the streams at most stream 0 open

abbrev pub ppa : Ppa
ppa = record { number = record { 0 = 1 }; mac = mac }

abbrev pub none_opened : Table
none_opened = record { remembers = false; counter = 1; ppas = ppa ∷ []; slots = replicate 16 closed }

-- the counter, how stream 0 stands, its open indications
abbrev pub stream_zero : ℕ → Stream → List ℕ → Table
stream_zero counter s waiting =
    record { remembers = true; counter = counter; ppas = ppa ∷ []; slots = record { is_open = true; stream = s; waiting = waiting } ∷ replicate 15 closed }

abbrev pub unattached : Table
unattached = stream_zero 1 (record { state = Unattached; mode = 0; sap = 0; ppa = record { 0 = 0 }; granted = 0 }) []

abbrev pub attached : Table
attached = stream_zero 1 (record { state = Unbound; mode = 0; sap = 0; ppa = record { 0 = 1 }; granted = 0 }) []

abbrev pub bound_stream : ℕ → Table
bound_stream granted = stream_zero 1 (record { state = Idle; mode = 1; sap = 0x80; ppa = record { 0 = 1 }; granted = granted }) []

abbrev pub connecting : Table
connecting = stream_zero 1 (record { state = OutconPending; mode = 1; sap = 0x80; ppa = record { 0 = 1 }; granted = 2 }) []

abbrev pub ringing : ℕ → List ℕ → Table
ringing counter waiting = stream_zero counter (record { state = InconPending; mode = 1; sap = 0x80; ppa = record { 0 = 1 }; granted = 2 }) waiting

-- ---- calls, and what they come to

-- an `Outcome` as its caller sees it: its records as bytes
pub record Seen : Type 0 where
  pub refusal : ℕ
  pub token : ℕ
  pub bytes : List ℕ
  pub table : Table

abbrev seen_of : Outcome → Seen
seen_of o = record { refusal = o.refusal; token = o.opened; bytes = all_bytes o.records; table = o.table }

abbrev refuses : ℕ → Table → Seen
refuses n t = record { refusal = n; token = 0; bytes = []; table = t }

abbrev opens_with : ℕ → Table → Seen
opens_with token t = record { refusal = 0; token = token; bytes = []; table = t }

abbrev writes : List ℕ → Table → Seen
writes bytes t = record { refusal = 0; token = 0; bytes = bytes; table = t }

pub record Case : Type 0 where
  pub before : Table
  pub lent : List ℕ
  pub room : ℕ
  pub due : Seen

abbrev pub due_of : Case → Seen
due_of x = x.due

abbrev pub came_of : Case → Seen
came_of x = seen_of (step x.before x.lent x.room)

-- The calls that lead up to the cases, each on the table that the one before has left: those of the replay example, and
-- a second I.
abbrev pub lead_up : List Case
lead_up =
    record { before = fresh; lent = add_ppa; room = 128; due = writes [] none_opened }
    ∷ record { before = none_opened; lent = open_stream; room = 128; due = opens_with 1 unattached }
    ∷ record { before = unattached; lent = attach_message; room = 128; due = writes (ok_ack 0x0b) attached }
    ∷ record { before = attached; lent = bind_message 0x80 2; room = 128; due = writes (bind_ack 2) (bound_stream 2) }
    ∷ record { before = bound_stream 2; lent = rings_in; room = 128; due = writes (connect_ind 1) (ringing 2 (1 ∷ [])) }
    ∷ record { before = ringing 2 (1 ∷ []); lent = rings_in; room = 128; due = writes (connect_ind 2) (ringing 3 (1 ∷ 2 ∷ [])) }
    ∷ []

-- the tables on the way: a fresh one, and the one that each of these calls must leave
abbrev pub on_the_way : List Table
on_the_way = fresh ∷ map (λ (x : Case). x.due.table) lead_up

abbrev pub starred : List Case
starred =
    -- INFO_REQ unattached: state field 4 (document 02), L 82. Bound to 0x80: L 89.
    record { before = unattached; lent = info_message; room = 128; due = writes info_ack_unattached unattached }
    ∷ record { before = bound_stream 2; lent = info_message; room = 128; due = writes info_ack_bound (bound_stream 2) }
    -- SAP 0x81, 0x5ff: BADADDR.
    ∷ record { before = attached; lent = bind_message 0x81 2; room = 128; due = writes (error_ack 0x01 1) attached }
    ∷ record { before = attached; lent = bind_message 0x5ff 2; room = 128; due = writes (error_ack 0x01 1) attached }
    -- ATTACH with L 7: BADPRIM. L 3: refusal 4. L 97: 5. Room 127: 1.
    ∷ record { before = unattached; lent = P 7 (be32 0x0b); room = 128; due = writes (error_ack 0x0b 9) unattached }
    ∷ record { before = unattached; lent = P 3 []; room = 128; due = refuses 4 unattached }
    ∷ record { before = unattached; lent = P 97 []; room = 128; due = refuses 5 unattached }
    ∷ record { before = unattached; lent = info_message; room = 127; due = refuses 1 unattached }
    -- CONNECT_REQ, L 31: offset 24 is served, offset 25 BADADDR, offset 4,294,967,295 BADADDR.
    ∷ record { before = bound_stream 2; lent = connect_message 24; room = 128; due = writes connect connecting }
    ∷ record { before = bound_stream 2; lent = connect_message 25; room = 128; due = writes (error_ack 0x0d 1) (bound_stream 2) }
    ∷ record { before = bound_stream 2; lent = connect_message 4294967295; room = 128; due = writes (error_ack 0x0d 1) (bound_stream 2) }
    -- max_conind 9 grants 8.
    ∷ record { before = attached; lent = bind_message 0x80 9; room = 128; due = writes (bind_ack 8) (bound_stream 8) }
    -- Two open, accept on the same stream: PENDING.
    ∷ record { before = ringing 3 (1 ∷ 2 ∷ []); lent = accept_message 1; room = 128; due = writes (error_ack 0x0f 0x1b) (ringing 3 (1 ∷ 2 ∷ [])) }
    ∷ []

-- after how many of the calls that lead up each case stands
abbrev pub stands_after : List ℕ
stands_after = 2 ∷ 4 ∷ 3 ∷ 3 ∷ 2 ∷ 2 ∷ 2 ∷ 2 ∷ 4 ∷ 4 ∷ 4 ∷ 3 ∷ 6 ∷ []
