-- 'State rows', as one table, in the paper's order.
use Rattle.std.specs.Prelude.{ℕ, Bool, true, false, List, [], ◌∷◌, ◌++◌, map, eqb, None, Option, Some}
use Rattle.ledger.specs.Choice.{pick, both}
use Rattle.paper.specs.Base.{number}
use Rattle.paper.specs.declared.Stream.{Stream}
use Rattle.paper.specs.declared.StateRow.{StateRow}

-- ---- what comes to a stream: a request, by its code, or an event, by its letter
abbrev pub info_req : ℕ
info_req = 0x00

abbrev pub bind_req : ℕ
bind_req = 0x01

abbrev pub unbind_req : ℕ
unbind_req = 0x02

abbrev pub unitdata_req : ℕ
unitdata_req = 0x07

abbrev pub attach_req : ℕ
attach_req = 0x0b

abbrev pub detach_req : ℕ
detach_req = 0x0c

abbrev pub connect_req : ℕ
connect_req = 0x0d

abbrev pub connect_res : ℕ
connect_res = 0x0f

abbrev pub token_req : ℕ
token_req = 0x11

abbrev pub disconnect_req : ℕ
disconnect_req = 0x13

abbrev pub reset_req : ℕ
reset_req = 0x17

abbrev pub reset_res : ℕ
reset_res = 0x19

abbrev pub call_arrives : ℕ
call_arrives = 73  -- I

abbrev pub peer_accepted : ℕ
peer_accepted = 65  -- A

abbrev pub peer_gone : ℕ
peer_gone = 68  -- D

abbrev pub call_withdrawn : ℕ
call_withdrawn = 87  -- W

abbrev pub peer_reset : ℕ
peer_reset = 82  -- R

abbrev pub reset_confirmed : ℕ
reset_confirmed = 83  -- S

abbrev pub frame_arrives : ℕ
frame_arrives = 102  -- f

-- ---- how an open stream can stand: a state, and a mode in it

pub record Seat : Type 0 where
  pub state : ℕ
  pub mode : ℕ

abbrev pub seat : ℕ → ℕ → Seat
seat n m = record { state = n; mode = m }

-- The mode is that of the bind: 0 before it, 1 (connection) or 2 (connectionless) in 6, 1 above.
abbrev pub seats : List Seat
seats = seat 0 0 ∷ seat 3 0 ∷ seat 6 1 ∷ seat 6 2 ∷ seat 8 1 ∷ seat 9 1 ∷ seat 11 1 ∷ seat 12 1 ∷ seat 13 1 ∷ []

-- ---- the rows

-- In a mode, what comes leads from one state to another.
abbrev pub leads : ℕ → ℕ → ℕ → ℕ → StateRow
leads cause mode from to = record { from = from; mode = mode; cause = cause; to = to; last = to }

-- The same where an open indication goes: to the last state if it was the last one.
abbrev pub loses : ℕ → ℕ → ℕ → ℕ → ℕ → StateRow
loses cause mode from to last = record { from = from; mode = mode; cause = cause; to = to; last = last }

-- unchanged
abbrev pub stays : ℕ → Seat → StateRow
stays cause x = leads cause x.mode x.state x.state

abbrev pub state_rows : List StateRow
state_rows =
    -- INFO_REQ and TOKEN_REQ: every state, unchanged.
    map (stays info_req) seats
    ++ map (stays token_req) seats
    -- ATTACH 0 to 3, DETACH 3 to 0, BIND 3 to 6, UNBIND 6 to 3
    ++ (leads attach_req 0 0 3
    ∷ leads detach_req 0 3 0
    ∷ leads bind_req 0 3 6
    ∷ leads unbind_req 1 6 3
    ∷ leads unbind_req 2 6 3
    -- On a stream bound in mode 1: CONNECT_REQ 6 to 8; CONNECT_RES from 9
    ∷ leads connect_req 1 6 8
    ∷ loses connect_res 1 9 9 6
    -- DISCONNECT_REQ from 8, 9, 11, 12, 13: a denial leads to 6 or 9, and other disconnects to 6
    ∷ leads disconnect_req 1 8 6
    ∷ loses disconnect_req 1 9 9 6
    ∷ leads disconnect_req 1 11 6
    ∷ leads disconnect_req 1 12 6
    ∷ leads disconnect_req 1 13 6
    -- RESET_REQ 11 to 12; RESET_RES 13 to 11
    ∷ leads reset_req 1 11 12
    ∷ leads reset_res 1 13 11
    -- Events: I 6 or 9 to 9
    ∷ leads call_arrives 1 6 9
    ∷ leads call_arrives 1 9 9
    -- A 8 to 11
    ∷ leads peer_accepted 1 8 11
    -- D 8, 11, 12, 13 to 6
    ∷ leads peer_gone 1 8 6
    ∷ leads peer_gone 1 11 6
    ∷ leads peer_gone 1 12 6
    ∷ leads peer_gone 1 13 6
    -- W: a listener that loses an open indication goes to 6 at the last one
    ∷ loses call_withdrawn 1 9 9 6
    -- R 11 to 13, S 12 to 11
    ∷ leads peer_reset 1 11 13
    ∷ leads reset_confirmed 1 12 11
    -- document 02: on a stream bound in mode 2 a datagram goes and a frame comes, unchanged
    ∷ stays unitdata_req (seat 6 2)
    ∷ stays frame_arrives (seat 6 2)
    ∷ [])

-- ---- a stream's row for what comes

-- x is the row for a state, a mode and what comes
abbrev pub is_row : ℕ → ℕ → ℕ → StateRow → Bool
is_row state mode cause x = both (eqb x.cause cause) (both (eqb x.from state) (eqb x.mode mode))

-- the first of a list, or none
abbrev pub found_in : List StateRow → ℕ → ℕ → ℕ → Option StateRow
found_in [] state mode cause = None
found_in (x ∷ rows) state mode cause = pick (is_row state mode cause x) (Some x) (found_in rows state mode cause)

unfoldable pub found : List StateRow → Stream → ℕ → Option StateRow
found rows s cause = found_in rows (number s) s.mode cause

-- there is one
abbrev pub is_found : Option StateRow → Bool
is_found (Some x) = true
is_found None = false
