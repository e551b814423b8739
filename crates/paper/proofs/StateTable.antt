-- Of the state rows themselves: each claim is one test, computed over the whole table. The last reads it a second time, by state.
use mathlib.Core.Path.{◌≡◌, refl}
use mathlib.Core.Bool.{true}
use mathlib.Core.List.{List, [], ◌∷◌, ◌++◌, map}
use lib.Dec.{eqb}
use Rattle.ledger.specs.Choice.{pick, both}
use Rattle.ledger.specs.Tally.{one_if, has, sum_of, all_of}
use Rattle.paper.specs.Base.{every_state}
use Rattle.paper.specs.StateRows.{info_req, bind_req, unbind_req, attach_req, detach_req, connect_req, connect_res, token_req, disconnect_req, reset_req, reset_res, unitdata_req, call_arrives, peer_accepted}
use Rattle.paper.specs.StateRows.{peer_gone, call_withdrawn, peer_reset, reset_confirmed, frame_arrives, Seat, seat, seats, leads, loses, stays, state_rows, is_row}
use Rattle.paper.specs.declared.StateRow.{StateRow}

-- No two rows are for one state, mode and cause: the order of the list is not asked.
pub each-once : all_of (λ (x : StateRow). eqb (sum_of (λ (y : StateRow). one_if (is_row x.from x.mode x.cause y)) state_rows) 1) state_rows ≡ true
each-once = refl

-- Each row is for a state and a mode in which a stream can stand.
pub each_from_a_seat : all_of (λ (x : StateRow). eqb (sum_of (λ (y : Seat). one_if (both (eqb y.state x.from) (eqb y.mode x.mode))) seats) 1) state_rows ≡ true
each_from_a_seat = refl

-- Each row leads to states that the paper has.
pub each_to_a_state : all_of (λ (x : StateRow). both (has x.to every_state) (has x.last every_state)) state_rows ≡ true
each_to_a_state = refl

-- ---- the table by state, as the manual orders it: every row from each, and where it leads

abbrev rows_from : Seat → List StateRow → List StateRow
rows_from z [] = []
rows_from z (x ∷ rows) = pick (both (eqb x.from z.state) (eqb x.mode z.mode)) (x ∷ rows_from z rows) (rows_from z rows)

abbrev in_each_state : Seat → List StateRow
in_each_state z = stays info_req z ∷ stays token_req z ∷ []

abbrev by_state : List (List StateRow)
by_state =
    -- 0, 3: no bind
    (in_each_state (seat 0 0) ++ (leads attach_req 0 0 3 ∷ []))
    ∷ (in_each_state (seat 3 0) ++ (leads detach_req 0 3 0 ∷ leads bind_req 0 3 6 ∷ []))
    -- 6, in mode 1 and in mode 2
    ∷ (in_each_state (seat 6 1) ++ (leads unbind_req 1 6 3 ∷ leads connect_req 1 6 8 ∷ leads call_arrives 1 6 9 ∷ []))
    ∷ (in_each_state (seat 6 2) ++ (leads unbind_req 2 6 3 ∷ leads unitdata_req 2 6 6 ∷ leads frame_arrives 2 6 6 ∷ []))
    -- 8: a connection is asked for
    ∷ (in_each_state (seat 8 1) ++ (leads disconnect_req 1 8 6 ∷ leads peer_accepted 1 8 11 ∷ leads peer_gone 1 8 6 ∷ []))
    -- 9: indications are open
    ∷ (in_each_state (seat 9 1) ++ (loses connect_res 1 9 9 6 ∷ loses disconnect_req 1 9 9 6 ∷ leads call_arrives 1 9 9 ∷ loses call_withdrawn 1 9 9 6 ∷ []))
    -- 11: it is up
    ∷ (in_each_state (seat 11 1) ++ (leads disconnect_req 1 11 6 ∷ leads reset_req 1 11 12 ∷ leads peer_gone 1 11 6 ∷ leads peer_reset 1 11 13 ∷ []))
    -- 12, 13: it is being reset, by the user or by the peer
    ∷ (in_each_state (seat 12 1) ++ (leads disconnect_req 1 12 6 ∷ leads peer_gone 1 12 6 ∷ leads reset_confirmed 1 12 11 ∷ []))
    ∷ (in_each_state (seat 13 1) ++ (leads disconnect_req 1 13 6 ∷ leads reset_res 1 13 11 ∷ leads peer_gone 1 13 6 ∷ []))
    ∷ []

pub by_state_lem : map (λ (z : Seat). rows_from z state_rows) seats ≡ by_state
by_state_lem = refl
