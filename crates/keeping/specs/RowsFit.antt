-- What is asked of a list of state rows so that calls by it keep a sound table sound: of each row, by what comes, a test of the
-- states that it leads from and to. (Of a frame's row nothing: a frame changes no stream, wherever its row leads.) The paper's rows
-- pass.
use Rattle.std.specs.Prelude.{ℕ, ◌≡◌, Bool, true, not, List, [], ◌∷◌, eqb}
use Rattle.ledger.specs.Choice.{both, either, asks}
use Rattle.ledger.specs.Tally.{has, all_of}
use Rattle.paper.specs.Base.{number_of, state_of, bound_states, connection_states}
use Rattle.paper.specs.Effects.{next}
use Rattle.paper.specs.StateRows.{info_req, bind_req, unbind_req, unitdata_req, attach_req, detach_req, connect_req, connect_res, token_req, disconnect_req}
use Rattle.paper.specs.StateRows.{reset_req, reset_res, call_arrives, peer_accepted, peer_gone, call_withdrawn, peer_reset, reset_confirmed}
use Rattle.paper.specs.declared.StateRow.{StateRow}

-- the numbers of the states that a row leads to
abbrev pub to_state : StateRow → ℕ
to_state x = number_of (next x)

abbrev pub last_state : StateRow → ℕ
last_state x = number_of (state_of x.last)

-- ---- from which state to which

-- A stream holds what the next state holds: a PPA but in 0, a binding in a bound state, of mode 1 in one of a connection.
abbrev pub holds_for : ℕ → ℕ → ℕ → Bool
holds_for from mode to =
    both (asks (not (eqb to 0)) (not (eqb from 0))) (both (asks (has to bound_states) (has from bound_states)) (asks (has to connection_states) (eqb mode 1)))

-- It moves so, and neither state has open indications.
abbrev pub may_lead : ℕ → ℕ → ℕ → Bool
may_lead from mode to = both (not (eqb from 9)) (both (not (eqb to 9)) (holds_for from mode to))

-- An attach leads to a state that holds a PPA alone.
abbrev pub may_attach : ℕ → ℕ → Bool
may_attach from to = both (not (eqb from 9)) (both (not (eqb to 0)) (not (has to bound_states)))

-- A bind leads from a state that holds a PPA to one that holds a binding of either mode.
abbrev pub may_bind : ℕ → ℕ → Bool
may_bind from to = both (both (not (eqb from 0)) (not (eqb from 9))) (both (has to bound_states) (not (has to connection_states)))

-- A stream with a binding takes an open indication, and is then in 9.
abbrev pub may_take : ℕ → ℕ → Bool
may_take from to = both (has from bound_states) (eqb to 9)

-- A stream in 9 loses one: it stays in 9, or goes to another state with a binding where it was the last.
abbrev pub may_lose : ℕ → ℕ → Bool
may_lose to last = both (eqb to 9) (both (not (eqb last 9)) (has last bound_states))

-- ---- the tests, by what comes

-- INFO_REQ, TOKEN_REQ, UNITDATA_REQ
abbrev pub fits_staying : StateRow → Bool
fits_staying x = asks (has x.cause (info_req ∷ token_req ∷ unitdata_req ∷ [])) (either (eqb x.to x.from) (may_lead x.from x.mode (to_state x)))

abbrev movers : List ℕ
movers = detach_req ∷ unbind_req ∷ connect_req ∷ reset_req ∷ reset_res ∷ peer_accepted ∷ peer_gone ∷ peer_reset ∷ reset_confirmed ∷ []

abbrev pub fits_moving : StateRow → Bool
fits_moving x = asks (has x.cause movers) (may_lead x.from x.mode (to_state x))

-- DISCONNECT_REQ, elsewhere than in 9
abbrev pub fits_disconnecting : StateRow → Bool
fits_disconnecting x = asks (eqb x.cause disconnect_req) (asks (not (eqb x.from 9)) (may_lead x.from x.mode (to_state x)))

abbrev pub fits_attaching : StateRow → Bool
fits_attaching x = asks (eqb x.cause attach_req) (may_attach x.from (to_state x))

abbrev pub fits_binding : StateRow → Bool
fits_binding x = asks (eqb x.cause bind_req) (may_bind x.from (to_state x))

abbrev pub fits_taking : StateRow → Bool
fits_taking x = asks (eqb x.cause call_arrives) (may_take x.from (to_state x))

-- what ends an open indication
abbrev pub enders : List ℕ
enders = connect_res ∷ disconnect_req ∷ call_withdrawn ∷ []

abbrev pub fits_losing : StateRow → Bool
fits_losing x = asks (both (has x.cause enders) (eqb x.from 9)) (may_lose (to_state x) (last_state x))

pub record RowsFit (rows : List StateRow) : Type 0 where
  pub staying : all_of fits_staying rows ≡ true
  pub moving : all_of fits_moving rows ≡ true
  pub disconnecting : all_of fits_disconnecting rows ≡ true
  pub attaching : all_of fits_attaching rows ≡ true
  pub binding : all_of fits_binding rows ≡ true
  pub taking : all_of fits_taking rows ≡ true
  pub losing : all_of fits_losing rows ≡ true
