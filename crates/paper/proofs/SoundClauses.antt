-- What a sound table is, clause by clause: for each clause a table that breaks it, and beside them tables that break none. One claim over
-- each list, decided by computation.
use Prim.Native.Nat.{ℕ}
use mathlib.Core.Path.{◌≡◌, refl}
use mathlib.Core.Bool.{true, false}
use mathlib.Core.List.{List, [], ◌∷◌, map}
use lib.ListN.{replicate}
use Rattle.paper.specs.Base.{Slot, closed, Table, fresh}
use Rattle.paper.specs.Correlations.{occurrences}
use Rattle.paper.specs.Examples.{ppa, stream_zero, none_opened, unattached, attached, bound_stream, connecting, ringing}
use Rattle.paper.specs.Saps.{is_sap, is_type, as_bind_allows, listens}
use Rattle.paper.specs.Sound.{holds_nothing, sound_slot, is_single, is_alone, sound}
use Rattle.paper.specs.declared.Ppa.{Ppa}
use Rattle.paper.specs.declared.State.{State}
use Rattle.paper.specs.declared.State.TheVariants.{Unattached, Unbound, Idle, OutconPending, InconPending}
use Rattle.paper.specs.declared.Stream.{Stream}

abbrev holding : State → ℕ → ℕ → ℕ → ℕ → Stream
holding state mode sap ppa granted = record { state = state; mode = mode; sap = sap; ppa = record { 0 = ppa }; granted = granted }

abbrev with_ppas : List Ppa → Table
with_ppas l = record { remembers = false; counter = 1; ppas = l; slots = replicate 16 closed }

-- two streams, the first two
abbrev two_streams : Slot → Slot → Table
two_streams x y = record { remembers = true; counter = 9; ppas = ppa ∷ []; slots = x ∷ y ∷ replicate 14 closed }

abbrev ringing_on : ℕ → List ℕ → Slot
ringing_on sap waiting = record { is_open = true; stream = holding InconPending 1 sap 1 2; waiting = waiting }

abbrev broken : List Table
broken =
    -- PPA numbers differ, and are at most 8
    with_ppas (ppa ∷ ppa ∷ [])
    ∷ with_ppas (map (λ (n : ℕ). record { number = record { 0 = n }; mac = replicate 6 2 }) (1 ∷ 2 ∷ 3 ∷ 4 ∷ 5 ∷ 6 ∷ 7 ∷ 8 ∷ 9 ∷ []))
    -- a closed stream holds nothing
    ∷ two_streams (record { is_open = false; stream = holding Unbound 0 0 1 0; waiting = [] }) closed
    -- an open one is attached to a PPA of the table except in 0
    ∷ stream_zero 1 (holding Unbound 0 0 2 0) []
    ∷ stream_zero 1 (holding Unattached 0 0 1 0) []
    -- and bound as BIND allows from 6 on
    ∷ stream_zero 1 (holding Idle 1 0x81 1 2) []
    ∷ stream_zero 1 (holding Idle 1 0x800 1 0) []
    ∷ stream_zero 1 (holding Idle 3 0x80 1 0) []
    ∷ stream_zero 1 (holding Idle 2 0x80 1 1) []
    ∷ stream_zero 1 (holding Unbound 1 0x80 1 0) []
    -- in mode 1 above 6
    ∷ stream_zero 1 (holding OutconPending 2 0x80 1 0) []
    -- only state 9 has open indications, at least one
    ∷ stream_zero 2 (holding Idle 1 0x80 1 2) (1 ∷ [])
    ∷ stream_zero 2 (holding InconPending 1 0x80 1 2) []
    -- and at most the granted count (itself at most 8)
    ∷ stream_zero 3 (holding InconPending 1 0x80 1 1) (1 ∷ 2 ∷ [])
    ∷ stream_zero 1 (holding Idle 1 0x80 1 9) []
    -- no open number is 0 or occurs twice
    ∷ ringing 2 (0 ∷ [])
    ∷ ringing 2 (1 ∷ 1 ∷ [])
    ∷ two_streams (ringing_on 0x80 (1 ∷ [])) (ringing_on 0x84 (1 ∷ []))
    -- no two streams listen for one PPA and SAP
    ∷ two_streams (ringing_on 0x80 (1 ∷ [])) (ringing_on 0x80 (2 ∷ []))
    -- a table with an open stream remembers an opening
    ∷ record { remembers = false; counter = 1; ppas = []; slots = record { is_open = true; stream = holding Unattached 0 0 0 0; waiting = [] } ∷ replicate 15 closed }
    ∷ []

abbrev sound_ones : List Table
sound_ones =
    fresh
    ∷ none_opened
    ∷ unattached
    ∷ attached
    ∷ bound_stream 8
    ∷ stream_zero 1 (holding Idle 2 0x800 1 0) []
    ∷ connecting
    ∷ ringing 3 (1 ∷ 2 ∷ [])
    ∷ two_streams (ringing_on 0x80 (1 ∷ [])) (ringing_on 0x84 (2 ∷ []))
    -- the counter may stand anywhere, and a table may remember an opening with every stream closed again
    ∷ two_streams closed closed
    ∷ []

pub broken_are_unsound : map sound broken ≡ replicate 20 false
unfolding sound sound_slot holds_nothing is_single is_alone occurrences listens as_bind_allows is_sap is_type
broken_are_unsound = refl

pub whole_are_sound : map sound sound_ones ≡ replicate 10 true
unfolding sound sound_slot holds_nothing is_single is_alone occurrences listens as_bind_allows is_sap is_type
whole_are_sound = refl
