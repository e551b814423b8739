-- The tests of slots and streams, in the groups in which they are made.
use Rattle.std.specs.Prelude.{ℕ, Bool, List, eqb, ltb, leb}
use Rattle.ledger.specs.Choice.{pick, both, asks}
use Rattle.ledger.specs.Tally.{occ, has, all_of}
use Rattle.ledger.specs.Lists.{joined}
use Rattle.paper.specs.Base.{is_in, is_among, bound_states, connection_states, Slot, Table, ppa_numbers}
use Rattle.paper.specs.Saps.{as_bind_allows}
use Rattle.paper.specs.Sound.{every, same_answer, unbound, sound_slot, is_alone}
use Rattle.paper.specs.declared.Stream.{Stream}
use Rattle.table_image.specs.Layout.{tidy_slot, slot_parts}

-- ---- a tidy image: each slot is

unfoldable pub are_slots_tidy : List ℕ → Bool
are_slots_tidy img = all_of tidy_slot (slot_parts img)

-- ---- an open stream (`open_tests`)

-- attached to a PPA of the table except in 0
unfoldable pub is_attached_right : List ℕ → Stream → Bool
is_attached_right ppas s = pick (is_in 0 s) (eqb s.ppa.0 0) (has s.ppa.0 ppas)

-- bound as BIND allows from 6 on, in mode 1 above 6
unfoldable pub is_bound_right : Stream → Bool
is_bound_right s =
    both (pick (is_among bound_states s) (as_bind_allows s) (every (unbound s))) (asks (is_among connection_states s) (eqb s.mode 1))

-- only state 9 has open indications, at least one and at most the granted count
unfoldable pub is_count_right : Stream → ℕ → Bool
is_count_right s count = both (same_answer (is_in 9 s) (ltb 0 count)) (leb count s.granted)

-- ---- the open numbers of all streams, in a row: none is 0 or occurs twice

abbrev pub open_numbers : Table → List ℕ
open_numbers t = joined (λ (x : Slot). x.waiting) t.slots

unfoldable pub is_single_in : List ℕ → ℕ → Bool
is_single_in l n = both (ltb 0 n) (leb (occ n l) 1)

abbrev pub are_single : List ℕ → Bool
are_single l = all_of (is_single_in l) l

-- ---- a stream among the others: sound by itself, alone in listening
unfoldable pub is_stream_sound : Table → Slot → Bool
is_stream_sound t x = both (sound_slot (ppa_numbers t) x) (is_alone t x.stream)
