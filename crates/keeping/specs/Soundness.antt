-- A sound table, as facts: what `sound` of the rule paper tests, and what its types cannot say.
use Rattle.std.specs.Prelude.{ℕ, ◌-◌, ◌≤◌, ◌<◌, ◌^◌, min, ◌≡◌, true, false, List, length, get_or, ltb}
use Rattle.octets.specs.Runs.{Bytes}
use Rattle.ledger.specs.Tally.{occ, has}
use Rattle.paper.specs.Base.{stream_total, most_ppas, mac_size, is_in, is_among, bound_states, connection_states, Slot, closed, Table, slot, ppa_numbers, no_ppa}
use Rattle.paper.specs.Saps.{as_bind_allows}
use Rattle.paper.specs.Correlations.{occurrences}
use Rattle.paper.specs.Sound.{Bindless, listeners_of}
use Rattle.paper.specs.declared.PpaNumber.{PpaNumber}

-- how often a correlation number may be open: 0 never, and one of four bytes once
abbrev pub cap : ℕ → ℕ
cap n = min n (min 1 (2 ^ 32 - n))

-- one of the table's streams, where ps are the numbers of its PPAs
pub record Ok (ps : List ℕ) (x : Slot) : Type 0 where
  -- a closed one holds nothing
  pub shut : x.is_open ≡ false → x ≡ closed
  -- attached to a PPA of the table except in 0
  pub loose : is_in 0 x.stream ≡ true → x.stream.ppa.0 ≡ 0
  pub attached : is_in 0 x.stream ≡ false → has x.stream.ppa.0 ps ≡ true
  -- bound as BIND allows in the states that hold a binding
  pub unbound : is_among bound_states x.stream ≡ false → Bindless x.stream
  pub bound : is_among bound_states x.stream ≡ true → as_bind_allows x.stream ≡ true
  -- in mode 1 in the states of a connection
  pub connected : is_among connection_states x.stream ≡ true → x.stream.mode ≡ 1
  -- only 9 has open numbers, at least one and at most the granted count
  pub nine : is_in 9 x.stream ≡ ltb 0 (length x.waiting)
  pub few : length x.waiting ≤ x.stream.granted

-- six bytes
pub record IsMac (mac : List ℕ) : Type 0 where
  pub six : length mac ≡ mac_size
  pub bytes : Bytes mac

pub record Sound (t : Table) : Type 0 where
  pub sixteen : length t.slots ≡ stream_total
  pub small : t.counter < 2 ^ 32
  -- past the table's end stands `closed`, which is Ok: no bound on i
  pub each : (i : ℕ) → Ok (ppa_numbers t) (slot t i)
  -- no open number is 0, occurs twice or is over four bytes
  pub once : (n : ℕ) → occurrences t n ≤ cap n
  -- no two streams listen for one PPA and SAP
  pub alone : (p : PpaNumber) (q : ℕ) → listeners_of t p q ≤ 1
  -- at most 8 PPAs, whose numbers differ, none over four bytes
  pub differ : (p : ℕ) → occ p (ppa_numbers t) ≤ min 1 (2 ^ 32 - p)
  pub most : length t.ppas ≤ most_ppas
  -- each with a MAC of 6 bytes
  pub macs : (j : ℕ) → IsMac (get_or t.ppas j no_ppa).mac
  -- a table with an open stream remembers an opening
  pub recalls : t.remembers ≡ false → (i : ℕ) → (slot t i).is_open ≡ false
