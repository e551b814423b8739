-- 'Refusal numbers': what a sound table is, clause by clause. What is marked as decided is not said by the paper's
-- sentence on sound tables, but taken so in docs/DECISIONS.md, 5.
use Rattle.std.specs.Prelude.{ℕ, ◌≡◌, Bool, true, false, not, List, [], ◌∷◌, length, eqb, ltb, leb}
use Rattle.ledger.specs.Choice.{pick, both, either, asks}
use Rattle.ledger.specs.Tally.{occ, has, one_if, sum_of, all_of}
use Rattle.paper.specs.Base.{most_ppas, is_in, is_among, bound_states, connection_states, Slot, Table, ppa_numbers}
use Rattle.paper.specs.Saps.{as_bind_allows, listens}
use Rattle.paper.specs.Correlations.{occurrences}
use Rattle.paper.specs.declared.Stream.{Stream}
use Rattle.paper.specs.declared.PpaNumber.{PpaNumber}

abbrev pub every : List Bool → Bool
every l = all_of (λ (b : Bool). b) l

abbrev pub same_answer : Bool → Bool → Bool
same_answer true b = b
same_answer false b = not b

-- nothing of a bind
abbrev pub unbound : Stream → List Bool
unbound s = eqb s.mode 0 ∷ eqb s.sap 0 ∷ eqb s.granted 0 ∷ []

-- as facts
pub record Bindless (s : Stream) : Type 0 where
  pub mode : s.mode ≡ 0
  pub sap : s.sap ≡ 0
  pub granted : s.granted ≡ 0

-- a closed stream holds nothing
unfoldable pub holds_nothing : Slot → Bool
holds_nothing x =
    both (is_in 0 x.stream) (both (eqb x.stream.ppa.0 0) (both (every (unbound x.stream)) (eqb (length x.waiting) 0)))

-- an open one is in a state with a row below (`State` has no others),
abbrev pub open_tests : List ℕ → Slot → List Bool
open_tests ppas x =
    -- attached to a PPA of the table except in 0 (decided: in 0 it has no PPA number),
    pick (is_in 0 x.stream) (eqb x.stream.ppa.0 0) (has x.stream.ppa.0 ppas)
    -- and bound as BIND allows from 6 on (decided: below 6 it holds nothing of a bind),
    ∷ pick (is_among bound_states x.stream) (as_bind_allows x.stream) (every (unbound x.stream))
    -- in mode 1 above 6;
    ∷ asks (is_among connection_states x.stream) (eqb x.stream.mode 1)
    -- only state 9 has open indications, at least one
    ∷ same_answer (is_in 9 x.stream) (ltb 0 (length x.waiting))
    -- and at most the granted count (itself at most 8: `as_bind_allows`)
    ∷ leb (length x.waiting) x.stream.granted
    ∷ []

unfoldable pub sound_slot : List ℕ → Slot → Bool
sound_slot ppas x = pick x.is_open (every (open_tests ppas x)) (holds_nothing x)

-- no open number is 0 or occurs twice
unfoldable pub is_single : Table → ℕ → Bool
is_single t n = both (ltb 0 n) (leb (occurrences t n) 1)

-- how many streams listen for a PPA and SAP
abbrev pub listeners_of : Table → PpaNumber → ℕ → ℕ
listeners_of t p sap = sum_of (λ (x : Slot). one_if (listens p sap x.stream)) t.slots

-- no two streams listen for one PPA and SAP
unfoldable pub is_alone : Table → Stream → Bool
is_alone t s = asks (ltb 0 s.granted) (leb (listeners_of t s.ppa s.sap) 1)

-- a table with an open stream remembers an opening
abbrev pub remembers_openings : Table → Bool
remembers_openings t = either t.remembers (all_of (λ (x : Slot). not x.is_open) t.slots)

abbrev pub sound_tests : Table → List Bool
sound_tests t =
    -- at most 8 PPAs (decided to be a clause: a sentence of 'What the base serves')
    leb (length t.ppas) most_ppas
    -- PPA numbers differ
    ∷ all_of (λ (p : ℕ). leb (occ p (ppa_numbers t)) 1) (ppa_numbers t)
    ∷ all_of (sound_slot (ppa_numbers t)) t.slots
    ∷ all_of (λ (x : Slot). all_of (is_single t) x.waiting) t.slots
    ∷ all_of (λ (x : Slot). is_alone t x.stream) t.slots
    ∷ remembers_openings t
    ∷ []

unfoldable pub sound : Table → Bool
sound t = every (sound_tests t)
