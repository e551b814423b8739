-- A change keeps a table's shape, so that one can follow another: it adds an open number only where there is a place, and
-- past the table's end it finds nothing.
use Rattle.std.proofs.Common.{◌≡◌, ℕ, ◌<◌, ◌≤◌, true, List, [], ◌∷◌, ◌++◌, length, refl, ap, arith, length-append}
use lib.Seq.{set_out}
use Rattle.ledger.specs.Tally.{without}
use Rattle.ledger.proofs.Tallies.{length-without_le}
use Rattle.paper.specs.Base.{settled, Slot, Table, waiting, with_slot, with_numbers, with_stream, with_counter, stream_total}
use Rattle.paper.specs.Correlations.{one_past}
use Rattle.paper.specs.Effects.{standing, changed}
use Rattle.paper.specs.declared.State.{State}
use Rattle.paper.specs.declared.Stream.{Stream}
use Rattle.paper.specs.declared.Change.{Change}
use Rattle.paper.specs.declared.Change.TheVariants.{Stays, Becomes, Takes, Loses}
use Rattle.table_image.specs.Shape.{Shaped}
use Rattle.table_image.proofs.Shapes.{shaped-numbers, shaped-stream, shaped-counter}
use Rattle.call_outcomes.specs.Takes.{takes}
use Rattle.paper.specs.Saps.{most_open}

-- a stream that loses an open indication, by how many are left
pub stands-last : (last : State) (s : Stream) (w : List ℕ) → length w ≡ 0 → settled last s ≡ standing last s w
stands-last last s [] h = refl
stands-last last s (n ∷ w) h = absurd (omega arith)

pub stands_on : (last : State) (s : Stream) (w : List ℕ) → (length w ≡ 0 → ⊥) → s ≡ standing last s w
stands_on last s [] h = absurd (h refl)
stands_on last s (n ∷ w) h = refl

module _ (t : Table) (k : Shaped t) where
  -- a change finds a shaped table and leaves one
  pub shaped-changed : (i : ℕ) (c : Change) → (takes c ≡ true → length (waiting t i) < most_open) → Shaped (changed t i c)
  unfolding changed with_counter
  shaped-changed i Stays h = k
  shaped-changed i (Becomes s) h = shaped-stream t k i s
  shaped-changed i (Takes s n) h =
      shaped-numbers (with_counter t (one_past n.0)) (shaped-counter t k (one_past n.0)) i s (waiting t i ++ (n.0 ∷ []))
      (simp length-append (omega (arith, h refl)))
  shaped-changed i (Loses s n last) h =
      let w : List ℕ = without n.0 (waiting t i) in
      shaped-numbers t k i (standing last s w) w (omega (arith, length-without_le n.0 (waiting t i), k.eight i))

  -- past the table's end there is no stream that carries
  pub none_past : (c : ℕ) (s : Stream) → stream_total ≤ c → with_stream t c s ≡ t
  unfolding with_stream with_numbers with_slot
  none_past c s h =
      ap (λ (l : List Slot). record { remembers = t.remembers; counter = t.counter; ppas = t.ppas; slots = l })
      (set_out t.slots c _ (omega (arith, k.sixteen)))
