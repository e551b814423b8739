-- What is decided of a call, in code: a decision with the streams that it is about.
use Rattle.std.specs.Prelude.{ℕ, ◌<◌, ◌≡◌, true, List, length, Result, Ok, Err, IfOk}
use Rattle.paper.specs.Base.{Table, slot, waiting, mac_at, stream_total}
use Rattle.paper.specs.Refusals.{Outcome, refused, served}
use Rattle.paper.specs.Effects.{enacted, told}
use Rattle.paper.specs.Room.{Fits}
use Rattle.paper.specs.declared.Effect.{Effect}
use Rattle.call_outcomes.specs.Takes.{takes}
use Rattle.call_outcomes.specs.Answering.{refusal_number}
use Rattle.call_outcomes.specs.declared.Deed.{Deed}
use Rattle.call_outcomes.specs.declared.Refusal.{Refusal}
use Rattle.paper.specs.Saps.{most_open}

-- an effect on stream i, where stream c carries
abbrev pub doing : ℕ → ℕ → Effect → Deed
doing i c e = record { stream = i; carrier = c; effect = e }

-- what it comes to, where r is the record of the message, or of the event, and refusals are numbered by k
abbrev pub outcome_by : {E : Type 0} → (E → ℕ) → Table → List ℕ → Result Deed E → Outcome
outcome_by k t r (Err refusal) = refused t (k refusal)
outcome_by k t r (Ok d) =
    served (enacted t d.stream d.carrier r d.effect) (told d.stream d.carrier (slot t d.stream) (mac_at t d.stream) r d.effect)

abbrev pub outcome_of : Table → List ℕ → Result Deed Refusal → Outcome
outcome_of = outcome_by refusal_number

-- The stream is one of the table, and has a place for an open indication that it takes; the records fit the room.
pub record Placed (t : Table) (i : ℕ) (e : Effect) : Type 0 where
  pub within : i < stream_total
  pub place : takes e.change ≡ true → length (waiting t i) < most_open
  pub fits : Fits e

-- It can be enacted: an effect has its stream and its place.
abbrev pub Enactable : {E : Type 0} → Table → Result Deed E → Type 0
Enactable t d = IfOk d (λ (x : Deed). Placed t x.stream x.effect)

-- It is decided as it should be.
pub record Rightly (t : Table) (r : List ℕ) (d : Result Deed Refusal) (o : Outcome) : Type 0 where
  pub comes : outcome_of t r d ≡ o
  pub fits : Enactable t d
