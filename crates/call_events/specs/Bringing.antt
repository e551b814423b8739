-- What a record of the line brings, in code.
use Rattle.std.specs.Prelude.{ℕ, ◌<◌, ◌≡◌, Bool, true, false, List, Result, Ok, Err, IfOk}
use Rattle.paper.specs.Base.{Table, stream_total}
use Rattle.paper.specs.Refusals.{Outcome, refused}
use Rattle.paper.specs.StateRows.{state_rows}
use Rattle.paper.specs.Sight.{brings}
use Rattle.paper.specs.Step.{comes}
use Rattle.paper.specs.declared.Input.{Input}
use Rattle.paper.specs.declared.Input.TheVariants as input
use Rattle.call_outcomes.specs.Answering.{refusal_number}
use Rattle.call_outcomes.specs.declared.Refusal.{Refusal}
use Rattle.call_events.specs.declared.Brought.{Brought}

-- what it comes to, where r is the record
abbrev pub brought_by : Table → List ℕ → Result Brought Refusal → Outcome
brought_by t r (Err refusal) = refused t (refusal_number refusal)
brought_by t r (Ok b) = comes state_rows t b.stream r (brings (refusal_number b.refusal) b.event)

-- The stream is one of the table.
abbrev pub Bringable : Result Brought Refusal → Type 0
Bringable b = IfOk b (λ (x : Brought). x.stream < stream_total)

pub record RightlyBrought (t : Table) (r : List ℕ) (b : Result Brought Refusal) (o : Outcome) : Type 0 where
  pub comes : brought_by t r b ≡ o
  pub fits : Bringable b

-- The records of the line that come to one stream, and what could not be read.
abbrev pub is_of_line : Input → Bool
is_of_line input.Unreadable = true
is_of_line input.Malformed = true
is_of_line (input.AddPpa p) = false
is_of_line input.Open = false
is_of_line (input.Close i) = false
is_of_line (input.Message i l n) = false
is_of_line (input.CallArrives p sap) = true
is_of_line (input.PeerAccepted i) = true
is_of_line (input.PeerGone i reason) = true
is_of_line (input.CallWithdrawn i n reason) = true
is_of_line (input.PeerReset i reason) = true
is_of_line (input.ResetConfirmed i) = true
is_of_line (input.Frame f) = false
