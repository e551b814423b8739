-- Calls as `step` makes them on tables, one after the other, and their history: what the theorems are first proved of.
use Prim.Native.Nat.{ℕ}
use mathlib.Core.Path.{◌≡◌}
use mathlib.Core.Bool.{true}
use mathlib.Core.List.{List, [], ◌∷◌}
use Rattle.paper.specs.Base.{Table}
use Rattle.paper.specs.RecordsOut.{all_bytes}
use Rattle.paper.specs.Refusals.{Outcome}
use Rattle.paper.specs.Step.{step}
use Rattle.promises.specs.History.{Answered}
use Rattle.octets.specs.Runs.{are_bytes}

-- a call: the bytes lent and the room's length
pub record Call : Type 0 where
  pub bytes : List ℕ
  pub are_bytes : are_bytes bytes ≡ true
  pub room : ℕ

-- what comes back of one with these bytes lent
abbrev pub answered_by : List ℕ → Outcome → Answered
answered_by r o = record { lent = r; refusal = o.refusal; opened = o.opened; written = all_bytes o.records }

-- the table after calls, from table t on
unfoldable pub run : Table → List Call → Table
run t [] = t
run t (c ∷ cs) = run (step t c.bytes c.room).table cs

-- the history of calls, from table t on
unfoldable pub history : Table → List Call → List Answered
history t [] = []
history t (c ∷ cs) = answered_by c.bytes (step t c.bytes c.room) ∷ history (step t c.bytes c.room).table cs
