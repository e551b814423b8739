-- Each turn puts the first of the numbers that are left, so those that are left lead to the same text.
use Prim.Native.Nat.{ℕ, ◌+◌, ◌*◌, ◌-◌, ◌≤◌}
use mathlib.Core.List.{List}
use lib.ListN.{length}
use Rattle.text.specs.Page.{shown}
use Rattle.text.specs.declared.Page.{Page}
use Rattle.text.proofs.Putting.{ToCome}
use Rattle.fates_report.specs.Report.{numbers, spaced_size}
use Rattle.fates_report.proofs.put_numbers.Given as goal

pub record NumbersToCome (first : Page) (register : List ℕ) (c k : ℕ) (page : Page) (j : ℕ) : Type 0 where
  pub few : length (shown first).spare ≤ length (shown page).spare + spaced_size * j
  pub rest : ToCome first (numbers k c register) page (numbers (k - j) (c + j) register)

abbrev pub invariant-loop-n : goal.invariant-loop-n
invariant-loop-n l = NumbersToCome l.initial.page l.register l.c l.k l.page l.n-index
