-- Each turn puts the line of the oldest that is left, so those that are left lead to the same text; a free place ends them.
use Prim.Native.Nat.{ℕ, ◌+◌, ◌*◌, ◌≤◌}
use mathlib.Core.Path.{◌≡◌}
use mathlib.Core.List.{List}
use lib.ListN.{length}
use Rattle.text.specs.Page.{shown}
use Rattle.text.specs.declared.Page.{Page}
use Rattle.text.proofs.Putting.{ToCome}
use Rattle.paper.specs.Saps.{most_open}
use Rattle.fates_register.specs.Register.{places_of, places_end}
use Rattle.fates_report.specs.Report.{open_lines, indication_size}
use Rattle.fates_report.proofs.put_still_open.Given as goal

pub record LinesToCome (first : Page) (register : List ℕ) (i : ℕ) (page : Page) (c : ℕ) : Type 0 where
  pub left : ℕ
  pub stands : c + 2 * left ≡ places_end i
  pub few : length (shown first).spare + indication_size * left ≤ length (shown page).spare + most_open * indication_size
  pub rest : ToCome first (open_lines most_open i (places_of i) register) page (open_lines left i c register)

abbrev pub invariant-loop-c : goal.invariant-loop-c
invariant-loop-c l = LinesToCome l.initial.page l.register l.i l.page l.c
