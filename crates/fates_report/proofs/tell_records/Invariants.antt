-- Each turn tells the line of the first record that is left, so what is still to be told leads to the same text and register.
use Prim.Native.Nat.{ℕ, ◌+◌, ◌*◌, ◌≤◌, ◌<◌}
use mathlib.Core.Path.{◌≡◌}
use mathlib.Core.List.{List}
use lib.ListN.{length}
use Rattle.text.specs.Page.{shown}
use Rattle.text.specs.declared.Page.{Page}
use Rattle.paper.specs.declared.Input.{Input}
use Rattle.fates_book.specs.Lines.{lines_in}
use Rattle.fates_report.specs.Report.{per_byte, records_size}
use Rattle.fates_report.proofs.Laws.{StillTelling}
use Rattle.fates_report.proofs.tell_records.Given as goal

pub record ToTell (register₀ : List ℕ) (first : Page) (q : Input) (written register : List ℕ) (page : Page) (rest : List ℕ) : Type 0 where
  pub uncut : 0 < length rest → length (shown first).spare + per_byte * length rest ≤ length (shown page).spare + per_byte * length written
  pub few : length (shown first).spare ≤ length (shown page).spare + records_size
  pub whole : length register ≡ length register₀
  pub left : StillTelling first (lines_in (length written) q written) register₀ q rest page register

abbrev pub invariant-loop-rest : goal.invariant-loop-rest
invariant-loop-rest l = ToTell l.initial.register l.initial.page l.q l.written l.register l.page l.rest

abbrev pub decreases-loop-rest : goal.decreases-loop-rest
decreases-loop-rest l = length l.rest
