-- Each turn puts the text of the next stream, so the streams that follow lead to the same text.
use Prim.Native.Nat.{ℕ, ◌+◌, ◌*◌, ◌-◌, ◌≤◌}
use mathlib.Core.List.{List}
use lib.ListN.{length}
use Rattle.text.specs.Page.{shown}
use Rattle.text.specs.declared.Page.{Page}
use Rattle.text.proofs.Putting.{ToCome}
use Rattle.paper.specs.Base.{stream_total}
use Rattle.fates_report.specs.Report.{end_texts, end_size}
use Rattle.fates_report.proofs.put_ends.Given as goal

pub record StreamsToCome (first : Page) (register : List ℕ) (page : Page) (i : ℕ) : Type 0 where
  pub few : length (shown first).spare ≤ length (shown page).spare + end_size * i
  pub rest : ToCome first (end_texts stream_total 0 register) page (end_texts (stream_total - i) i register)

abbrev pub invariant-loop-i : goal.invariant-loop-i
invariant-loop-i l = StreamsToCome l.initial.page l.register l.page l.i
