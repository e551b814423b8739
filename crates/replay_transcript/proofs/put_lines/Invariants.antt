-- Each turn puts the line of the first record that is left: what is still to come leads, from where the page is, to the same text.
-- A line takes so much for each byte of its record, so those of a room's records fit, and that of one that is cut.
use Prim.Native.Nat.{ℕ, ◌+◌, ◌*◌, ◌≤◌, ◌<◌}
use mathlib.Core.List.{List}
use lib.ListN.{length}
use Rattle.text.specs.Page.{shown}
use Rattle.text.specs.declared.Page.{Page}
use Rattle.text.proofs.Putting.{ToCome}
use Rattle.replay_transcript.specs.Transcript.{record_lines, all_lines, per_byte, call_text_size}
use Rattle.replay_transcript.proofs.put_lines.Given as goal

-- k lines at most are to come, of the records that are left
pub record LinesLeft (first : Page) (n : ℕ) (rs : List ℕ) (page : Page) (rest : List ℕ) : Type 0 where
  pub k : ℕ
  pub enough : length rest ≤ k
  pub uncut : 0 < length rest → length (shown first).spare + per_byte * length rest ≤ length (shown page).spare + per_byte * length rs
  pub few : length (shown first).spare ≤ length (shown page).spare + call_text_size
  pub text : ToCome first (all_lines n rs) page (record_lines k n rest)

abbrev pub invariant-loop-rest : goal.invariant-loop-rest
invariant-loop-rest l = LinesLeft l.initial.page l.n l.rs l.page l.rest

abbrev pub decreases-loop-rest : goal.decreases-loop-rest
decreases-loop-rest l = length l.rest
