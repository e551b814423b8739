-- After i turns the indications to the first i streams stand at the room's start, each a pair at most.
use Prim.Native.Nat.{ℕ, ◌*◌, ◌≤◌}
use mathlib.Core.Path.{◌≡◌}
use mathlib.Core.List.{List}
use lib.ListN.{length}
use Rattle.octets.specs.Writing.{Wrote}
use Rattle.paper.specs.Base.{Table}
use Rattle.paper.specs.RecordsIn.{pair_size}
use Rattle.paper.specs.RecordsOut.{all_bytes}
use Rattle.paper.specs.Datagrams.{shown_below, indications}
use Rattle.paper.specs.StateRows.{state_rows}
use Rattle.paper.specs.declared.Frame.{Frame}
use Rattle.table_image.specs.Layout.{table_of}
use Rattle.call_frames.proofs.put_indications.Given as goal

pub record Turned (t : Table) (r : List ℕ) (f : Frame) (room₀ room : List ℕ) (n i : ℕ) : Type 0 where
  pub few : n ≤ i * pair_size
  pub long : length room ≡ length room₀
  pub wrote : Wrote (all_bytes (indications r f (shown_below state_rows t f i))) 0 n room₀ room

abbrev pub invariant-loop-i : goal.invariant-loop-i
invariant-loop-i l = Turned (table_of l.table.image.now) l.r l.f l.initial.room l.room l.n l.i
