-- After k turns the goodbyes of the k oldest stand at the room's start.
use Prim.Native.Nat.{◌≤◌}
use mathlib.Core.Path.{◌≡◌}
use mathlib.Core.List.{map}
use lib.ListN.{length, take}
use Rattle.octets.specs.Runs.{over}
use Rattle.paper.specs.Base.{waiting}
use Rattle.paper.specs.RecordsOut.{all_bytes}
use Rattle.paper.specs.Openings.{goodbye}
use Rattle.table_image.specs.Layout.{table_of}
use Rattle.paper.specs.Saps.{most_open}
use Rattle.call_openings.proofs.put_drops.Given as goal

abbrev pub invariant-loop-k : goal.invariant-loop-k
invariant-loop-k l = (l.count ≤ most_open) × (length l.room ≡ length l.initial.room) × (l.room ≡ over (all_bytes (map (goodbye l.i) (take l.k (waiting (table_of l.table.image.now) l.i)))) l.initial.room)
