-- After i turns the numbers of the first i streams stand at the start of dst.
use Rattle.std.proofs.Common.{◌≡◌, ◌*◌, ◌≤◌, ◌++◌, take, drop}
use Rattle.paper.specs.Base.{Slot}
use Rattle.table_image.specs.Layout.{table_of}
use Rattle.ledger.specs.Lists.{joined}
use Rattle.paper.specs.Saps.{most_open}
use Rattle.table_numbers.proofs.open_numbers.Given as goal

abbrev pub invariant-loop-i : goal.invariant-loop-i
invariant-loop-i l = (l.total ≤ l.i * most_open)
    × (take l.total l.dst ++ joined (λ (x : Slot). x.waiting) (drop l.i (table_of l.img).slots) ≡ joined (λ (x : Slot). x.waiting) (table_of l.img).slots)
