-- After i turns the block holds the first i fields, and zeros behind them.
use mathlib.Core.Path.{◌≡◌}
use lib.ListN.{take}
use Rattle.octets.specs.Blocks.{flat, pad}
use Rattle.octets.proofs.block_of.Given as goal

abbrev pub invariant-loop-i : goal.invariant-loop-i
invariant-loop-i l = l.block ≡ pad (flat (take l.i l.fields))
