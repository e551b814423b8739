-- Each byte has two digits, so after some bytes the digits of those stand there, two for each.
use Prim.Native.Nat.{◌*◌}
use lib.ListN.{take}
use Rattle.text.specs.Digits.{hex}
use Rattle.text.specs.Page.{Put}
use Rattle.text.proofs.Page.put_hex.Given as goal

abbrev pub invariant-loop-b : goal.invariant-loop-b
invariant-loop-b l = Put (2 * l.b-index) (hex (take l.b-index l.bytes)) l.initial.self l.self
