-- From past the length to the end of the field are its bytes less the length: those are the padding, and past a length over its size there are none.
use borrow.Author.Tests.{lt-leb, le-leb}
use native.Mathlib.Omega.{arith}
use mathlib.Core.Path.{◌≡◌, ap}
use Rattle.paper.specs.RecordsIn.{has_nonzero_past}
use Prim.Native.Nat.{◌+◌, ◌-◌}
use mathlib.Core.Bool.{not}
use Rattle.wire_records.proofs.has_nonzero_past.Goals as goal

pub returns-then-most-l : goal.returns-then-most-l
unfolding has_nonzero_past
returns-then-most-l c = simp (lt-leb _ _ c.if-most-l.true)

pub returns : goal.returns
unfolding has_nonzero_past
returns c =
    let a = c.args in
    let e : a.at + a.most - (a.at + a.n) ≡ a.most - a.n = omega arith in
    simp (le-leb _ _ c.if-most-l.false, ← e) (ap not c.is_zero.ensures)
