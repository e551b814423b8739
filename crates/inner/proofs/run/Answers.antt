-- What is still to come, on the bytes that are left, leads to the same end: a call more, or none where no byte is left.
use Prim.Native.Nat.{◌-◌}
use native.Mathlib.Omega.{arith}
use mathlib.Core.Path.{◌≡◌, refl, ap, ◌∙◌}
use mathlib.Core.Bool.{Bool, true, false}
use mir.Val.{bool_byte}
use lib.ListN.{length, drop, length-drop}
use lib.Seq.{take_all}
use borrow.Author.Rules.{rules}
use Rattle.ledger.specs.Tally.{one_if}
use Rattle.ledger.proofs.Tallies.{one_most}
use Rattle.inner.proofs.Laws.{ahead_more, ahead_none}
use Rattle.inner.proofs.run.Goals as goal

byte_one : (b : Bool) → bool_byte b ≡ one_if b
byte_one true = refl
byte_one false = refl

pub loop-rest-preserved : goal.loop-rest-preserved
loop-rest-preserved c =
    let l = c.loop-rest in
    let bytes = l.rest.now in
    let call = c.one_call in
    let size = c.passed.ensures in
    let one = c.from-refused.ensures ∙ byte_one call.result in
    let more = one ∙ ap one_if call.ensures.told in
    let k = c.passed.result in
    let whole = take_all (length bytes - k) (drop k bytes) (omega (arith, length-drop k bytes)) in
    record {
      few = omega (arith, size.some, one, one_most call.result, length-drop k bytes, ap length whole);
      long = search rules;
      roomy = search rules;
      sound = call.ensures.sound;
      ahead = rw (whole, call.ensures.image, more, size.is) (ahead_more bytes l.table l.refused _ (omega (arith, size.some, size.within)) l.invariant.ahead);
    }

pub returns : goal.returns
returns c = ahead_none _ _ _ _ (search rules) c.loop-rest.invariant.ahead
