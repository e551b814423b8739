-- A record lies within the bytes not read yet, so reading stays within the input, and refused calls are counted among the calls.
use Prim.Native.Nat.{◌+◌, ◌-◌}
use native.Mathlib.Omega.{arith}
use mathlib.Core.Path.{◌≡◌, refl, ◌∙◌}
use mathlib.Core.Bool.{Bool, true, false}
use lib.Dec.{ltb}
use lib.ListN.{drop, length-take}
use mir.Val.{bool_byte}
use borrow.Author.Rules.{rules}
use Rattle.ledger.specs.Tally.{one_if}
use Rattle.ledger.proofs.Tallies.{one_most}
use Rattle.paper.proofs.Records.{record_within}
use Rattle.turns.specs.Turns.{unread}
use Rattle.turns.proofs.Turn.after_call.Goals as goal

pub overflow_add-self : goal.overflow_add-self
overflow_add-self c =
    let a = c.args in
    let t = a.self.now in
    let bytes = unread a.input.now t in
    omega (arith, c.record_size-size.ensures, record_within bytes, length-take (t.end - t.start) (drop t.start a.input.now))

byte_one : (b : Bool) → bool_byte b ≡ one_if b
byte_one true = refl
byte_one false = refl

pub returns : goal.returns
returns c =
    let a = c.args in
    let input = a.input.now in
    let t = a.self.now in
    let size = c.record_size-size.ensures in
    let more = c.from.ensures ∙ byte_one a.refused in
    record {
      is = λ i. record {
        start = t.start + size i;
        end = t.end;
        ended = t.ended;
        calls = t.calls + 1;
        refused = t.refused + more i;
        going = ltb 0 (size i);
      };
      fine = record {
        order = omega (arith, size, record_within (unread input t), length-take (t.end - t.start) (drop t.start input));
        within = search rules;
        counted = omega (arith, more, one_most a.refused);
      };
    }
