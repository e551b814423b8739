-- After i turns the first i bytes of src stand over dst from the place on.
use borrow.Author.Rules.{rules}
use native.Mathlib.Omega.{arith}
use native.Mathlib.Numerals.{add-one}
use mathlib.Core.Path.{◌≡◌, ◌∙◌}
use lib.ListN.{length, length-set}
use lib.Seq.{paste-zero, paste-suc, take-length}
use Rattle.octets.proofs.put_bytes.Goals as goal

pub loop-i-init : goal.loop-i-init
loop-i-init c = record { stands = paste-zero c.args.dst.now c.args.at c.args.src.now; long = search rules }

pub loop-i-preserved : goal.loop-i-preserved
loop-i-preserved c =
    let l = c.loop-i in
    let a = c.args in
    record {
      stands = rw (l.invariant.stands, add-one) (paste-suc a.dst.now a.at a.src.now l.i 0 (omega arith) (search rules));
      long = simp length-set l.invariant.long;
    }

pub returns : goal.returns
returns c =
    let l = c.loop-i in
    let a = c.args in
    let e : l.i ≡ length a.src.now = omega arith in
    l.invariant.stands ∙ rw (e, take-length)
