-- Where the frame is not shown nothing is written; else one indication, whose block has been built.
use Prim.Native.Nat.{ℕ, ◌+◌, ◌*◌}
use native.Mathlib.Omega.{arith}
use mathlib.Core.Path.{refl, sym, ap, ◌∙◌}
use lib.ListN.{length}
use Rattle.octets.proofs.Runs.{part-most}
use Rattle.octets.proofs.Writing.{wrote-same}
use Rattle.paper.specs.RecordsIn.{body_size}
use Rattle.paper.proofs.Tails.{form_most}
use Rattle.call_frames.proofs.Laws.{block_size_lem, one_indication}
use borrow.Author.Rules.{rules}
use Rattle.call_frames.proofs.put_if_shown.Goals as goal

pub returns-then-not-is_shown : goal.returns-then-not-is_shown
returns-then-not-is_shown c = rw (sym c.is_shown.ensures ∙ c.if-not-is_shown.true) (record { few = omega arith; ends = refl; stands = refl })

pub overflow_mul-size : goal.overflow_mul-size
overflow_mul-size c =
    omega (arith, c.length.ensures, form_most c.args.f.form)

pub overflow_add-size : goal.overflow_add-size
overflow_add-size c =
    omega (arith, c.length.ensures, form_most c.args.f.form)

pub overflow_cast-size : goal.overflow_cast-size
overflow_cast-size c =
    omega (arith, c.length.ensures, form_most c.args.f.form)

pub put_indication-requires : goal.put_indication-requires
put_indication-requires c =
    record {
      whole = ap length c.requires.built ∙ block_size_lem c.args.r.now c.args.f c.requires.whole;
      short = rw c.part_at.ensures (part-most c.args.r.now 22 body_size);
      roomy = search rules;
    }

pub returns : goal.returns
returns c =
    let r = c.args.r.now in
    let f = c.args.f in
    rw (sym c.is_shown.ensures ∙ c.if-not-is_shown.false)
    (wrote-same
    (one_indication r f c.requires.whole c.args.i (24 + 2 * c.length.result) c.args.block.now c.part_at.result.now
    (ap (λ (n : ℕ). 24 + 2 * n) c.length.ensures) c.requires.built c.part_at.ensures)
    c.put_indication.ensures)
