-- After i turns the indications to the first i streams stand at the room's start, each a pair at most.
use Prim.Native.Nat.{ℕ, suc, ◌+◌}
use native.Mathlib.Omega.{arith}
use mathlib.Core.Path.{◌≡◌, refl, ap, ◌∙◌}
use mathlib.Core.List.{List}
use borrow.Author.Rules.{rules}
use Rattle.octets.proofs.Writing.{wrote-next, wrote-most, wrote_of, wrote_as, wrote-same}
use Rattle.paper.specs.Base.{stream_total}
use Rattle.paper.specs.RecordsOut.{all_bytes}
use Rattle.paper.specs.Datagrams.{shown_below, indications}
use Rattle.paper.specs.StateRows.{state_rows}
use Rattle.table_image.specs.Layout.{table_of}
use Rattle.call_frames.specs.Showing.{if_shown}
use Rattle.call_frames.proofs.Laws.{shown_append}
use Rattle.call_frames.proofs.put_indications.Goals as goal

pub loop-i-init : goal.loop-i-init
loop-i-init c = record { few = omega arith; long = refl; wrote = record { ends = refl; stands = refl } }

pub loop-i-preserved : goal.loop-i-preserved
loop-i-preserved c =
    let a = c.args in
    let t = table_of a.table.image.now in
    let r = a.r.now in
    let f = a.f in
    let inv = c.loop-i.invariant in
    let i = c.loop-i.i in
    let next : suc i ≡ i + 1 = omega arith in
    let old : List ℕ = all_bytes (indications r f (shown_below state_rows t f i)) in
    let new : List ℕ = all_bytes (indications r f (if_shown t f i)) in
    let w = c.put_if_shown-n.ensures in
    record {
      few = omega (arith, inv.few, w.few);
      long = search rules;
      wrote =
          wrote_as
          (shown_append r f (shown_below state_rows t f i) (if_shown t f i) ∙ ap (λ (k : ℕ). all_bytes (indications r f (shown_below state_rows t f k))) next)
          (wrote-next old new inv.wrote (wrote_of w));
    }

pub returns : goal.returns
returns c =
    let a = c.args in
    let all : c.loop-i.i ≡ stream_total = omega (arith, c.loop-i.auto.i-end, c.loop-i-test.false) in
    wrote-same (ap (λ (k : ℕ). all_bytes (indications a.r.now a.f (shown_below state_rows (table_of a.table.image.now) a.f k))) all)
    (wrote-most (omega (arith, c.loop-i.invariant.few, all)) c.loop-i.invariant.wrote)
