-- Refusals 5 and 7 in the definition's order; then the indications are written, and the table stays.
use Prim.Native.Nat.{ℕ}
use native.Mathlib.Omega.{arith}
use mathlib.Core.Path.{refl, sym, ap, ◌∙◌}
use mathlib.Core.Bool.{not}
use mathlib.Core.List.{List}
use borrow.Author.Tests.{lt-ltb, le-ltb}
use Rattle.octets.proofs.Writing.{wrote_of, wrote_as}
use Rattle.paper.specs.Refusals.{over_long, nobody_there}
use Rattle.paper.specs.RecordsOut.{all_bytes}
use Rattle.paper.specs.Datagrams.{shown_to, indications, frames}
use Rattle.paper.specs.StateRows.{state_rows}
use Rattle.table_image.specs.Layout.{table_of}
use Rattle.call_outcomes.proofs.Laws.{leaves_refused, leaves_served, where_true, where_false}
use Rattle.call_frames.proofs.Laws.{not_called, called}
use Rattle.call_frames.proofs.show.Goals as goal

pub returns-then-f-gt-MOST_DATA : goal.returns-then-f-gt-MOST_DATA
unfolding frames
returns-then-f-gt-MOST_DATA c =
    let a = c.args in
    let img = a.table.image.now in
    let room = a.room.now in
    where_true img room _ _ (lt-ltb _ _ c.if-f-gt-MOST_DATA.true) (leaves_refused img room (table_of img) over_long _ (omega arith) refl)

pub returns-then-not-knows : goal.returns-then-not-knows
unfolding frames
returns-then-not-knows c =
    let a = c.args in
    let img = a.table.image.now in
    let room = a.room.now in
    where_false img room _ _ (le-ltb _ _ c.if-f-gt-MOST_DATA.false)
    (where_true img room _ _ (ap not (sym c.knows.ensures ∙ c.if-not-knows.true))
    (leaves_refused img room (table_of img) nobody_there _ (omega arith) refl))

pub returns-then-not-is_called : goal.returns-then-not-is_called
unfolding frames
returns-then-not-is_called c =
    let img = c.args.table.image.now in
    let room = c.args.room.now in
    let t = table_of img in
    let r = c.args.r.now in
    let f = c.args.f in
    let nobody = not_called t r f (sym c.is_called.ensures ∙ c.if-not-is_called.true) in
    where_false img room _ _ (le-ltb _ _ c.if-f-gt-MOST_DATA.false)
    (where_false img room _ _ (ap not (sym c.knows.ensures ∙ c.if-not-knows.false))
    (leaves_served img room t (indications r f (shown_to state_rows t r f)) 0 img room
    (wrote_as (ap (λ (l : List ℕ). all_bytes (indications r f l)) nobody) (record { ends = refl; stands = refl })) (sym c.args.table.lent.same)))

pub returns : goal.returns
unfolding frames
returns c =
    let img = c.args.table.image.now in
    let room = c.args.room.now in
    let t = table_of img in
    let r = c.args.r.now in
    let f = c.args.f in
    let some = called t r f (sym c.is_called.ensures ∙ c.if-not-is_called.false) in
    where_false img room _ _ (le-ltb _ _ c.if-f-gt-MOST_DATA.false)
    (where_false img room _ _ (ap not (sym c.knows.ensures ∙ c.if-not-knows.false))
    (leaves_served img room t (indications r f (shown_to state_rows t r f)) _ img _
    (wrote_as (ap (λ (l : List ℕ). all_bytes (indications r f l)) some) (wrote_of c.put_indications-written.ensures)) (sym c.args.table.lent.same)))
