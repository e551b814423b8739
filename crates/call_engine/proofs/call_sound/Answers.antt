-- Refusals 10 and 1 in the definition's order; then the record is served.
use Prim.Native.Nat.{ℕ, ◌≤◌}
use native.Mathlib.Omega.{arith}
use mathlib.Core.Path.{refl, sym, ap, subst, ◌∙◌}
use mathlib.Core.Bool.{not}
use lib.ListN.{length}
use lib.Dec.{ltb}
use borrow.Author.Tests.{lt-ltb, le-ltb}
use Rattle.table_image.specs.Layout.{table_of}
use Rattle.call_outcomes.proofs.Laws.{leaves_refused, where_true, where_false}
use Rattle.call_outcomes.specs.Leaving.{leaving}
use Rattle.paper.specs.StateRows.{state_rows}
use Rattle.paper.specs.Step.{serve_by, is_readable}
use Rattle.paper.specs.Room.{room_for}
use Rattle.paper.specs.declared.Input.{Input}
use Rattle.call_engine.proofs.Laws.{call-on}
use Rattle.call_engine.proofs.call_sound.Goals as goal

pub returns-then-not-is_readable : goal.returns-then-not-is_readable
returns-then-not-is_readable c =
    let img = c.args.img.now in
    let room = c.args.room.now in
    where_true img room _ _ (ap not (sym (c.is_readable.ensures ∙ ap is_readable c.input_of-q.ensures) ∙ c.if-not-is_readable.true))
    (leaves_refused img room (table_of img) 10 _ (omega arith) refl)
    ∙ call-on img c.args.r.now room c.requires

pub returns-then-room-room_for : goal.returns-then-room-room_for
returns-then-room-room_for c =
    let img = c.args.img.now in
    let room = c.args.room.now in
    let needed = c.room_for.ensures ∙ ap room_for c.input_of-q.ensures in
    where_false img room _ _ (ap not (sym (c.is_readable.ensures ∙ ap is_readable c.input_of-q.ensures) ∙ c.if-not-is_readable.false))
    (where_true img room _ _ (ap (ltb (length room)) (sym needed) ∙ lt-ltb _ _ c.if-room-room_for.true)
    (leaves_refused img room (table_of img) 1 _ (omega arith) refl))
    ∙ call-on img c.args.r.now room c.requires

pub serve-requires : goal.serve-requires
serve-requires c =
    record {
      is_sound = c.requires;
      read = sym c.input_of-q.ensures;
      roomy = subst (λ (n : ℕ). n ≤ length c.args.room.now) c.room_for.ensures c.if-room-room_for.false;
    }

pub returns : goal.returns
returns c =
    let img = c.args.img.now in
    let room = c.args.room.now in
    let r = c.args.r.now in
    let needed = c.room_for.ensures ∙ ap room_for c.input_of-q.ensures in
    where_false img room _ _ (ap not (sym (c.is_readable.ensures ∙ ap is_readable c.input_of-q.ensures) ∙ c.if-not-is_readable.false))
    (where_false img room _ _ (ap (ltb (length room)) (sym needed) ∙ le-ltb _ _ c.if-room-room_for.false) (c.serve.ensures
    ∙ ap (λ (q : Input). leaving img room (serve_by state_rows (table_of img) r q)) c.input_of-q.ensures))
    ∙ call-on img r room c.requires
