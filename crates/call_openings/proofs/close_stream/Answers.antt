-- An open stream is one of the table: its goodbyes are written, and then it is closed.
use mathlib.Core.Path.{sym, ◌∙◌}
use Rattle.ledger.specs.Choice.{◌⇒◌∣◌}
use Rattle.paper.specs.Base.{slot, closed, with_slot}
use Rattle.paper.specs.Openings.{goodbyes, closes}
use Rattle.paper.specs.Step.{of_open}
use Rattle.table_image.specs.Layout.{table_of}
use Rattle.table_image.proofs.Shapes.{open_within}
use Rattle.call_outcomes.specs.Leaving.{leaving}
use Rattle.call_outcomes.proofs.Laws.{leaves_served}
use Rattle.octets.proofs.Writing.{wrote_of}
use Rattle.call_openings.proofs.close_stream.Goals as goal

pub returns-then-not-is_open : goal.returns-then-not-is_open
unfolding of_open leaving ◌⇒◌∣◌
returns-then-not-is_open c = simp (← c.is_open.ensures, c.if-not-is_open.true)

pub put_goodbyes-written-requires : goal.put_goodbyes-written-requires
put_goodbyes-written-requires c =
    let opened = sym c.is_open.ensures ∙ c.if-not-is_open.false in
    let within = open_within (table_of c.args.img.now) c.requires.lent.shaped c.args.i opened in
    record { within = within; roomy = c.requires.roomy }

pub close_slot-requires : goal.close_slot-requires
close_slot-requires c =
    let opened = sym c.is_open.ensures ∙ c.if-not-is_open.false in
    let within = open_within (table_of c.args.img.now) c.requires.lent.shaped c.args.i opened in
    record { at = record { within = within; lent = c.requires.lent }; opened = opened }

pub returns : goal.returns
unfolding of_open closes ◌⇒◌∣◌
returns c =
    let a = c.args in
    let t = table_of a.img.now in
    simp (← c.is_open.ensures, c.if-not-is_open.false)
    (leaves_served a.img.now a.room.now (with_slot t a.i closed) (goodbyes a.i (slot t a.i)) _ _ _
    (wrote_of c.put_goodbyes-written.ensures) c.close_slot.ensures)
