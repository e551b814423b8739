-- The records are those told of the table as it was; then the stream is changed, and then the one that carries.
use mathlib.Core.Path.{◌∙◌}
use Rattle.paper.specs.Base.{Table, slot, mac_at}
use Rattle.paper.specs.Effects.{changed, carried, enacted, told}
use Rattle.table_image.specs.Layout.{table_of}
use Rattle.table_image.proofs.Lending.{lent_after, change_after}
use Rattle.call_outcomes.proofs.Laws.{leaves_served}
use Rattle.call_changes.proofs.Laws.{shaped-changed}
use Rattle.octets.proofs.Writing.{wrote_of}
use Rattle.call_enacting.proofs.enact.Goals as goal

pub carry-requires : goal.carry-requires
carry-requires c =
    let t = table_of c.args.img.now in
    let change = c.args.d.effect.change in
    let shaped = shaped-changed t c.requires.call.lent.shaped c.args.d.stream change c.requires.fits.place in
    lent_after (changed t c.args.d.stream change) shaped _ c.change_stream.ensures

pub returns : goal.returns
unfolding enacted
returns c =
    let img = c.args.img.now in
    let t = table_of img in
    let i = c.args.d.stream in
    let k = c.args.d.carrier in
    let m = c.args.r.now in
    let e = c.args.d.effect in
    let shaped = shaped-changed t c.requires.call.lent.shaped i e.change c.requires.fits.place in
    leaves_served img c.args.room.now (enacted t i k m e) (told i k (slot t i) (mac_at t i) m e) _ _ _
    (wrote_of c.put_records-n.ensures)
    (c.carry.ensures
    ∙ change_after (changed t i e.change) shaped (λ (u : Table). carried u k e.carries) _ c.change_stream.ensures)
