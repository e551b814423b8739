-- The counter is stored, which leaves the open numbers as they were, and then the number is added.
use Rattle.std.proofs.Common.{◌<◌, [], ◌∷◌, ◌++◌, length, sym, ◌∙◌, subst}
use Rattle.paper.specs.Base.{Table, waiting, with_numbers, with_counter}
use Rattle.paper.specs.Effects.{changed}
use Rattle.table_image.specs.Layout.{table_of}
use Rattle.table_image.proofs.Shapes.{shaped-counter}
use Rattle.table_image.proofs.Lending.{lent_after, table_after, change_after}
use Rattle.paper.specs.Saps.{most_open}
use Rattle.call_changes.proofs.take_indication.Goals as goal

pub add_number-requires : goal.add_number-requires
unfolding with_counter
add_number-requires c =
    let n = c.wrapping_add_u32.result in
    let t = table_of c.args.img.now in
    let shaped = shaped-counter t c.requires.at.lent.shaped n in
    let stored = c.store_counter.ensures in
    record {
      at = record { within = c.requires.at.within; lent = lent_after (with_counter t n) shaped _ stored };
      place =
          subst (λ (u : Table). length (waiting u c.args.i) < most_open) (sym (table_after (with_counter t n) shaped _ stored)) c.requires.place;
    }

pub returns : goal.returns
unfolding changed with_counter
returns c =
    let counted = c.wrapping_add_u32 in
    let t = table_of c.args.img.now in
    let n = counted.result in
    let added : Table → Table = λ u. with_numbers u c.args.i c.args.s (waiting u c.args.i ++ (c.args.n.0 ∷ [])) in
    c.add_number.ensures
    ∙ change_after (with_counter t n) (shaped-counter t c.requires.at.lent.shaped n) added _ c.store_counter.ensures
    ∙ rw counted.ensures.value
