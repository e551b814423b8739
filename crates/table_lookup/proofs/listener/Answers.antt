-- The first stream that listens.
use Rattle.std.proofs.Common.{◌≡◌, Bool, true, false, sym, rules}
use Rattle.std.proofs.lemmas.Iterator.{first_from_Range}
use lib.ListN.{get_or}
use Rattle.paper.specs.Base.{Slot, closed}
use Rattle.paper.specs.Saps.{listens, listener}
use Rattle.table_image.specs.Layout.{table_of}
use Rattle.ledger.proofs.Places.{found, first_place}
use Rattle.table_lookup.proofs.listener.Goals as goal

pub returns : goal.returns
unfolding listener
returns c =
    let l = (table_of c.args.table.image.now).slots in
    let f : Slot → Bool = λ x. listens c.args.p c.args.sap x.stream in
    let first =
    first_from_Range _ _ _ _ (λ k. f (get_or l k closed) ≡ true) (λ k. f (get_or l k closed) ≡ false) c.find.ensures.ran (λ x q k. search rules)
    (λ x q k. search rules) in
    let h = found f closed l _ _ (sym c.args.table.lent.shaped.sixteen) first in
    rw (h, ← c.args.table.lent.shaped.sixteen) (first_place f l)
