-- Each change is made by what stores it; one that takes an indication is asked for only where there is a place.
use Rattle.std.proofs.Common.{sym, refl}
use Rattle.paper.specs.Effects.{changed}
use Rattle.call_changes.proofs.change_stream.Goals as goal

pub take_indication-requires : goal.take_indication-requires
take_indication-requires c =
    let lent = c.requires in
    record { at = lent.at; place = lent.place (rw c.in-Takes.is refl) }

pub returns-in-Stays : goal.returns-in-Stays
unfolding changed
returns-in-Stays c = rw c.in-Stays.is (sym c.requires.at.lent.same)

pub returns-in-Becomes : goal.returns-in-Becomes
unfolding changed
returns-in-Becomes c = rw c.in-Becomes.is c.store_stream.ensures

pub returns-in-Takes : goal.returns-in-Takes
returns-in-Takes c = rw c.in-Takes.is c.take_indication.ensures

pub returns-in-Loses : goal.returns-in-Loses
returns-in-Loses c = rw c.in-Loses.is c.lose_indication.ensures
