-- By no row an event is refused, else it does what its row says; a call that is due finds a place.
use mathlib.Core.Path.{sym, subst}
use Rattle.paper.specs.Room.{Fits}
use Rattle.paper.proofs.Effects.{event_fits}
use Rattle.call_outcomes.specs.Answering.{refusal_number}
use Rattle.table_image.specs.Layout.{table_of}
use Rattle.call_events.proofs.Laws.{no_row, by_row, place}
use Rattle.call_events.proofs.come.Goals as goal

pub returns-in_default : goal.returns-in_default
returns-in_default c =
    let t = table_of c.args.table.image.now in
    λ r. record { comes = no_row t c.args.i r (refusal_number c.args.refusal) c.args.event _ c.row_of.ensures c.in_default.is; fits = tt }

pub returns : goal.returns
returns c =
    let t = table_of c.args.table.image.now in
    let i = c.args.i in
    let row = c.row_of.ensures in
    let effect = c.event_effect.ensures in
    λ r. rw c.alone.ensures (record {
      comes = by_row t i r (refusal_number c.args.refusal) c.args.event _ row _ _ _ c.in-Some.is c.load_stream-s.ensures effect;
      fits = record {
        within = c.requires.within;
        place = place t i c.args.event _ _ _ _ row c.in-Some.is effect c.requires.granted;
        fits = subst Fits (sym effect) (event_fits _ _ c.args.event);
      };
    })
