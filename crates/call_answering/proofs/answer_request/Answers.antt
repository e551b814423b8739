-- A request is answered by its state row: with none it is an error, else what the judged request comes to. No message takes an
-- open indication, so there is always a place; and each effect fits the room.
use mathlib.Core.Path.{ap, ◌∙◌}
use Rattle.paper.specs.Effects.{error_effect}
use Rattle.table_image.specs.Layout.{table_of}
use Rattle.call_answering.proofs.Laws.{no_row, by_row, error_placed, message-placed}
use Rattle.call_answering.proofs.answer_request.Goals as goal

pub returns-in-None : goal.returns-in-None
returns-in-None c =
    let effect = c.error_effect.ensures ∙ ap (error_effect c.args.code) c.without_row-no_row.ensures in
    λ r. rw c.alone.ensures (record {
      comes =
          no_row (table_of c.args.table.image.now) c.args.i r c.args.code c.args.q _ _ c.load_stream-s.ensures
          c.request_row.ensures _ c.in-None.is effect;
      fits = error_placed _ c.requires _ effect;
    })

pub returns-in-Some : goal.returns-in-Some
returns-in-Some c =
    let effect = c.effect_by.ensures in
    λ r. record {
      comes =
          by_row (table_of c.args.table.image.now) c.args.i r c.args.code c.args.q _ _ c.load_stream-s.ensures
          c.request_row.ensures _ _ _ c.in-Some.is c.judged_request-judged.ensures effect;
      fits = message-placed _ c.requires _ _ _ _ _ effect;
    }
