-- A message is decided by what stands in it; what else comes to a stream is the line's.
use mathlib.Core.Path.{◌∙◌}
use Rattle.call_engine.proofs.Laws.{image_grants_few, read_whole, from_line}
use Rattle.call_engine.proofs.decide_coming.Goals as goal

pub message_to-requires : goal.message_to-requires
message_to-requires c = read_whole c.args.r.now _ (c.requires.read ∙ c.in-Message.is)

pub occur-requires : goal.occur-requires
occur-requires c =
    let img = c.args.table.image.now in
    record {
      granted = image_grants_few img c.requires.is_sound;
      line = from_line c.args.q c.requires.comes c.in_default.not-Message;
    }

pub returns-in-Message : goal.returns-in-Message
returns-in-Message c = rw c.in-Message.is c.message_to.ensures
