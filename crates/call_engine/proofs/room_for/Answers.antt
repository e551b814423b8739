-- A frame alone needs more.
use Rattle.call_engine.proofs.Laws.{plain_room}
use Rattle.call_engine.proofs.room_for.Goals as goal

pub returns-in_default : goal.returns-in_default
returns-in_default c = plain_room c.args.q c.in_default.not-Frame
