-- A fresh table is sound, so the turns may begin.
use Rattle.keeping.proofs.Images.{fresh-image}
use Rattle.replay.proofs.main.Goals as goal

pub tell_lent-requires : goal.tell_lent-requires
tell_lent-requires c = fresh-image
