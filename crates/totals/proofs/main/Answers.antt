-- A fresh table is sound, so the turns may begin.
use Rattle.keeping.proofs.Images.{fresh-image}
use Rattle.totals.proofs.main.Goals as goal

pub tell-requires : goal.tell-requires
tell-requires c = fresh-image
