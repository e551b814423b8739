-- A fresh table and a blank register are what was told before the first call, so the turns may begin.
use Rattle.fates.proofs.Telling.{told-first}
use Rattle.fates.proofs.main.Goals as goal

pub tell_lent-requires : goal.tell_lent-requires
tell_lent-requires c = told-first
