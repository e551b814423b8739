-- The end of the marks' line is put, and the counts behind it.
use Rattle.text.proofs.Putting.{added, put_then, added-more}
use Rattle.std.proofs.Common.{lit≤}
use Rattle.totals.proofs.TotalsProgram.put_closing.Goals as goal

pub returns : goal.returns
returns c = added-more (lit≤ tt) (added (put_then c.put_word.ensures c.put_totals.ensures))
