-- The line of the total stands behind the last openings.
use Rattle.text.proofs.Putting.{put_then}
use Rattle.fates_report.proofs.put_closing.Goals as goal

pub returns : goal.returns
returns c = put_then c.put_ends.ensures c.put_total.ensures
