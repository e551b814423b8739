-- The line has four pieces, each put behind the one before it, and the last number is the sum over the streams.
use native.Mathlib.Omega.{arith}
use Rattle.text.proofs.Putting.{put_then, put-more}
use Rattle.fates_report.proofs.put_total.Goals as goal

pub returns : goal.returns
returns c =
    let to_open = put_then (put_then c.put_word.ensures c.put_numbers.ensures) c.put_spaced.ensures in
    rw (← c.open_on_all.ensures) (put-more (omega arith) (put_then to_open c.put_word-2.ensures))
