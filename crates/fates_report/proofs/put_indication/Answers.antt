-- The line has six pieces, and each is put behind the one before it.
use native.Mathlib.Omega.{arith}
use Rattle.text.proofs.Putting.{put_then, put-more}
use Rattle.fates_report.proofs.put_indication.Goals as goal

pub returns : goal.returns
returns c =
    let to_opening = put_then (put_then c.put_word.ensures c.put_spaced.ensures) c.put_numbers.ensures in
    let to_fate = put_then (put_then to_opening c.put_numbers-2.ensures) c.put_word-2.ensures in
    put-more (omega (arith, c.requires.short)) (put_then to_fate c.put_word-3.ensures)
