-- The line has five pieces, each put behind the one before it, and the last number is what the register says is open.
use native.Mathlib.Omega.{arith}
use mathlib.Core.Path.{◌≡◌}
use Rattle.text.proofs.Putting.{put_then, put-more}
use Rattle.fates_register.specs.Register.{open_on}
use Rattle.fates_report.proofs.put_opening.Goals as goal

pub returns : goal.returns
returns c =
    let same : c.open_on.result ≡ open_on c.args.i c.args.register.now = c.open_on.ensures.is in
    let to_counts = put_then (put_then c.put_word.ensures c.put_spaced.ensures) c.put_numbers.ensures in
    rw (← same) (put-more (omega arith) (put_then (put_then to_counts c.put_spaced-2.ensures) c.put_word-2.ensures))
