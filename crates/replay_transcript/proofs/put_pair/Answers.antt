-- A pair is a number, a word and a number, and each is put behind the one before it.
use native.Mathlib.Omega.{arith}
use Rattle.text.proofs.Putting.{put_then, put-more}
use Rattle.replay_transcript.specs.Transcript.{pair}
use Rattle.replay_transcript.proofs.put_pair.Goals as goal

pub returns : goal.returns
unfolding pair
returns c =
    put-more (omega (arith, c.requires.short)) (put_then (put_then c.put_decimal.ensures c.put_word.ensures) c.put_decimal-2.ensures)
