-- A number is put, and the rest of the line behind it.
use native.Mathlib.Omega.{arith}
use Rattle.text.proofs.Putting.{put_then, put-more}
use Rattle.replay_transcript.proofs.put_ok.Goals as goal

pub returns : goal.returns
returns c = put-more (omega arith) (put_then c.put_decimal.ensures c.put_word.ensures)
