-- The kind is the first byte, so the test of the code is that of the definition, and each way takes the same part of the record.
use native.Mathlib.Omega.{arith}
use Rattle.ledger.specs.Choice.{◌⇒◌∣◌}
use Rattle.replay_transcript.specs.Transcript.{shown_of}
use Rattle.paper.proofs.Sizes.{size-within}
use Rattle.replay_transcript.proofs.shown.Goals as goal

pub returns-then-is_message : goal.returns-then-is_message
unfolding shown_of ◌⇒◌∣◌
returns-then-is_message c =
    rw (← c.byte_at-kind.ensures, ← c.is_message.ensures, c.if-is_message.true, ← c.byte_at.ensures) c.part_at.ensures

pub overflow_sub-size_out : goal.overflow_sub-size_out
overflow_sub-size_out c = omega (arith, c.size_out.ensures, size-within c.byte_at-kind.result)

pub part_at-requires-2 : goal.part_at-requires-2
part_at-requires-2 c = omega (arith, c.size_out.ensures, size-within c.byte_at-kind.result)

pub returns : goal.returns
unfolding shown_of ◌⇒◌∣◌
returns c =
    rw (← c.byte_at-kind.ensures, ← c.is_message.ensures, c.if-is_message.false, ← c.size_out.ensures) c.part_at-2.ensures
