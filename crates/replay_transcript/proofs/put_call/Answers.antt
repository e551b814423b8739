-- The tests of the answer are those of the text, in their order: a refusal, an opened stream, nothing written, else the records.
use native.Mathlib.Omega.{arith}
use borrow.Author.Tests.{lt-ltb, le-ltb, eq-eqb, ne_eqb}
use Rattle.ledger.specs.Choice.{◌⇒◌∣◌}
use Rattle.text.proofs.Putting.{put-more}
use Rattle.replay_transcript.specs.Transcript.{call_text}
use Rattle.replay_transcript.proofs.put_call.Goals as goal

pub returns-then-refusal-gt0 : goal.returns-then-refusal-gt0
unfolding call_text ◌⇒◌∣◌
returns-then-refusal-gt0 c =
    rw (lt-ltb _ _ c.if-refusal-gt0.true) (put-more (omega arith) c.put_pair_line.ensures)

pub returns-then-token-gt0 : goal.returns-then-token-gt0
unfolding call_text ◌⇒◌∣◌
returns-then-token-gt0 c =
    rw (le-ltb _ _ c.if-refusal-gt0.false, lt-ltb _ _ c.if-token-gt0.true) (put-more (omega arith) c.put_pair_line-then-token-gt0.ensures)

pub returns-then-written-eq0 : goal.returns-then-written-eq0
unfolding call_text ◌⇒◌∣◌
returns-then-written-eq0 c =
    rw (le-ltb _ _ c.if-refusal-gt0.false, le-ltb _ _ c.if-token-gt0.false, eq-eqb _ _ c.if-written-eq0.true)
    (put-more (omega arith) c.put_ok.ensures)

pub returns-else-written-eq0 : goal.returns-else-written-eq0
unfolding call_text ◌⇒◌∣◌
returns-else-written-eq0 c =
    rw (
      le-ltb _ _ c.if-refusal-gt0.false,
      le-ltb _ _ c.if-token-gt0.false,
      ne_eqb _ _ c.if-written-eq0.false,
      ← c.start_of.ensures,
    ) c.put_lines.ensures
