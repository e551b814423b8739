-- A record's line is a pair, the fields shown and the line's end, and the pair and the fields are read from the record.
use native.Mathlib.Omega.{arith}
use borrow.Author.Rules.{rules}
use lib.ListN.{length, get_or}
use mathlib.Core.Path.{ap}
use Rattle.paper.specs.RecordsOut.{size_out}
use Rattle.paper.proofs.Sizes.{size-within}
use Rattle.text.proofs.Putting.{put_then, put-more}
use Rattle.replay_transcript.specs.Transcript.{record_line}
use Rattle.replay_transcript.proofs.Laws.{line-most}
use Rattle.replay_transcript.proofs.put_record.Goals as goal

pub put_pair-requires : goal.put_pair-requires
put_pair-requires c =
    record { short = search rules; room = omega (arith, c.requires, size-within (get_or c.args.r.now 0 0)) }

pub put_shown-requires : goal.put_shown-requires
put_shown-requires c =
    let line = line-most c.args.r.now (λ k. omega (arith, c.type_inv.r k)) in
    rw c.shown.ensures (omega (arith, c.requires, line, c.put_pair.ensures.few))

pub put_word-requires : goal.put_word-requires
put_word-requires c =
    let line = line-most c.args.r.now (λ k. omega (arith, c.type_inv.r k)) in
    omega (arith, c.requires, line, ap length c.shown.ensures, c.put_pair.ensures.few, c.put_shown.ensures.few)

pub returns : goal.returns
unfolding record_line
returns c =
    let line = line-most c.args.r.now (λ k. omega (arith, c.type_inv.r k)) in
    rw (← c.byte_at-kind.ensures, ← c.byte_at-stream.ensures, ← c.shown.ensures)
    (put-more (omega (arith, line, ap size_out c.byte_at-kind.ensures, ap length c.shown.ensures))
    (put_then (put_then c.put_pair.ensures c.put_shown.ensures) c.put_word.ensures))
