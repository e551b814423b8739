-- What is left to try, from the number that is tried, gives the answer.
use Rattle.std.proofs.Common.{◌≡◌, ◌+◌, ◌-◌, sym, ap, ◌∙◌, arith}
use Rattle.ledger.specs.Tally.{next_from}
use Rattle.ledger.proofs.Found.{next_here, next-on}
use Rattle.paper.specs.Correlations.{occurrences, next_number, most_passed}
use Rattle.table_image.specs.Layout.{table_of}
use Rattle.table_numbers.proofs.next_number.Goals as goal

pub loop-init : goal.loop-init
unfolding next_number
loop-init c = ap (next_from most_passed (occurrences (table_of c.args.img.now))) (sym c.counter-n.ensures)

pub returns-then-is_free : goal.returns-then-is_free
returns-then-is_free c =
    let l = c.loop in
    let t = table_of c.args.img.now in
    sym (l.invariant ∙ next_here (occurrences t) (most_passed - l.counter) l.n (omega arith) (sym c.is_free.ensures ∙ c.if-is_free.true))

pub loop-preserved : goal.loop-preserved
loop-preserved c =
    let l = c.loop in
    let t = table_of c.args.img.now in
    let e : most_passed - l.counter - 1 ≡ most_passed - (l.counter + 1) = omega arith in
    l.invariant
    ∙ next-on (occurrences t) (most_passed - l.counter) l.n (omega arith) (sym c.is_free.ensures ∙ c.if-is_free.false)
    ∙ cc
