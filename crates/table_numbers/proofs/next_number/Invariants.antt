-- What is left to try, from the number that is tried, gives the answer.
use Rattle.std.proofs.Common.{◌≡◌, ◌-◌}
use Rattle.ledger.specs.Tally.{next_from}
use Rattle.paper.specs.Correlations.{occurrences, next_number, most_passed}
use Rattle.table_image.specs.Layout.{table_of}
use Rattle.table_numbers.proofs.next_number.Given as goal

abbrev pub invariant-loop : goal.invariant-loop
invariant-loop l = next_number (table_of l.img) ≡ next_from (most_passed - l.counter) (occurrences (table_of l.img)) l.n
