-- 'Correlation numbers': one counter for the table, from 1 (`fresh`).
use Rattle.std.specs.Prelude.{ℕ, ◌+◌, ◌*◌, ◌%◌, ◌^◌}
use Rattle.ledger.specs.Tally.{occ, sum_of, next_from}
use Rattle.paper.specs.Base.{stream_total, Slot, Table}
use Rattle.paper.specs.Saps.{most_open}

-- how often a number is open in the table
unfoldable pub occurrences : Table → ℕ → ℕ
occurrences t n = sum_of (λ (x : Slot). occ n x.waiting) t.slots

-- At most 16 times 8 numbers are open,
abbrev pub most_numbers : ℕ
most_numbers = stream_total * most_open

-- so at most 129 are passed over.
abbrev pub most_passed : ℕ
most_passed = most_numbers + 1

-- An indication takes the counter's number, passing over 0 and numbers still open.
unfoldable pub next_number : Table → ℕ
next_number t = next_from most_passed (occurrences t) t.counter

-- The counter then stands one past it and wraps from 4,294,967,295 to 0.
abbrev pub one_past : ℕ → ℕ
one_past n = (n + 1) % 2 ^ 32
