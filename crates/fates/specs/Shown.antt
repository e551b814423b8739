-- The lines of the text from a history alone: what a reader of docs/FATES.md expects in each column.
use Rattle.std.specs.Prelude.{ℕ, suc, List, [], ◌∷◌, ◌++◌, length, eqb}
use Rattle.ledger.specs.Choice.{both}
use Rattle.ledger.specs.Tally.{sum_of, first_of}
use Rattle.paper.specs.Base.{stream_total}
use Rattle.fates_book.specs.declared.End.{End}
use Rattle.fates_book.specs.declared.End.TheVariants.{Accepted, Denied, Withdrawn, Dropped}
use Rattle.fates_book.specs.Book.{Indication, Opening, is_still_open, open_count, newest, count_of, tallies, over_streams}
use Rattle.fates_report.specs.Report.{word_call, word_opening, word_total, word_of, spaced_number}
use Rattle.promises.specs.History.{Answered, lines, fates, indicated, accepted, denied, withdrawn, dropped, left_open_in}

-- an opening's line: which opening of its stream, and its counts
unfoldable pub opening_shown : ℕ → List Answered → List ℕ
opening_shown s h =
    word_opening ++ spaced_number s ++ spaced_number (length (fates s h))
    ++ spaced_number (indicated s 0 h) ++ spaced_number (accepted s 0 h) ++ spaced_number (denied s 0 h) ++ spaced_number (withdrawn s 0 h) ++ spaced_number (dropped s 0 h)
    ++ spaced_number (left_open_in s 0 h) ++ (10 ∷ [])

-- the line of an indication that ends, where stream s has these openings: of the newest one's that are still open, with this number,
-- the oldest
unfoldable pub indication_shown : ℕ → ℕ → End → List Opening → List ℕ
indication_shown s n e b =
    word_call ++ spaced_number s ++ spaced_number (length b)
    ++ spaced_number (suc (first_of (λ (x : Indication). both (is_still_open x.fate) (eqb n x.number)) (newest b))) ++ spaced_number n
    ++ word_of e ++ (10 ∷ [])

-- count k over all openings of all streams
abbrev pub total_of : ℕ → List Answered → ℕ
total_of k h = over_streams stream_total (λ s. sum_of (λ (n : ℕ). n) (tallies k s (lines h) []))

-- the last line
unfoldable pub total_shown : List Answered → List ℕ
total_shown h =
    word_total ++ spaced_number (over_streams stream_total (λ s. length (fates s h)))
    ++ spaced_number (total_of 0 h)
    ++ spaced_number (total_of (count_of Accepted) h) ++ spaced_number (total_of (count_of Denied) h)
    ++ spaced_number (total_of (count_of Withdrawn) h) ++ spaced_number (total_of (count_of Dropped) h)
    ++ spaced_number (over_streams stream_total (λ s. sum_of open_count (fates s h))) ++ (10 ∷ [])
