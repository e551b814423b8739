-- A history: what came back of calls in any sequence, refused ones included. From it alone, never from a table: the fates of the
-- connection indications, their counts, those still open, the count granted, which streams are open.
use Rattle.std.specs.Prelude.{ℕ, suc, Bool, true, not, List, [], ◌∷◌, ◌++◌, get_or, eqb}
use Rattle.ledger.specs.Choice.{pick, both, either}
use Rattle.octets.specs.Numbers.{be32_at}
use Rattle.ledger.specs.Tally.{one_if, has, sum_of}
use Rattle.fates_book.specs.declared.End.TheVariants.{Accepted, Denied, Withdrawn, Dropped}
use Rattle.fates_book.specs.declared.Line.{Line}
use Rattle.fates_book.specs.Lines.{lines_of}
use Rattle.fates_book.specs.Book.{Opening, open_of, open_count, newest, posts, count_of, tallies, grant_by}

-- what came back of a call: the bytes lent to it; the refusal number, or the stream's token where one was opened and the bytes of
-- the records written
pub record Answered : Type 0 where
  pub lent : List ℕ
  pub refusal : ℕ
  pub opened : ℕ
  pub written : List ℕ

-- ---- what a history says

abbrev pub said_by : Answered → List Line
said_by a = lines_of a.lent a.opened a.written

unfoldable pub lines : List Answered → List Line
lines [] = []
lines (a ∷ h) = said_by a ++ lines h

-- of stream s: its openings, the newest first, each with its indications, the oldest first, and the fate of each
abbrev pub fates : ℕ → List Answered → List Opening
fates s h = posts s (lines h) []

-- the numbers of those still open in its newest opening, the oldest first
abbrev pub open_by : ℕ → List Answered → List ℕ
open_by s h = open_of (newest (fates s h))

-- of the record at the start of some bytes: an a names an indication that is open on the stream that asked, a d with a number other than 0
-- one that is open on the stream that it names
abbrev pub names_open : (ℕ → List ℕ) → ℕ → List ℕ → Bool
names_open of_stream from b =
    pick (eqb (get_or b 0 0) 97) (has (be32_at b 2) (of_stream from))
    (pick (eqb (get_or b 0 0) 100) (either (eqb (be32_at b 2) 0) (has (be32_at b 2) (of_stream (get_or b 1 0)))) true)

-- the count granted at the bind of its newest opening
abbrev pub granted_by : ℕ → List Answered → ℕ
granted_by s h = grant_by s (lines h) 0

-- ---- openings and closes, as the caller makes them

-- a served O that opened stream s, and a served X of stream s
abbrev pub opens_stream : ℕ → Answered → Bool
opens_stream s a = both (eqb (get_or a.lent 0 0) 79) (both (eqb a.refusal 0) (eqb a.opened (suc s)))

abbrev pub closes_stream : ℕ → Answered → Bool
closes_stream s a = both (eqb (get_or a.lent 0 0) 88) (both (eqb a.refusal 0) (eqb (get_or a.lent 1 0) s))

-- how often stream s was opened
abbrev pub opens_of : ℕ → List Answered → ℕ
opens_of s h = sum_of (λ (a : Answered). one_if (opens_stream s a)) h

-- whether it is open after a history, where it was open before or not
abbrev pub open_after : ℕ → Answered → Bool → Bool
open_after s a b = either (opens_stream s a) (both (not (closes_stream s a)) b)

unfoldable pub is_open_by : ℕ → List Answered → Bool → Bool
is_open_by s [] b = b
is_open_by s (a ∷ h) b = is_open_by s h (open_after s a b)

-- ---- counts of opening j of stream s, the newest 0: each by its own rule from the records

abbrev pub counted : ℕ → ℕ → ℕ → List Answered → ℕ
counted k s j h = get_or (tallies k s (lines h) []) j 0

-- CONNECT_INDs written to it
abbrev pub indicated : ℕ → ℕ → List Answered → ℕ
indicated = counted 0

-- orders a for its messages
abbrev pub accepted : ℕ → ℕ → List Answered → ℕ
accepted = counted (count_of Accepted)

-- orders d with a number, for its messages
abbrev pub denied : ℕ → ℕ → List Answered → ℕ
denied = counted (count_of Denied)

-- DISCONNECT_INDs with a number
abbrev pub withdrawn : ℕ → ℕ → List Answered → ℕ
withdrawn = counted (count_of Withdrawn)

-- orders d with a number, for its close
abbrev pub dropped : ℕ → ℕ → List Answered → ℕ
dropped = counted (count_of Dropped)

-- indications that none of these ended
abbrev pub left_open_in : ℕ → ℕ → List Answered → ℕ
left_open_in s j h = open_count (get_or (fates s h) j [])
