-- The text of `fates`, line by line, from the register: see docs/FATES.md.
use Rattle.std.specs.Prelude.{ℕ, zero, suc, ◌+◌, ◌*◌, ◌/◌, ◌%◌, ◌≤◌, ◌<◌, ◌≡◌, List, [], ◌∷◌, ◌++◌, length, get_or, take, ltb, eqb}
use Rattle.ledger.specs.Choice.{both, ◌⇒◌∣◌}
use Rattle.text.specs.Digits.{most_digits, decimal}
use Rattle.text.specs.Page.{Shown, shown, Added, Put}
use Rattle.text.specs.declared.Page.{Page}
use Rattle.paper.specs.Base.{stream_total}
use Rattle.paper.specs.Saps.{most_open}
use Rattle.paper.specs.RecordsIn.{message_size}
use Rattle.paper.specs.declared.Input.{Input}
use Rattle.paper.specs.RecordsOut.{accept_size}
use Rattle.paper.specs.Room.{frame_room_size}
use Rattle.fates_book.specs.declared.End.{End}
use Rattle.fates_book.specs.declared.End.TheVariants.{Accepted, Denied, Withdrawn, Dropped}
use Rattle.fates_book.specs.declared.Line.{Line}
use Rattle.fates_book.specs.declared.Line.TheVariants.{Began, Came, Went, Given, Nothing}
use Rattle.fates_book.specs.Lines.{lines_in, lines_of}
use Rattle.fates_register.specs.Register.{count_total, totals_at, register_size, page_of, places_of, places_end, place_of, open_on, entered, entered_all}

-- ---- words

-- 'dlpi fates', 'call', 'opening', 'total'
abbrev pub heading : List ℕ
heading = 100 ∷ 108 ∷ 112 ∷ 105 ∷ 32 ∷ 102 ∷ 97 ∷ 116 ∷ 101 ∷ 115 ∷ 10 ∷ []

abbrev pub word_call : List ℕ
word_call = 99 ∷ 97 ∷ 108 ∷ 108 ∷ []

abbrev pub word_opening : List ℕ
word_opening = 111 ∷ 112 ∷ 101 ∷ 110 ∷ 105 ∷ 110 ∷ 103 ∷ []

abbrev pub word_total : List ℕ
word_total = 116 ∷ 111 ∷ 116 ∷ 97 ∷ 108 ∷ []

-- ' accepted', ' denied', ' withdrawn', ' dropped', ' open'
abbrev pub word_of : End → List ℕ
word_of Accepted = 32 ∷ 97 ∷ 99 ∷ 99 ∷ 101 ∷ 112 ∷ 116 ∷ 101 ∷ 100 ∷ []
word_of Denied = 32 ∷ 100 ∷ 101 ∷ 110 ∷ 105 ∷ 101 ∷ 100 ∷ []
word_of Withdrawn = 32 ∷ 119 ∷ 105 ∷ 116 ∷ 104 ∷ 100 ∷ 114 ∷ 97 ∷ 119 ∷ 110 ∷ []
word_of Dropped = 32 ∷ 100 ∷ 114 ∷ 111 ∷ 112 ∷ 112 ∷ 101 ∷ 100 ∷ []

abbrev pub word_still_open : List ℕ
word_still_open = 32 ∷ 111 ∷ 112 ∷ 101 ∷ 110 ∷ []

-- ---- lines

-- a blank and a number
abbrev pub spaced_number : ℕ → List ℕ
spaced_number n = 32 ∷ decimal n

-- k numbers of the register, from cell c on
unfoldable pub numbers : ℕ → ℕ → List ℕ → List ℕ
numbers zero c l = []
numbers (suc k) c l = spaced_number (get_or l c 0) ++ numbers k (c + 1) l

-- 'call stream opening call number fate', of the indication in cell c
abbrev pub indication_line : ℕ → ℕ → List ℕ → List ℕ → List ℕ
indication_line i c word l = word_call ++ spaced_number i ++ numbers 1 (page_of i) l ++ numbers 2 c l ++ word ++ (10 ∷ [])

-- the lines of those still open, from cell c on, at most so many
unfoldable pub open_lines : ℕ → ℕ → ℕ → List ℕ → List ℕ
open_lines zero i c l = []
open_lines (suc k) i c l = eqb (get_or l c 0) 0 ⇒ [] ∣ indication_line i c word_still_open l ++ open_lines k i (c + 2) l

-- 'opening stream opening calls accepted denied withdrawn dropped open'
abbrev pub opening_line : ℕ → List ℕ → List ℕ
opening_line i l = word_opening ++ spaced_number i ++ numbers count_total (page_of i) l ++ spaced_number (open_on i l) ++ (10 ∷ [])

-- what is printed of an opening at its end; nothing of a stream that was never opened
unfoldable pub end_text : ℕ → List ℕ → List ℕ
end_text i l = eqb (get_or l (page_of i) 0) 0 ⇒ [] ∣ open_lines most_open i (places_of i) l ++ opening_line i l

-- ---- what is printed when a line of the history is entered

unfoldable pub line_text : Line → List ℕ → List ℕ
line_text (Began i) l = ltb i stream_total ⇒ end_text i l ∣ []
line_text (Came i n) l = []
line_text (Went i n e) l = both (ltb i stream_total) (ltb (place_of i n l) (places_end i)) ⇒ indication_line i (place_of i n l) (word_of e) l ∣ []
line_text (Given i g) l = []
line_text Nothing l = []

unfoldable pub all_text : List Line → List ℕ → List ℕ
all_text [] l = []
all_text (y ∷ ys) l = line_text y l ++ all_text ys (entered y l)

-- ---- at the end of the capture

-- the last openings of k streams from i on
unfoldable pub end_texts : ℕ → ℕ → List ℕ → List ℕ
end_texts zero i l = []
end_texts (suc k) i l = end_text i l ++ end_texts k (i + 1) l

-- how many are open on k streams from i on
unfoldable pub open_on_all : ℕ → ℕ → List ℕ → ℕ
open_on_all zero i l = 0
open_on_all (suc k) i l = open_on i l + open_on_all k (i + 1) l

-- 'total openings calls accepted denied withdrawn dropped open'
abbrev pub total_line : List ℕ → List ℕ
total_line l = word_total ++ numbers count_total totals_at l ++ spaced_number (open_on_all stream_total 0 l) ++ (10 ∷ [])

abbrev pub closing : List ℕ → List ℕ
closing l = end_texts stream_total 0 l ++ total_line l

-- ---- a call

-- the records written, in the call that was lent q
abbrev pub lines_written : Input → List ℕ → List Line
lines_written q written = lines_in (length written) q written

-- from the record lent to it, what it returned, and the room that it left
abbrev pub lines_told : List ℕ → ℕ → List ℕ → List Line
lines_told lent answer room = lines_of lent (answer / 16777216) (take (answer % 65536) room)

-- ---- how much room each takes at most

abbrev pub spaced_size : ℕ
spaced_size = 1 + most_digits

-- ' withdrawn' is the longest
abbrev pub fate_size : ℕ
fate_size = 10

abbrev pub indication_size : ℕ
indication_size = length word_call + 4 * spaced_size + fate_size + 1

-- the line of an opening, and that of the total, whose word is shorter
abbrev pub counts_size : ℕ
counts_size = length word_opening + (1 + count_total + 1) * spaced_size + 1

abbrev pub end_size : ℕ
end_size = most_open * indication_size + counts_size

abbrev pub ends_size : ℕ
ends_size = stream_total * end_size

abbrev pub closing_size : ℕ
closing_size = ends_size + counts_size

-- What is printed for each byte of a record out: of those that say something an order a is the shortest.
abbrev pub per_byte : ℕ
per_byte = indication_size / accept_size + 1

-- The records stand in a room, and one that is cut begins there.
abbrev pub records_size : ℕ
records_size = per_byte * (frame_room_size + message_size)

abbrev pub told_size : ℕ
told_size = end_size + records_size

-- ---- what is lent: a register, and a page with room for a text

pub record RegisterRoom (register : List ℕ) (size : ℕ) (page : Page) : Type 0 where
  pub long : length register ≡ register_size
  pub room : size ≤ length (shown page).spare

-- and a stream that has a page of the register
pub record StreamRoom (i : ℕ) (register : List ℕ) (size : ℕ) (page : Page) : Type 0 where
  pub within : i < stream_total
  pub lent : RegisterRoom register size page

-- and the two cells of an indication
pub record PlaceRoom (i c : ℕ) (register : List ℕ) (size : ℕ) (page : Page) : Type 0 where
  pub cells : c + 2 ≤ register_size
  pub on : StreamRoom i register size page

-- and a word for its fate
pub record FateRoom (word : List ℕ) (i c : ℕ) (register : List ℕ) (size : ℕ) (page : Page) : Type 0 where
  pub short : length word ≤ fate_size
  pub of : PlaceRoom i c register size page

-- and a token, or 0
pub record TokenRoom (token : ℕ) (register : List ℕ) (size : ℕ) (page : Page) : Type 0 where
  pub small : token < 256
  pub lent : RegisterRoom register size page

-- and what was written into a room
pub record WrittenRoom (written register : List ℕ) (size : ℕ) (page : Page) : Type 0 where
  pub short : length written ≤ frame_room_size
  pub lent : RegisterRoom register size page

-- k cells of any list, and room for their numbers
pub record NumbersRoom (c k : ℕ) (cells : List ℕ) (page : Page) : Type 0 where
  pub within : c + k ≤ length cells
  pub room : spaced_size * k ≤ length (shown page).spare

-- ---- what is told: a text is added to what a page shows, and the register changes

pub record Saying (most : ℕ) (text kept : List ℕ) (before after : Shown) (register' : List ℕ) : Type 0 where
  pub wrote : Added most text before after
  pub entered : register' ≡ kept

-- of lines
abbrev pub SayingOf : ℕ → List Line → Shown → Shown → List ℕ → List ℕ → Type 0
SayingOf most ys before after register register' =
    Saying most (all_text ys register) (entered_all ys register) before after register'

-- ---- the same of a page: a text is put, and the register changes

pub record Telling (most : ℕ) (text kept : List ℕ) (before after : Page) (register' : List ℕ) : Type 0 where
  pub wrote : Put most text before after
  pub entered : register' ≡ kept

-- of lines
abbrev pub TellingOf : ℕ → List Line → Page → Page → List ℕ → List ℕ → Type 0
TellingOf most ys before after register register' =
    Telling most (all_text ys register) (entered_all ys register) before after register'
