-- 'Measured examples', the replay program: what it prints of each call, as bytes of text.
use Rattle.std.specs.Prelude.{ℕ, zero, suc, ◌+◌, ◌-◌, ◌*◌, ◌/◌, ◌%◌, ◌≤◌, List, [], ◌∷◌, ◌++◌, length, get_or, take, drop, eqb, ltb}
use Rattle.ledger.specs.Choice.{◌⇒◌∣◌}
use Rattle.octets.specs.Runs.{part}
use Rattle.paper.specs.RecordsOut.{size_out, start_size}
use Rattle.paper.specs.Room.{frame_room_size}
use Rattle.text.specs.Digits.{most_digits, decimal, hex}
use Rattle.text.specs.Page.{shown}
use Rattle.text.specs.declared.Page.{Page}
use Rattle.paper.specs.RecordsIn.{head_size, message_size, is_message}

-- What a line shows behind the stream: of a message its bytes up to L, of other kinds the body's other fields.
unfoldable pub shown_of : List ℕ → List ℕ
shown_of r = is_message (get_or r 0 0) ⇒ part r head_size (get_or r 2 0) ∣ part r start_size (size_out (get_or r 0 0) - start_size)

-- ---- lines

-- two numbers with a word between them
unfoldable pub pair : ℕ → List ℕ → ℕ → List ℕ
pair n word m = decimal n ++ word ++ decimal m

-- A line ends where its fields end.
abbrev pub spaced : List ℕ → List ℕ
spaced [] = []
spaced (x ∷ l) = (32 ∷ []) ++ hex (x ∷ l)

-- One line for each record out: the call's number, the kind, the stream, the fields in hex.
unfoldable pub record_line : ℕ → List ℕ → List ℕ
record_line n r = pair n (32 ∷ get_or r 0 0 ∷ 32 ∷ []) (get_or r 1 0) ++ spaced (shown_of r) ++ (10 ∷ [])

-- The lines of records that stand one behind the other, at most so many.
unfoldable pub record_lines : ℕ → ℕ → List ℕ → List ℕ
record_lines zero n rs = []
record_lines (suc k) n [] = []
record_lines (suc k) n (x ∷ rs) = record_line n (x ∷ rs) ++ record_lines k n (drop (size_out x) (x ∷ rs))

abbrev pub all_lines : ℕ → List ℕ → List ℕ
all_lines n rs = record_lines (length rs) n rs

-- ' refused ', ' open ', ' ok'
abbrev word_refused : List ℕ
word_refused = 32 ∷ 114 ∷ 101 ∷ 102 ∷ 117 ∷ 115 ∷ 101 ∷ 100 ∷ 32 ∷ []

abbrev word_open : List ℕ
word_open = 32 ∷ 111 ∷ 112 ∷ 101 ∷ 110 ∷ 32 ∷ []

abbrev word_ok : List ℕ
word_ok = 32 ∷ 111 ∷ 107 ∷ []

-- 'n refused r', 'n open s', 'n ok'
abbrev pub refused_line : ℕ → ℕ → List ℕ
refused_line n r = pair n word_refused r ++ (10 ∷ [])

abbrev pub open_line : ℕ → ℕ → List ℕ
open_line n s = pair n word_open s ++ (10 ∷ [])

abbrev pub ok_line : ℕ → List ℕ
ok_line n = decimal n ++ (word_ok ++ (10 ∷ []))

-- What is printed of the call with a number of its own: from what the call returned, and the room that it left.
unfoldable pub call_text : ℕ → ℕ → List ℕ → List ℕ
call_text n answer room =
    ltb 0 (answer / 65536 % 256) ⇒ refused_line n (answer / 65536 % 256)
    ∣ ltb 0 (answer / 16777216) ⇒ open_line n (answer / 16777216 - 1)
    ∣ eqb (answer % 65536) 0 ⇒ ok_line n
    ∣ all_lines n (take (answer % 65536) room)

-- ---- the first line and the last

-- 'dlpi replay'
abbrev pub title : List ℕ
title = 100 ∷ 108 ∷ 112 ∷ 105 ∷ 32 ∷ 114 ∷ 101 ∷ 112 ∷ 108 ∷ 97 ∷ 121 ∷ 10 ∷ []

-- ' records, ' and ' refused'
abbrev word_records : List ℕ
word_records = 32 ∷ 114 ∷ 101 ∷ 99 ∷ 111 ∷ 114 ∷ 100 ∷ 115 ∷ 44 ∷ 32 ∷ []

abbrev word_refused_end : List ℕ
word_refused_end = 32 ∷ 114 ∷ 101 ∷ 102 ∷ 117 ∷ 115 ∷ 101 ∷ 100 ∷ []

-- 'n records, m refused'
abbrev pub totals : ℕ → ℕ → List ℕ
totals n m = pair n word_records m ++ (word_refused_end ++ (10 ∷ []))

-- ---- how much room each takes at most

-- a blank and fields
abbrev pub shown_size : List ℕ → ℕ
shown_size shown = 1 + 2 * length shown

-- the longest word between two numbers is ' records, '
abbrev pub word_size : ℕ
word_size = 10

abbrev pub pair_size : ℕ
pair_size = most_digits + word_size + most_digits

-- a pair and a word: every line but a record's
abbrev pub line_size : ℕ
line_size = pair_size + word_size

-- What a line takes for each byte of its record: that of the shortest, of two bytes, a pair, a blank and an end. A byte more is shown in
-- two digits, and of a message no L shows as much as its 99 bytes allow.
abbrev pub per_byte : ℕ
per_byte = (pair_size + 1 + 1) / start_size

abbrev pub record_line_size : List ℕ → ℕ
record_line_size r = per_byte * size_out (get_or r 0 0)

-- all that a call prints: its records stand in a room, and one that is cut begins there
abbrev pub call_text_size : ℕ
call_text_size = per_byte * (frame_room_size + message_size)

-- What is shown is short enough, and so much room for its text is on the page.
pub record Fits (most : ℕ) (what : List ℕ) (size : ℕ) (page : Page) : Type 0 where
  pub short : length what ≤ most
  pub room : size ≤ length (shown page).spare

-- and so is the end of its line
pub record FitsWith (most : ℕ) (end what : List ℕ) (size : ℕ) (page : Page) : Type 0 where
  pub ends : length end ≤ most
  pub fits : Fits most what size page
