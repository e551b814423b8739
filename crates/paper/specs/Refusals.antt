-- 'Refusal numbers': the numbers, and what a call comes to.
use Rattle.std.specs.Prelude.{ℕ, List, []}
use Rattle.paper.specs.Base.{Table, token_of}
use Rattle.paper.specs.RecordsOut.{Record}

-- room under 128 bytes; of a frame under 4,096
abbrev pub little_room : ℕ
little_room = 1

-- stream over 15, or not open
abbrev pub not_open : ℕ
not_open = 2

-- open, and all 16 are open
abbrev pub all_open : ℕ
all_open = 3

-- message with L under 4
abbrev pub no_code : ℕ
no_code = 4

-- L over 96; data over 64
abbrev pub over_long : ℕ
over_long = 5

-- A, D, R or S with no row; W whose number is not open on that stream
abbrev pub unexpected : ℕ
unexpected = 6

-- I whose PPA is unknown, whose called MAC isn't that PPA's, or for whose PPA and SAP nobody listens; a frame on an unknown PPA
abbrev pub nobody_there : ℕ
nobody_there = 7

-- I whose listener is in a state other than 6 or 9, or has its granted count open
abbrev pub busy : ℕ
busy = 8

-- G after any opening, or a ninth PPA, or a number already there
abbrev pub no_new_ppa : ℕ
no_new_ppa = 9

-- no bytes, unknown kind or cut body, or nonzero padding with L at most 96; 0x07 without its M, an M by itself, an address
-- length not 7 or 8, or nonzero padding of a datagram or frame
abbrev pub not_a_record : ℕ
not_a_record = 10

-- a table that isn't sound
abbrev pub not_sound : ℕ
not_sound = 16

-- What a call comes to: the refusal number, 0 where it is served; the token of the stream just opened, 0 where none is;
-- the records written; the table after it.
pub record Outcome : Type 0 where
  pub refusal : ℕ
  pub opened : ℕ
  pub records : List Record
  pub table : Table

-- A refusal writes no record and changes no table.
abbrev pub refused : Table → ℕ → Outcome
refused t n = record { refusal = n; opened = 0; records = []; table = t }

abbrev pub served : Table → List Record → Outcome
served t rs = record { refusal = 0; opened = 0; records = rs; table = t }

abbrev pub served_opening : Table → ℕ → Outcome
served_opening t i = record { refusal = 0; opened = (token_of i).0; records = []; table = t }
