-- The register of indications: what `fates` keeps of a history while it reads on. A page of 24 numbers for each of the 16 streams:
--   0         how often it was opened
--   1         the indications of its newest opening
--   2 to 5    how many of them were accepted, denied, withdrawn, dropped
--   6 to 21   those still open, the oldest first: of each its place in the opening, 1 for the first, and its number; then zeros
--   22, 23    zeros
-- and behind those, from 384 on, a page for the whole table: 0 to 5 over all openings of all streams.
use Rattle.std.specs.Prelude.{ℕ, Bool, zero, suc, ◌+◌, ◌*◌, ◌-◌, ◌/◌, ◌≤◌, ◌<◌, ◌≡◌, List, [], ◌∷◌, length, get_or, set, replicate, eqb, ltb}
use Rattle.ledger.specs.Choice.{both, ◌⇒◌∣◌}
use Rattle.paper.specs.Base.{stream_total}
use Rattle.paper.specs.Saps.{most_open}
use Rattle.fates_book.specs.Book.{count_of}
use Rattle.fates_book.specs.declared.End.{End}
use Rattle.fates_book.specs.declared.Line.{Line}
use Rattle.fates_book.specs.declared.Line.TheVariants.{Began, Came, Went, Given, Nothing}

-- ---- sizes, and where things stand

abbrev pub end_total : ℕ
end_total = 4

abbrev pub count_total : ℕ
count_total = 1 + 1 + end_total

-- the row of those still open: two numbers for each
abbrev pub open_size : ℕ
open_size = 2 * most_open

-- two zeros behind them, so that a full row can close up as any other
abbrev pub row_size : ℕ
row_size = open_size + 2

abbrev pub page_size : ℕ
page_size = count_total + row_size

-- all that a page tells of the newest opening, behind how often there was one
abbrev pub newest_size : ℕ
newest_size = count_total - 1 + open_size

abbrev pub totals_at : ℕ
totals_at = stream_total * page_size

abbrev pub register_size : ℕ
register_size = totals_at + page_size

-- of stream i
abbrev pub page_of : ℕ → ℕ
page_of i = i * page_size

abbrev pub places_of : ℕ → ℕ
places_of i = page_of i + count_total

abbrev pub places_end : ℕ → ℕ
places_end i = page_of i + (count_total + open_size)

abbrev pub blank : List ℕ
blank = replicate register_size 0

-- ---- counts

-- the largest number of 64 bits
abbrev pub most_count : ℕ
most_count = 18446744073709551615

-- one more, up to that
unfoldable pub one_more : ℕ → ℕ
one_more n = eqb n most_count ⇒ n ∣ n + 1

unfoldable pub raised : ℕ → List ℕ → List ℕ
raised c l = set l c (one_more (get_or l c 0))

-- count k of stream i, and of the whole table
abbrev pub counting : ℕ → ℕ → List ℕ → List ℕ
counting i k l = raised (totals_at + k) (raised (page_of i + k) l)

-- ---- the open ones of a page, from cell c on

-- the cell of the first free place of k, or the cell behind them
unfoldable pub free_from : ℕ → ℕ → List ℕ → ℕ
free_from zero c l = c
free_from (suc k) c l = eqb (get_or l c 0) 0 ⇒ c ∣ free_from k (c + 2) l

-- the cell of the first of k places that holds number n, or the cell behind them
unfoldable pub find_from : ℕ → ℕ → ℕ → List ℕ → ℕ
find_from zero c n l = c
find_from (suc k) c n l = both (ltb 0 (get_or l c 0)) (eqb (get_or l (c + 1) 0) n) ⇒ c ∣ find_from k (c + 2) n l

-- k cells take what stands two cells further on
unfoldable pub close_up : ℕ → ℕ → List ℕ → List ℕ
close_up zero c l = l
close_up (suc k) c l = close_up k (c + 1) (set l c (get_or l (c + 2) 0))

-- k cells become zero
unfoldable pub cleared : ℕ → ℕ → List ℕ → List ℕ
cleared zero c l = l
cleared (suc k) c l = cleared k (c + 1) (set l c 0)

-- the cell of the first of k places whose two cells pass the test, or the cell behind them
unfoldable pub first_from : (ℕ → ℕ → Bool) → ℕ → ℕ → List ℕ → ℕ
first_from test zero c l = c
first_from test (suc k) c l = test (get_or l c 0) (get_or l (c + 1) 0) ⇒ c ∣ first_from test k (c + 2) l

-- what answers of two cells answers as the test
abbrev pub Tells : (ℕ → ℕ → Bool → Type 0) → (ℕ → ℕ → Bool) → Type 0
Tells answers test = (x y : ℕ) (b : Bool) → answers x y b → b ≡ test x y

abbrev pub first_place : (ℕ → ℕ → Bool) → ℕ → List ℕ → ℕ
first_place test i l = first_from test most_open (places_of i) l

abbrev pub first_free : ℕ → List ℕ → ℕ
first_free i l = free_from most_open (places_of i) l

abbrev pub place_of : ℕ → ℕ → List ℕ → ℕ
place_of i n l = find_from most_open (places_of i) n l

-- how many are open
abbrev pub open_on : ℕ → List ℕ → ℕ
open_on i l = (first_free i l - (places_of i)) / 2

-- ---- what a line changes

-- an opening begins: its page starts anew
abbrev pub begun : ℕ → List ℕ → List ℕ
begun i l = counting i 0 (cleared newest_size (page_of i + 1) l)

-- an indication that came stands in cell c, by its place in the opening
abbrev pub standing_at : ℕ → ℕ → ℕ → List ℕ → List ℕ
standing_at i n c l = set (set l c (get_or l (page_of i + 1) 0)) (c + 1) n

unfoldable pub placed : ℕ → ℕ → List ℕ → List ℕ
placed i n l = ltb (first_free i l) (places_end i) ⇒ standing_at i n (first_free i l) l ∣ l

abbrev pub rung : ℕ → ℕ → List ℕ → List ℕ
rung i n l = placed i n (counting i 1 l)

-- one that ended gives up its place
unfoldable pub removed : ℕ → ℕ → List ℕ → List ℕ
removed i n l = ltb (place_of i n l) (places_end i) ⇒ close_up (places_end i - place_of i n l) (place_of i n l) l ∣ l

abbrev pub gone : ℕ → ℕ → End → List ℕ → List ℕ
gone i n e l = removed i n (counting i (count_of e + 1) l)

unfoldable pub entered : Line → List ℕ → List ℕ
entered (Began i) l = ltb i stream_total ⇒ begun i l ∣ l
entered (Came i n) l = ltb i stream_total ⇒ rung i n l ∣ l
entered (Went i n e) l = ltb i stream_total ⇒ gone i n e l ∣ l
entered (Given i g) l = l
entered Nothing l = l

unfoldable pub entered_all : List Line → List ℕ → List ℕ
entered_all [] l = l
entered_all (y ∷ ys) l = entered_all ys (entered y l)

-- ---- what is lent and answered

-- a register, and a stream that has a page
pub record OfStream (i : ℕ) (register : List ℕ) : Type 0 where
  pub long : length register ≡ register_size
  pub within : i < stream_total

-- and a count
pub record CountOf (i k : ℕ) (register : List ℕ) : Type 0 where
  pub long : length register ≡ register_size
  pub within : i < stream_total
  pub counted : k < count_total

-- a register, and k of its cells
pub record CellsOf (at k : ℕ) (register : List ℕ) : Type 0 where
  pub long : length register ≡ register_size
  pub room : at + k ≤ register_size

-- a place of stream i, or the cell behind its places
pub record PlaceIn (i place r : ℕ) : Type 0 where
  pub is : r ≡ place
  pub first : places_of i ≤ r
  pub last : r ≤ places_end i
