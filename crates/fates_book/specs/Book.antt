-- The fates: of each opening of a stream its connection indications, each with exactly one fate, as the lines of a history
-- tell them; and the counts that the lines give by themselves.
use Rattle.std.specs.Prelude.{ℕ, zero, suc, ◌+◌, Bool, true, false, List, [], ◌∷◌, ◌++◌, length, eqb}
use Rattle.ledger.specs.Choice.{pick, both}
use Rattle.ledger.specs.Tally.{one_if, sum_of}
use Rattle.fates_book.specs.declared.End.{End}
use Rattle.fates_book.specs.declared.End.TheVariants.{Accepted, Denied, Withdrawn, Dropped}
use Rattle.fates_book.specs.declared.Line.{Line}
use Rattle.fates_book.specs.declared.Line.TheVariants.{Began, Came, Went, Given, Nothing}

-- ---- an opening: its indications, the oldest first

pub data Fate : Type 0 where
  still_open : Fate
  met : End → Fate

pub record Indication : Type 0 where
  pub number : ℕ
  pub fate : Fate

abbrev pub Opening : Type 0
Opening = List Indication

-- past the end of an opening
abbrev pub no_indication : Indication
no_indication = record { number = 0; fate = still_open }

abbrev pub is_still_open : Fate → Bool
is_still_open still_open = true
is_still_open (met e) = false

-- the numbers of those that are still open
abbrev pub open_of : Opening → List ℕ
open_of [] = []
open_of (x ∷ o) = pick (is_still_open x.fate) (x.number ∷ open_of o) (open_of o)

-- one more rings in
abbrev pub noted : ℕ → Opening → Opening
noted n o = o ++ (record { number = n; fate = still_open } ∷ [])

-- the oldest open one with this number meets its end
abbrev pub mark : ℕ → End → Opening → Opening
mark n e [] = []
mark n e (x ∷ o) = pick (both (is_still_open x.fate) (eqb n x.number)) (record { number = x.number; fate = met e } ∷ o) (x ∷ mark n e o)

-- ---- a stream: its openings, the newest first

abbrev pub newest : List Opening → Opening
newest [] = []
newest (o ∷ b) = o

abbrev pub earlier : List Opening → List Opening
earlier [] = []
earlier (o ∷ b) = b

abbrev pub on_newest : (Opening → Opening) → List Opening → List Opening
on_newest g [] = g [] ∷ []
on_newest g (o ∷ b) = g o ∷ b

-- what a line says of stream s
abbrev pub post : ℕ → Line → List Opening → List Opening
post s (Began i) b = pick (eqb s i) ([] ∷ b) b
post s (Came i n) b = pick (eqb s i) (on_newest (noted n) b) b
post s (Went i n e) b = pick (eqb s i) (on_newest (mark n e) b) b
post s (Given i g) b = b
post s Nothing b = b

unfoldable pub posts : ℕ → List Line → List Opening → List Opening
posts s [] b = b
posts s (y ∷ ys) b = posts s ys (post s y b)

-- how many are still open in an opening, and in those that have ended
abbrev pub open_count : Opening → ℕ
open_count o = length (open_of o)

abbrev pub left_open : List Opening → ℕ
left_open b = sum_of open_count (earlier b)

-- ---- counts, each by its own rule from the lines: of each opening, the newest first

-- what is counted: 0 indications, 1 to 4 the ends
abbrev pub count_of : End → ℕ
count_of Accepted = 1
count_of Denied = 2
count_of Withdrawn = 3
count_of Dropped = 4

abbrev pub bump : ℕ → List ℕ → List ℕ
bump n [] = n ∷ []
bump n (k ∷ ks) = (k + n) ∷ ks

abbrev pub tally_line : ℕ → ℕ → Line → List ℕ → List ℕ
tally_line k s (Began i) ts = pick (eqb s i) (0 ∷ ts) ts
tally_line k s (Came i n) ts = pick (eqb s i) (bump (one_if (eqb k 0)) ts) ts
tally_line k s (Went i n e) ts = pick (eqb s i) (bump (one_if (eqb k (count_of e))) ts) ts
tally_line k s (Given i g) ts = ts
tally_line k s Nothing ts = ts

unfoldable pub tallies : ℕ → ℕ → List Line → List ℕ → List ℕ
tallies k s [] ts = ts
tallies k s (y ∷ ys) ts = tallies k s ys (tally_line k s y ts)

-- the same counts, of the fates of an opening
abbrev pub counts_as : ℕ → Fate → ℕ
counts_as k still_open = one_if (eqb k 0)
counts_as k (met e) = one_if (eqb k 0) + one_if (eqb k (count_of e))

abbrev pub count_in : ℕ → Opening → ℕ
count_in k o = sum_of (λ (x : Indication). counts_as k x.fate) o

-- how many indications of an opening have met an end
abbrev pub has_met : End → Fate → Bool
has_met e still_open = false
has_met e (met f) = eqb (count_of e) (count_of f)

abbrev pub how_many : End → Opening → ℕ
how_many e o = sum_of (λ (x : Indication). one_if (has_met e x.fate)) o

-- ---- the count granted at the bind of a stream's newest opening, 0 where there was none

abbrev pub grant_line : ℕ → Line → ℕ → ℕ
grant_line s (Began i) g = pick (eqb s i) 0 g
grant_line s (Came i n) g = g
grant_line s (Went i n e) g = g
grant_line s (Given i n) g = pick (eqb s i) n g
grant_line s Nothing g = g

abbrev pub grant_by : ℕ → List Line → ℕ → ℕ
grant_by s [] g = g
grant_by s (y ∷ ys) g = grant_by s ys (grant_line s y g)

-- ---- over the streams 0 to n - 1

unfoldable pub over_streams : ℕ → (ℕ → ℕ) → ℕ
over_streams zero f = 0
over_streams (suc n) f = over_streams n f + f n
