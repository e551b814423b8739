-- Document 02, the SAP test: each exclusion beside the manual's place that makes it. What document 01 says of the same numbers is
-- `is_sap` and `is_type` (Saps); that the two agree on every number is `tied` (proofs/Exclusions).
use Rattle.std.specs.Prelude.{ℕ, ◌+◌, ◌*◌, ◌%◌, Bool, true, false, List, [], ◌∷◌, eqb, leb, None, Option, Some}
use Rattle.ledger.specs.Choice.{both, ◌⇒◌∣◌}
use Rattle.paper.specs.Replies.{sap_length}
use Rattle.paper.specs.declared.Exclusion.{Exclusion}
use Rattle.paper.specs.declared.Ground.{Ground}
use Rattle.paper.specs.declared.Ground.TheVariants.{OddSap, ReservedSap, BetweenSapsAndTypes, AboveTypes}
use Rattle.paper.specs.declared.Which.{Which}
use Rattle.paper.specs.declared.Which.TheVariants.{Odd, All}
use Rattle.paper.specs.declared.Place.{Place}
use Rattle.paper.specs.declared.Place.TheVariants.{Binding, ReservedSapsAndTypes}

-- the greatest number that a SAP field holds
abbrev pub most_number : ℕ
most_number = 0xffffffff

-- The exclusions, in the order of the manual's sentences.
abbrev pub exclusions : List Exclusion
exclusions =
    -- 'Binding': SAPs are even numbers from 0 to 255;
    record { grounds = OddSap; which = Odd; first = 0; last = 0xff; place = Binding }
    -- reserved ones are not, and 'Reserved IEEESAPS/Ethertypes' leaves them to RFC 1010, which has one, 'Reserved (DOD IP)'.
    ∷ record { grounds = ReservedSap; which = All; first = 0x06; last = 0x06; place = ReservedSapsAndTypes }
    -- 'Binding': types are numbers from 0x600
    ∷ record { grounds = BetweenSapsAndTypes; which = All; first = 0x100; last = 0x5ff; place = Binding }
    -- to 0xffff; reserved ones are not, and RFC 1010 has none.
    ∷ record { grounds = AboveTypes; which = All; first = 0x10000; last = most_number; place = Binding }
    ∷ []

abbrev pub exclusion_total : ℕ
exclusion_total = 4

-- Of the numbers from the first to the last, the odd ones or all.
abbrev pub is_of : Which → ℕ → Bool
is_of Odd n = eqb (n % 2) 1
is_of All n = true

unfoldable pub excludes : Exclusion → ℕ → Bool
excludes x n = both (leb x.first n) (both (leb n x.last) (is_of x.which n))

-- which exclusion holds: the first that does
abbrev pub excluded_in : List Exclusion → ℕ → Option Exclusion
excluded_in [] n = None
excluded_in (x ∷ l) n = excludes x n ⇒ Some x ∣ excluded_in l n

unfoldable pub excluded_by : ℕ → Option Exclusion
excluded_by n = excluded_in exclusions n

-- the test of a bind is that none does
abbrev pub is_none : Option Exclusion → Bool
is_none None = true
is_none (Some x) = false

-- ---- what C is told of a number (docs/DECISIONS.md, 92)

abbrev pub ground_number : Ground → ℕ
ground_number OddSap = 1
ground_number ReservedSap = 2
ground_number BetweenSapsAndTypes = 3
ground_number AboveTypes = 4

abbrev pub place_number : Place → ℕ
place_number Binding = 1
place_number ReservedSapsAndTypes = 2

-- In bits 0 to 7 how many bytes it takes in an address, 0 if it is excluded; in 8 to 15 the exclusion, in 16 to 23 the manual's
-- place.
unfoldable pub telling_of : ℕ → Option Exclusion → ℕ
telling_of n None = sap_length n
telling_of n (Some x) = ground_number x.grounds * 256 + place_number x.place * 65536

unfoldable pub sap_telling : ℕ → ℕ
sap_telling n = telling_of n (excluded_by n)
