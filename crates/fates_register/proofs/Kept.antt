-- The register that is kept while a history is read holds exactly what the book says: it did when it was blank, and each line keeps
-- it so.
use Prim.Native.Nat.{ℕ, suc, ◌+◌, ◌≤◌, ◌<◌}
use mathlib.Core.Path.{◌≡◌, refl, subst, ◌∙◌}
use mathlib.Core.Bool.{true}
use mathlib.Core.List.{List, [], ◌∷◌, ◌++◌}
use lib.ListN.{length, get_or, set}
use native.Mathlib.Omega.{arith}
use borrow.Author.Tests.{ltb-true}
use Rattle.ledger.specs.Tally.{occ, has, sum_of, first_of}
use Rattle.ledger.proofs.Tallies.{both_of, to_both}
use Rattle.fates_book.specs.declared.End.{End}
use Rattle.fates_book.specs.declared.End.TheVariants.{Accepted}
use Rattle.fates_book.specs.declared.Line.{Line}
use Rattle.fates_book.specs.Book.{met, open_of, open_count, mark, newest, posts, tallies, over_streams}
use Rattle.fates_book.proofs.Shades.{shade, fair, fairs, openings, rooted, rooteds}
use Rattle.paper.specs.Base.{stream_total}
use Rattle.paper.specs.Saps.{most_open}
use Rattle.fates_register.specs.Register.{blank, place_of, open_on, first_free, entered_all}
use Rattle.fates_register.specs.Register.{end_total, row_size, totals_at, page_of, places_of, places_end, most_count}
use Rattle.fates_register.proofs.Cells.{cell}
use Rattle.fates_register.proofs.Places.{places_from, is_marked, spot, Ended, ended}
use Rattle.fates_register.proofs.Row.{narrower, free-at}
use Rattle.fates_register.proofs.Pages.{place_at}
use Rattle.fates_register.proofs.History.{MayCome, Kept, kept-blank, kept-lines}

-- ---- the register of a history whose lines a provider may write, of fewer lines than 64 bits count

module _ (ys : List Line) (fine : (s : ℕ) → s < stream_total → MayCome s ys []) (short : length ys < most_count) where
  -- All at once, as the laws below take it apart.
  pub kept : Kept (entered_all ys blank) (λ s. posts s ys []) (λ k s. tallies k s ys []) (length ys)
  kept = subst (λ (m : ℕ). Kept (entered_all ys blank) (λ s. posts s ys []) (λ k s. tallies k s ys []) m) (omega arith) (kept-lines ys blank (λ s. []) (λ k s. []) 0 (omega arith) fine kept-blank)

  -- The first cell of a stream's page is the number of its openings.
  pub kept_openings : (s : ℕ) → s < stream_total → get_or (entered_all ys blank) (page_of s) 0 ≡ length (posts s ys [])
  kept_openings s h = cell (entered_all ys blank) (page_of s) (page_of s + 0) (omega arith) ∙ (kept.pages s h).counts 0 (omega arith)

  -- The next five are the counts of its newest opening: indications, accepted, denied, withdrawn, dropped.
  pub kept_counts : (s k : ℕ) → s < stream_total → k < 1 + end_total → get_or (entered_all ys blank) (page_of s + 1 + k) 0 ≡ get_or (tallies k s ys []) 0 0
  kept_counts s k h d = cell (entered_all ys blank) (page_of s + 1 + k) (page_of s + suc k) (omega arith) ∙ (kept.pages s h).counts (suc k) (omega arith)

  -- The next are the places and the numbers of its still open indications, the oldest first, and then zeros.
  pub kept_places : (s j : ℕ) → s < stream_total → j < row_size → get_or (entered_all ys blank) (places_of s + j) 0 ≡ get_or (places_from 1 (newest (posts s ys []))) j 0
  kept_places s j h d = (kept.pages s h).places.cells j d

  -- The still open ones are no more than a stream may have.
  pub kept-few : (s : ℕ) → s < stream_total → open_count (newest (posts s ys [])) ≤ most_open
  kept-few s h = (kept.pages s h).few

  -- The number of open ones that is read from the page is the number of the still open indications of the newest opening.
  pub kept_open : (s : ℕ) → s < stream_total → open_on s (entered_all ys blank) ≡ open_count (newest (posts s ys []))
  kept_open s h =
      let o = newest (posts s ys []) in
      let row = narrower (entered_all ys blank) (places_of s) (places_from 1 o) (kept.pages s h).places in
      let e : first_free s (entered_all ys blank) ≡ places_of s + (open_count o + open_count o) =
      free-at (entered_all ys blank) o most_open (places_of s) 1 (omega arith) (kept-few s h) row in
      omega arith

  -- The first cell of the page of the whole table is the number of the openings of all streams.
  pub kept_all_openings : get_or (entered_all ys blank) totals_at 0 ≡ over_streams stream_total (λ s. length (posts s ys []))
  kept_all_openings = kept.table 0 (omega arith)

  -- The next five are the counts of all openings of all streams.
  pub kept_all_counts : (k : ℕ) → k < 1 + end_total → get_or (entered_all ys blank) (totals_at + 1 + k) 0 ≡ over_streams stream_total (λ s. sum_of (λ (n : ℕ). n) (tallies k s ys []))
  kept_all_counts k h = cell (entered_all ys blank) (totals_at + 1 + k) (totals_at + suc k) (omega arith) ∙ kept.table (suc k) (omega arith)

  -- A number n that is open on stream i:
  module _ (i n : ℕ) (h : i < stream_total) (f : has n (open_of (newest (posts i ys []))) ≡ true) where
    found : Ended n Accepted (newest (posts i ys [])) (mark n Accepted (newest (posts i ys []))) (spot n (newest (posts i ys []))) (first_of (is_marked n) (newest (posts i ys [])))
    found = ended n Accepted (newest (posts i ys [])) (ltb-true 0 (occ n (open_of (newest (posts i ys [])))) f)

    found_at : place_of i n (entered_all ys blank) ≡ places_of i + spot n (newest (posts i ys []))
    found_at = place_at (entered_all ys blank) i n (newest (posts i ys [])) (kept.pages i h).places (kept-few i h) (ltb-true 0 (occ n (open_of (newest (posts i ys [])))) f)

    -- The register finds it in a cell of the page.
    pub found_within : place_of i n (entered_all ys blank) < places_end i
    found_within = omega (arith, found_at, found.less, kept-few i h)

    -- There stands the place, counted from 1, of the oldest indication of the newest opening that is still open with this number.
    pub found-place : get_or (entered_all ys blank) (place_of i n (entered_all ys blank)) 0 ≡ suc (first_of (is_marked n) (newest (posts i ys [])))
    found-place =
        cell (entered_all ys blank) (place_of i n (entered_all ys blank)) (places_of i + spot n (newest (posts i ys []))) found_at
        ∙ kept_places i (spot n (newest (posts i ys []))) h (omega (arith, found.less, kept-few i h))
        ∙ found.place 1
        ∙ omega arith

    -- In the next cell stands the number.
    pub found_number : get_or (entered_all ys blank) (place_of i n (entered_all ys blank) + 1) 0 ≡ n
    found_number =
        cell (entered_all ys blank) (place_of i n (entered_all ys blank) + 1) (places_of i + suc (spot n (newest (posts i ys [])))) (omega (arith, found_at))
        ∙ kept_places i (suc (spot n (newest (posts i ys [])))) h (omega (arith, found.less, kept-few i h))
        ∙ found.number 1

    -- That place is one of the opening.
    pub found_inside : first_of (is_marked n) (newest (posts i ys [])) < length (newest (posts i ys []))
    found_inside = found.inside

    -- And the indication there is the one that ends as the number meets an end: its fate changes, and nothing else does.
    pub found-ends : (e : End) → mark n e (newest (posts i ys [])) ≡ set (newest (posts i ys [])) (first_of (is_marked n) (newest (posts i ys []))) (record { number = n; fate = met e })
    found-ends e = (ended n e (newest (posts i ys [])) (ltb-true 0 (occ n (open_of (newest (posts i ys [])))) f)).only

-- ---- the beginning of a history

fairs_front : (s : ℕ) (xs ys : List Line) (w : List ℕ) → fairs s (xs ++ ys) w ≡ true → fairs s xs w ≡ true
fairs_front s [] ys w h = refl
fairs_front s (x ∷ xs) ys w h =
    let h' : (fair s x w ≡ true) × (fairs s (xs ++ ys) (shade s x w) ≡ true) = both_of (fair s x w) (fairs s (xs ++ ys) (shade s x w)) h in
    to_both (fair s x w) (fairs s xs (shade s x w)) h'.0 (fairs_front s xs ys (shade s x w) h'.1)

rooteds_front : (s : ℕ) (xs ys : List Line) (k : ℕ) → rooteds s (xs ++ ys) k ≡ true → rooteds s xs k ≡ true
rooteds_front s [] ys k h = refl
rooteds_front s (x ∷ xs) ys k h =
    let h' : (rooted s x k ≡ true) × (rooteds s (xs ++ ys) (openings s x k) ≡ true) = both_of (rooted s x k) (rooteds s (xs ++ ys) (openings s x k)) h in
    to_both (rooted s x k) (rooteds s xs (openings s x k)) h'.0 (rooteds_front s xs ys (openings s x k) h'.1)

-- The lines up to any place of such a history are such a history, so that all this holds at every line of it.
pub fine_front : (xs ys : List Line) → ((s : ℕ) → s < stream_total → MayCome s (xs ++ ys) []) → (s : ℕ) → s < stream_total → MayCome s xs []
fine_front xs ys f s h = record { fairly = fairs_front s xs ys [] (f s h).fairly; rootedly = rooteds_front s xs ys 0 (f s h).rootedly }
