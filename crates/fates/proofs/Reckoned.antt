-- What fates prints from its register is what the history says: the counts are those of `fates` of the history.
use Prim.Native.Nat.{ℕ, zero, suc, ◌+◌, ◌<◌}
use mathlib.Core.Path.{◌≡◌, refl, sym, ap, subst, ◌∙◌}
use mathlib.Core.Bool.{true}
use mathlib.Core.List.{List, [], ◌∷◌, ◌++◌, append_assoc, append-nil}
use lib.ListN.{length, get_or}
use native.Mathlib.Omega.{arith}
use Rattle.ledger.specs.Tally.{has, sum_of, first_of}
use Rattle.fates_book.specs.declared.End.{End}
use Rattle.fates_book.specs.declared.Line.{Line}
use Rattle.fates_book.specs.Book.{Opening, open_of, open_count, left_open, newest, posts, tallies, over_streams}
use Rattle.paper.specs.Base.{stream_total}
use Rattle.fates_register.specs.Register.{end_total, count_total, totals_at, page_of, most_count, blank, place_of, open_on, entered_all}
use Rattle.fates_register.proofs.History.{MayCome}
use Rattle.fates_register.proofs.Kept.{fine_front, kept_openings, kept_counts, kept_open, kept_all_openings, kept_all_counts, found-place, found_number}
use Rattle.fates_register.proofs.Places.{is_marked}
use Rattle.fates_register.proofs.Whole.{over-same}
use Rattle.fates_report.specs.Report.{spaced_number, numbers, word_of, word_call, word_opening, word_total, indication_line, opening_line, open_on_all, total_line}
use Rattle.promises.specs.History.{Answered, lines, fates, indicated, accepted, denied, withdrawn, dropped}
use Rattle.promises.specs.Harness.{Harness, heard_in}
use Rattle.promises.proofs.Harness.{agreed, fair_heard}
use Rattle.fates.specs.Told.{Told}
use Rattle.fates.specs.Shown.{opening_shown, indication_shown, total_of, total_shown}

-- ---- numbers of the register, one behind the other

-- behind p, the cell c holds v, and the others go on from d
next_shown : (p : List ℕ) (k c d v : ℕ) (l : List ℕ) → get_or l c 0 ≡ v → c + 1 ≡ d → p ++ numbers (suc k) c l ≡ p ++ spaced_number v ++ numbers k d l
unfolding numbers
next_shown p k c d v l e f =
    sym (append_assoc p (spaced_number (get_or l c 0)) (numbers k (c + 1) l))
    ∙ ap (λ (n : ℕ). p ++ spaced_number n ++ numbers k (c + 1) l) e
    ∙ ap (λ (d : ℕ). p ++ spaced_number v ++ numbers k d l) f

one_number : (p : List ℕ) (c v : ℕ) (l : List ℕ) → get_or l c 0 ≡ v → p ++ numbers 1 c l ≡ p ++ spaced_number v
unfolding numbers
one_number p c v l e = next_shown p 0 c (c + 1) v l e refl ∙ append-nil (p ++ spaced_number v)

two_numbers : (p : List ℕ) (c v w : ℕ) (l : List ℕ) → get_or l c 0 ≡ v → get_or l (c + 1) 0 ≡ w → p ++ numbers 2 c l ≡ p ++ spaced_number v ++ spaced_number w
two_numbers p c v w l e f = next_shown p 1 c (c + 1) v l e refl ∙ one_number (p ++ spaced_number v) (c + 1) w l f

-- six, as they stand on a page
six-numbers : (p : List ℕ) (c v : ℕ) (f : ℕ → ℕ) (l : List ℕ) → get_or l c 0 ≡ v → ((k : ℕ) → k < 1 + end_total → get_or l (c + 1 + k) 0 ≡ f k)
    → p ++ numbers count_total c l ≡ p ++ spaced_number v ++ spaced_number (f 0) ++ spaced_number (f 1) ++ spaced_number (f 2) ++ spaced_number (f 3) ++ spaced_number (f 4)
six-numbers p c v f l e g =
    next_shown p 5 c (c + 1 + 0) v l e (omega arith)
    ∙ next_shown (p ++ spaced_number v) 4 (c + 1 + 0) (c + 1 + 1) (f 0) l (g 0 (omega arith)) (omega arith)
    ∙ next_shown (p ++ spaced_number v ++ spaced_number (f 0)) 3 (c + 1 + 1) (c + 1 + 2) (f 1) l (g 1 (omega arith)) (omega arith)
    ∙ next_shown (p ++ spaced_number v ++ spaced_number (f 0) ++ spaced_number (f 1)) 2 (c + 1 + 2) (c + 1 + 3) (f 2) l (g 2 (omega arith)) (omega arith)
    ∙ next_shown (p ++ spaced_number v ++ spaced_number (f 0) ++ spaced_number (f 1) ++ spaced_number (f 2)) 1 (c + 1 + 3) (c + 1 + 4) (f 3) l (g 3 (omega arith)) (omega arith)
    ∙ one_number (p ++ spaced_number v ++ spaced_number (f 0) ++ spaced_number (f 1) ++ spaced_number (f 2) ++ spaced_number (f 3)) (c + 1 + 4) (f 4) l (g 4 (omega arith))

-- ---- the lines, of a history of fewer lines than 64 bits count

newest-first : (b : List Opening) → get_or b 0 [] ≡ newest b
newest-first [] = refl
newest-first (o ∷ b) = refl

all_open_lem : (b : List Opening) → left_open b ≡ 0 → sum_of open_count b ≡ open_count (newest b)
all_open_lem [] z = refl
all_open_lem (o ∷ b) z = omega arith

-- the sum as the program takes it, from stream 0 on
over_from : (l : List ℕ) (n k i : ℕ) → i + k ≡ n → over_streams i (λ s. open_on s l) + open_on_all k i l ≡ over_streams n (λ s. open_on s l)
unfolding open_on_all over_streams
over_from l n zero i e = let z : i ≡ n = omega arith in let y : over_streams i (λ s. open_on s l) ≡ over_streams n (λ s. open_on s l) = ap (λ (i : ℕ). over_streams i (λ s. open_on s l)) z in omega arith
over_from l n (suc k) i e =
    let q : i + 1 ≡ suc i = omega arith in
    let z : over_streams (i + 1) (λ s. open_on s l) ≡ over_streams i (λ s. open_on s l) + open_on i l = ap (λ (i : ℕ). over_streams i (λ s. open_on s l)) q in
    omega (arith, over_from l n k (i + 1) (omega arith), z)

over_open : (l : List ℕ) (n : ℕ) → open_on_all n 0 l ≡ over_streams n (λ s. open_on s l)
unfolding over_streams
over_open l n = let z : 0 + open_on_all n 0 l ≡ over_streams n (λ s. open_on s l) = over_from l n n 0 (omega arith) in omega arith

may_come : (x : Harness) (s : ℕ) → MayCome s (lines (heard_in x)) []
may_come x s = let h = fair_heard x s in record { fairly = h.0; rootedly = h.1 }

module _ (img register : List ℕ) (w : Told img register) (short : length (lines (heard_in w.harness)) < most_count) where
  abbrev pub h : List Answered
  h = heard_in w.harness

  fine : (s : ℕ) → s < stream_total → MayCome s (lines (heard_in w.harness)) []
  fine s m = may_come w.harness s

  open_is : (s : ℕ) → s < stream_total → open_on s register ≡ open_count (newest (fates s h))
  open_is s m = ap (open_on s) w.entered ∙ kept_open (lines h) fine short s m

  -- The line of an opening shows the counts of the history.
  pub opening_told : (s : ℕ) → s < stream_total → opening_line s register ≡ opening_shown s h
  unfolding opening_shown
  opening_told s m =
      ap (λ (l : List ℕ). l ++ spaced_number (open_on s register) ++ (10 ∷ []))
      (six-numbers (word_opening ++ spaced_number s) (page_of s) (length (fates s h)) (λ k. get_or (tallies k s (lines h) []) 0 0) register
      (ap (λ (l : List ℕ). get_or l (page_of s) 0) w.entered ∙ kept_openings (lines h) fine short s m)
      (λ k b. ap (λ (l : List ℕ). get_or l (page_of s + 1 + k) 0) w.entered ∙ kept_counts (lines h) fine short s k m b))
      ∙ ap (λ (n : ℕ). word_opening ++ spaced_number s ++ spaced_number (length (fates s h)) ++ spaced_number (indicated s 0 h)
      ++ spaced_number (accepted s 0 h) ++ spaced_number (denied s 0 h) ++ spaced_number (withdrawn s 0 h) ++ spaced_number (dropped s 0 h) ++ spaced_number n ++ (10 ∷ []))
      (open_is s m ∙ ap open_count (sym (newest-first (fates s h))))

  open_all : open_on_all stream_total 0 register ≡ over_streams stream_total (λ s. sum_of open_count (fates s h))
  open_all =
      over_open register stream_total ∙ over-same stream_total (λ s. sum_of open_count (fates s h)) (λ s. open_on s register) (λ s m. open_is s m ∙ sym (all_open_lem (fates s h) (agreed w.harness s).left))

  -- The last line shows the counts over all openings of all streams.
  pub total_told : total_line register ≡ total_shown h
  unfolding total_shown
  total_told =
      ap (λ (l : List ℕ). l ++ spaced_number (open_on_all stream_total 0 register) ++ (10 ∷ []))
      (six-numbers word_total totals_at (over_streams stream_total (λ s. length (fates s h))) (λ k. total_of k h) register
      (ap (λ (l : List ℕ). get_or l totals_at 0) w.entered ∙ kept_all_openings (lines h) fine short)
      (λ k b. ap (λ (l : List ℕ). get_or l (totals_at + 1 + k) 0) w.entered ∙ kept_all_counts (lines h) fine short k b))
      ∙ ap (λ (n : ℕ). word_total ++ spaced_number (over_streams stream_total (λ s. length (fates s h))) ++ spaced_number (total_of 0 h)
      ++ spaced_number (total_of 1 h) ++ spaced_number (total_of 2 h) ++ spaced_number (total_of 3 h) ++ spaced_number (total_of 4 h) ++ spaced_number n ++ (10 ∷ [])) open_all

-- ---- the line of an indication, at any line of a history

-- The line of an indication that ends shows the place and the number of that very one: xs are the lines up to there.
pub indication-told : (x : Harness) (xs ys : List Line) → lines (heard_in x) ≡ xs ++ ys → length xs < most_count
    → (s n : ℕ) (e : End) → s < stream_total → has n (open_of (newest (posts s xs []))) ≡ true
    → indication_line s (place_of s n (entered_all xs blank)) (word_of e) (entered_all xs blank) ≡ indication_shown s n e (posts s xs [])
unfolding indication_shown
indication-told x xs ys q short s n e m f =
    ap (λ (l : List ℕ). l ++ numbers 2 (place_of s n (entered_all xs blank)) (entered_all xs blank) ++ word_of e ++ (10 ∷ []))
    (one_number (word_call ++ spaced_number s) (page_of s) (length (posts s xs [])) (entered_all xs blank) (kept_openings xs fine short s m))
    ∙ ap (λ (l : List ℕ). l ++ word_of e ++ (10 ∷ []))
    (two_numbers (word_call ++ spaced_number s ++ spaced_number (length (posts s xs []))) (place_of s n (entered_all xs blank)) (suc (first_of (is_marked n) (newest (posts s xs [])))) n (entered_all xs blank)
    (found-place xs fine short s n m f) (found_number xs fine short s n m f))
  where
    fine : (s : ℕ) → s < stream_total → MayCome s xs []
    fine = fine_front xs ys (λ s m. subst (λ (zs : List Line). MayCome s zs []) q (may_come x s))
