-- A page of the register holds what the book says of its stream, and each line of a history keeps it so.
use Prim.Native.Nat.{ℕ, zero, suc, ◌+◌, ◌-◌, ◌≤◌, ◌<◌}
use mathlib.Core.Path.{◌≡◌, refl, sym, ap, ◌∙◌, subst}
use mathlib.Core.Bool.{Bool}
use mathlib.Core.List.{List, [], ◌∷◌, ◌++◌}
use lib.ListN.{length, get_or, set, length-set, length-append, get_or-eq_default}
use lib.Dec.{eqb, eqb-suc-suc}
use lib.Seq.{get_or-set_other}
use native.Mathlib.Omega.{arith}
use borrow.Author.Tests.{lt-ltb}
use Rattle.ledger.specs.Tally.{one_if, occ, sum_of, first_of}
use Rattle.ledger.proofs.Tallies.{one_most, length-without_le, hold, one_other, by_order}
use Rattle.fates_book.specs.declared.End.{End}
use Rattle.fates_book.specs.declared.End.TheVariants.{Accepted, Denied, Withdrawn, Dropped}
use Rattle.fates_book.specs.Book.{Opening, open_of, open_count, mark, noted, newest, on_newest, count_of, bump}
use Rattle.fates_book.proofs.Shades.{open_noted, open_mark, opening_there}
use Rattle.fates_book.proofs.Counts.{bump-first}
use Rattle.paper.specs.Base.{stream_total}
use Rattle.paper.specs.Saps.{most_open}
use Rattle.fates_register.specs.Register.{counting, cleared, close_up, first_free, place_of, begun, standing_at, placed, rung, removed, gone}
use Rattle.fates_register.specs.Register.{end_total, count_total, open_size, row_size, page_size, newest_size, register_size, page_of, places_of, places_end, most_count}
use Rattle.fates_register.proofs.Cells.{cell, cleared-length, cleared-before, cleared-behind, cleared_in, closed-length, closed-before, closed-behind}
use Rattle.fates_register.proofs.Cells.{counting-length, counting_other, counting-stream}
use Rattle.fates_register.proofs.Places.{places_from, is_marked, spot, places_length, places_noted, length-noted, length-mark, Ended, ended}
use Rattle.fates_register.proofs.Row.{Reads, narrower, free-at, find_at, still_reads, reads_more, reads-less}

-- ---- what a page holds

-- cell a of a stream's page: its openings, and the counts of the newest
abbrev pub on_page : ℕ → List Opening → (ℕ → List ℕ) → ℕ
on_page zero b t = length b
on_page (suc k) b t = get_or (t k) 0 0

-- what the stream brings to cell a of the page of the whole table: its openings, and the counts of all of them
abbrev pub in_all : ℕ → List Opening → (ℕ → List ℕ) → ℕ
in_all zero b t = length b
in_all (suc k) b t = sum_of (λ (n : ℕ). n) (t k)

-- the page of stream s, of whose openings b tells and whose counts are t; no count is more than m
pub record Page (l : List ℕ) (s : ℕ) (b : List Opening) (t : ℕ → List ℕ) (m : ℕ) : Type 0 where
  pub counts : (a : ℕ) → a < count_total → get_or l (page_of s + a) 0 ≡ on_page a b t
  pub places : Reads l (places_of s) row_size (places_from 1 (newest b))
  pub few : open_count (newest b) ≤ most_open
  pub whole : length (newest b) ≡ get_or (t 0) 0 0
  pub most : (a : ℕ) → a < count_total → get_or l (page_of s + a) 0 ≤ m

-- cells that stay keep the page
pub page_aside : (l l' : List ℕ) (s : ℕ) (b : List Opening) (t : ℕ → List ℕ) (m : ℕ)
    → ((a : ℕ) → a < page_size → get_or l' (page_of s + a) 0 ≡ get_or l (page_of s + a) 0) → Page l s b t m → Page l' s b t (suc m)
page_aside l l' s b t m e r = record {
  counts = λ a h. e a (omega arith) ∙ r.counts a h;
  places = still_reads l l' (places_of s) row_size (places_from 1 (newest b)) r.places
      (λ j h. cell l' (places_of s + j) (page_of s + (count_total + j)) (omega arith) ∙ e (count_total + j) (omega arith)
      ∙ cell l (page_of s + (count_total + j)) (places_of s + j) (omega arith));
  few = r.few;
  whole = r.whole;
  most = λ a h. omega (arith, e a (omega arith), r.most a h);
}

-- ---- counts

bump_all : (d : ℕ) (ks : List ℕ) → sum_of (λ (n : ℕ). n) (bump d ks) ≡ sum_of (λ (n : ℕ). n) ks + d
bump_all d [] = omega arith
bump_all d (k ∷ ks) = omega arith

-- one more of kind j in the newest opening
more_page : (a j : ℕ) (g : Opening → Opening) (b : List Opening) (t : ℕ → List ℕ) → 0 < length b → on_page a (on_newest g b) (λ k. bump (one_if (eqb k j)) (t k)) ≡ on_page a b t + one_if (eqb a (suc j))
more_page zero j g [] t h = absurd (omega arith)
more_page zero j g (o ∷ b) t h = omega (arith, one_other 0 (suc j) (omega arith))
more_page (suc k) j g b t h = bump-first (one_if (eqb k j)) (t k) ∙ ap (λ (q : Bool). get_or (t k) 0 0 + one_if q) (sym (eqb-suc-suc k j))

pub more_all : (a j : ℕ) (g : Opening → Opening) (b : List Opening) (t : ℕ → List ℕ) → 0 < length b → in_all a (on_newest g b) (λ k. bump (one_if (eqb k j)) (t k)) ≡ in_all a b t + one_if (eqb a (suc j))
more_all zero j g [] t h = absurd (omega arith)
more_all zero j g (o ∷ b) t h = omega (arith, one_other 0 (suc j) (omega arith))
more_all (suc k) j g b t h = bump_all (one_if (eqb k j)) (t k) ∙ ap (λ (q : Bool). sum_of (λ (n : ℕ). n) (t k) + one_if q) (sym (eqb-suc-suc k j))

-- a new opening
pub begun_all : (a : ℕ) (b : List Opening) (t : ℕ → List ℕ) → in_all a ([] ∷ b) (λ k. 0 ∷ t k) ≡ in_all a b t + one_if (eqb a 0)
begun_all zero b t = omega arith
begun_all (suc k) b t = omega (arith, one_other (suc k) 0 (omega arith))

-- an end has one of the counts behind that of the indications
pub end_count : (e : End) → (0 < count_of e) × (count_of e ≤ end_total)
end_count Accepted = (omega arith, omega arith)
end_count Denied = (omega arith, omega arith)
end_count Withdrawn = (omega arith, omega arith)
end_count Dropped = (omega arith, omega arith)

-- ---- changes between two cells

-- outside of the cells from x up to y nothing changes
pub record Outside (l l' : List ℕ) (x y : ℕ) : Type 0 where
  pub size : length l' ≡ length l
  pub below : (j : ℕ) → j < x → get_or l' j 0 ≡ get_or l j 0
  pub behind : (j : ℕ) → y ≤ j → get_or l' j 0 ≡ get_or l j 0

outside_set : (l : List ℕ) (c v w x y : ℕ) → x ≤ c → c + 2 ≤ y → Outside l (set (set l c v) (c + 1) w) x y
outside_set l c v w x y h d = record {
  size = length-set (set l c v) (c + 1) w ∙ length-set l c v;
  below = λ j n. get_or-set_other (set l c v) (c + 1) j w 0 (omega arith) ∙ get_or-set_other l c j v 0 (omega arith);
  behind = λ j n. get_or-set_other (set l c v) (c + 1) j w 0 (omega arith) ∙ get_or-set_other l c j v 0 (omega arith);
}

outside_closed : (l : List ℕ) (k c x y : ℕ) → x ≤ c → c + k ≤ y → Outside l (close_up k c l) x y
outside_closed l k c x y h d = record {
  size = closed-length k c l;
  below = λ j n. closed-before k c l j (omega arith);
  behind = λ j n. closed-behind k c l j (omega arith);
}

pub outside_cleared : (l : List ℕ) (k c x y : ℕ) → x ≤ c → c + k ≤ y → Outside l (cleared k c l) x y
outside_cleared l k c x y h d = record {
  size = cleared-length k c l;
  below = λ j n. cleared-before k c l j (omega arith);
  behind = λ j n. cleared-behind k c l j (omega arith);
}

-- ---- an opening begins

module _ (l : List ℕ) (i : ℕ) (b : List Opening) (t : ℕ → List ℕ) (m : ℕ) (h : i < stream_total) (z : length l ≡ register_size) (u : m < most_count) (r : Page l i b t m) where
  begun_count : (a : ℕ) → a < count_total → get_or (cleared newest_size (page_of i + 1) l) (page_of i + a) 0 + one_if (eqb a 0) ≡ on_page a ([] ∷ b) (λ k. 0 ∷ t k)
  begun_count zero d = omega (arith, cleared-before newest_size (page_of i + 1) l (page_of i + 0) (omega arith), r.counts 0 (omega arith))
  begun_count (suc a) d = omega (arith, cleared_in newest_size (page_of i + 1) l (page_of i + suc a) (omega arith) (omega arith) (omega arith), one_other (suc a) 0 (omega arith))

  begun-most : (a : ℕ) → a < count_total → get_or (cleared newest_size (page_of i + 1) l) (page_of i + a) 0 ≤ m
  begun-most zero d = omega (arith, cleared-before newest_size (page_of i + 1) l (page_of i + 0) (omega arith), r.most 0 (omega arith))
  begun-most (suc a) d = omega (arith, cleared_in newest_size (page_of i + 1) l (page_of i + suc a) (omega arith) (omega arith) (omega arith))

  begun_counts : (a : ℕ) → a < count_total → get_or (begun i l) (page_of i + a) 0 ≡ get_or (cleared newest_size (page_of i + 1) l) (page_of i + a) 0 + one_if (eqb a 0)
  begun_counts a d = counting-stream (cleared newest_size (page_of i + 1) l) i 0 h (omega arith) (cleared-length newest_size (page_of i + 1) l ∙ z) a d (omega (arith, begun-most a d))

  begun_places : (j : ℕ) → j < row_size → get_or (begun i l) (places_of i + j) 0 ≡ 0
  begun_places j d =
      counting_other (cleared newest_size (page_of i + 1) l) i 0 (places_of i + j) (omega arith) (omega arith)
      ∙ by_order j open_size
      (λ q. cleared_in newest_size (page_of i + 1) l (places_of i + j) (omega arith) (omega arith) (omega arith))
      (λ q. cleared-behind newest_size (page_of i + 1) l (places_of i + j) (omega arith) ∙ r.places.cells j d
      ∙ get_or-eq_default (places_from 1 (newest b)) 0 (omega (arith, places_length 1 (newest b), r.few)))

  pub begun_page : Page (begun i l) i ([] ∷ b) (λ k. 0 ∷ t k) (suc m)
  begun_page = record {
    counts = λ a d. begun_counts a d ∙ begun_count a d;
    places = record { cells = begun_places };
    few = omega arith;
    whole = refl;
    most = λ a d. omega (arith, begun_counts a d, begun-most a d, one_most (eqb a 0));
  }

-- ---- one comes or ends: a count of the newest opening goes up, and the row of those still open changes

module _ (l : List ℕ) (i : ℕ) (t : ℕ → List ℕ) (m : ℕ) (h : i < stream_total) (z : length l ≡ register_size) (u : m < most_count) where
  -- a count leaves the row as it is
  counting_places : (c : ℕ) (v : List ℕ) → c < count_total → Reads l (places_of i) row_size v → Reads (counting i c l) (places_of i) row_size v
  counting_places c v d r = still_reads l (counting i c l) (places_of i) row_size v r (λ j n. counting_other l i c (places_of i + j) (omega arith) (omega arith))

  more-kept : (l' : List ℕ) (c j : ℕ) (g : Opening → Opening) (b : List Opening) → 0 < length b → Page l i b t m → c ≡ suc j → c < count_total
      → Outside (counting i c l) l' (places_of i) (places_end i) → Reads l' (places_of i) row_size (places_from 1 (g (newest b)))
      → open_count (g (newest b)) ≤ most_open → length (g (newest b)) ≡ length (newest b) + one_if (eqb 0 j)
      → Page l' i (on_newest g b) (λ k. bump (one_if (eqb k j)) (t k)) (suc m)
  more-kept l' c j g [] n r e d o p f w = absurd (omega arith)
  more-kept l' c j g (x ∷ b) n r e d o p f w = record {
    counts = λ a q. up a q ∙ ap (λ (k : ℕ). k + one_if (eqb a c)) (r.counts a q) ∙ ap (λ (k : ℕ). on_page a (x ∷ b) t + one_if (eqb a k)) e ∙ sym (more_page a j g (x ∷ b) t n);
    places = p;
    few = f;
    whole = w ∙ ap (λ (k : ℕ). k + one_if (eqb 0 j)) r.whole ∙ sym (bump-first (one_if (eqb 0 j)) (t 0));
    most = λ a q. omega (arith, up a q, r.most a q, one_most (eqb a c));
  }
    where
      up : (a : ℕ) → a < count_total → get_or l' (page_of i + a) 0 ≡ get_or l (page_of i + a) 0 + one_if (eqb a c)
      up a q = o.below (page_of i + a) (omega arith) ∙ counting-stream l i c h d z a q (omega (arith, r.most a q))

-- ---- one comes

placed-is : (i n c : ℕ) (l : List ℕ) → first_free i l ≡ c → c < places_end i → placed i n l ≡ standing_at i n c l
unfolding placed
placed-is i n c l e h = hold _ _ _ (lt-ltb (first_free i l) (places_end i) (omega arith)) ∙ ap (λ (k : ℕ). standing_at i n k l) e

-- the first free cell of a page
abbrev free_cell : ℕ → List Opening → ℕ
free_cell i b = places_of i + length (places_from 1 (newest b))

module _ (l : List ℕ) (i n : ℕ) (b : List Opening) (t : ℕ → List ℕ) (m : ℕ) (h : i < stream_total) (z : length l ≡ register_size) (u : m < most_count)
    (e : 0 < length b) (f : open_count (newest b) < most_open) (r : Page l i b t m) where
  -- the one that comes has the next place in its opening
  rung-place : get_or (counting i 1 l) (page_of i + 1) 0 ≡ 1 + length (newest b)
  rung-place = counting-stream l i 1 h (omega arith) z 1 (omega arith) (omega (arith, r.most 1 (omega arith))) ∙ omega (arith, r.counts 1 (omega arith), r.whole)

  rung-is : rung i n l ≡ set (set (counting i 1 l) (free_cell i b) (get_or (counting i 1 l) (page_of i + 1) 0)) (free_cell i b + 1) n
  rung-is = placed-is i n (free_cell i b) (counting i 1 l)
      (free-at (counting i 1 l) (newest b) most_open (places_of i) 1 (omega arith) r.few
      (narrower (counting i 1 l) (places_of i) (places_from 1 (newest b)) (counting_places l i t m h z u 1 (places_from 1 (newest b)) (omega arith) r.places))
      ∙ omega (arith, places_length 1 (newest b)))
      (omega (arith, places_length 1 (newest b)))

  -- it touches the row alone
  pub rung_outside : Outside (counting i 1 l) (rung i n l) (places_of i) (places_end i)
  rung_outside = subst (λ (l' : List ℕ). Outside (counting i 1 l) l' (places_of i) (places_end i)) (sym rung-is)
      (outside_set (counting i 1 l) (free_cell i b) (get_or (counting i 1 l) (page_of i + 1) 0) n (places_of i) (places_end i) (omega arith) (omega (arith, places_length 1 (newest b))))

  rung-reads : Reads (rung i n l) (places_of i) row_size (places_from 1 (noted n (newest b)))
  rung-reads =
      subst (λ (v : List ℕ). Reads (rung i n l) (places_of i) row_size v) (ap (λ (k : ℕ). places_from 1 (newest b) ++ (k ∷ n ∷ [])) rung-place ∙ sym (places_noted n 1 (newest b)))
      (subst (λ (l' : List ℕ). Reads l' (places_of i) row_size (places_from 1 (newest b) ++ (get_or (counting i 1 l) (page_of i + 1) 0 ∷ n ∷ []))) (sym rung-is)
      (reads_more (counting i 1 l) (places_of i) row_size (places_from 1 (newest b)) (get_or (counting i 1 l) (page_of i + 1) 0) n
      (counting_places l i t m h z u 1 (places_from 1 (newest b)) (omega arith) r.places) (omega (arith, places_length 1 (newest b))) (omega (arith, counting-length l i 1))))

  pub rung_page : Page (rung i n l) i (on_newest (noted n) b) (λ k. bump (one_if (eqb k 0)) (t k)) (suc m)
  rung_page = more-kept l i t m h z u (rung i n l) 1 0 (noted n) b e r refl (omega arith) rung_outside rung-reads
      (omega (arith, ap length (open_noted n (newest b)), length-append (open_of (newest b)) (n ∷ []))) (length-noted n (newest b))

-- ---- one ends

removed-is : (i n c : ℕ) (l : List ℕ) → place_of i n l ≡ c → c < places_end i → removed i n l ≡ close_up (places_end i - c) c l
unfolding removed
removed-is i n c l e h = hold _ _ _ (lt-ltb (place_of i n l) (places_end i) (omega arith)) ∙ ap (λ (k : ℕ). close_up (places_end i - k) k l) e

-- the cell of the oldest that is still open with a number
pub place_at : (l : List ℕ) (i n : ℕ) (o : Opening) → Reads l (places_of i) row_size (places_from 1 o) → open_count o ≤ most_open → 0 < occ n (open_of o) → place_of i n l ≡ places_of i + spot n o
place_at l i n o r f e = find_at l n o most_open (places_of i) 1 (omega arith) f e (narrower l (places_of i) (places_from 1 o) r)

module _ (l : List ℕ) (i n : ℕ) (e : End) (b : List Opening) (t : ℕ → List ℕ) (m : ℕ) (h : i < stream_total) (z : length l ≡ register_size) (u : m < most_count)
    (f : 0 < occ n (open_of (newest b))) (r : Page l i b t m) where
  gone_reads' : Reads (counting i (count_of e + 1) l) (places_of i) row_size (places_from 1 (newest b))
  gone_reads' = counting_places l i t m h z u (count_of e + 1) (places_from 1 (newest b)) (omega (arith, end_count e)) r.places

  gone-end : Ended n e (newest b) (mark n e (newest b)) (spot n (newest b)) (first_of (is_marked n) (newest b))
  gone-end = ended n e (newest b) f

  gone-is : gone i n e l ≡ close_up (places_end i - (places_of i + spot n (newest b))) (places_of i + spot n (newest b)) (counting i (count_of e + 1) l)
  gone-is = removed-is i n (places_of i + spot n (newest b)) (counting i (count_of e + 1) l)
      (place_at (counting i (count_of e + 1) l) i n (newest b) gone_reads' r.few f) (omega (arith, gone-end.less, r.few))

  -- it touches the row alone
  pub gone_outside : Outside (counting i (count_of e + 1) l) (gone i n e l) (places_of i) (places_end i)
  gone_outside = subst (λ (l' : List ℕ). Outside (counting i (count_of e + 1) l) l' (places_of i) (places_end i)) (sym gone-is)
      (outside_closed (counting i (count_of e + 1) l) (places_end i - (places_of i + spot n (newest b))) (places_of i + spot n (newest b)) (places_of i)
      (places_end i) (omega arith) (omega (arith, gone-end.less, r.few)))

  gone-reads : Reads (gone i n e l) (places_of i) row_size (places_from 1 (mark n e (newest b)))
  gone-reads =
      subst (λ (l' : List ℕ). Reads l' (places_of i) row_size (places_from 1 (mark n e (newest b)))) (sym gone-is)
      (reads-less (counting i (count_of e + 1) l) (places_of i) (places_end i - (places_of i + spot n (newest b))) (spot n (newest b)) (places_from 1 (newest b)) (places_from 1 (mark n e (newest b)))
      gone_reads' (omega (arith, places_length 1 (newest b), r.few)) (omega (arith, counting-length l i (count_of e + 1)))
      (omega (arith, gone-end.less, r.few)) (gone-end.before 1) (gone-end.behind 1))

  pub gone_page : Page (gone i n e l) i (on_newest (mark n e) b) (λ k. bump (one_if (eqb k (count_of e))) (t k)) (suc m)
  gone_page = more-kept l i t m h z u (gone i n e l) (count_of e + 1) (count_of e) (mark n e) b (opening_there n b f) r (omega arith) (omega (arith, end_count e)) gone_outside gone-reads
      (omega (arith, ap length (open_mark n e (newest b)), length-without_le n (open_of (newest b)), r.few))
      (length-mark n e (newest b) ∙ omega (arith, one_other 0 (count_of e) (omega (arith, end_count e))))
