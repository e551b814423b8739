-- A register holds what the book says, and each line that a provider may write changes both alike, so it still does.
use Prim.Native.Nat.{ℕ, zero, suc, ◌+◌, ◌≤◌, ◌<◌}
use mathlib.Core.Path.{◌≡◌, refl, sym, ap, ◌∙◌, subst}
use mathlib.Core.Bool.{Bool, true, false}
use mathlib.Core.List.{List, [], ◌∷◌}
use lib.ListN.{length, get_or, length-replicate}
use lib.Dec.{eqb, ltb}
use native.Mathlib.Omega.{arith}
use borrow.Author.Tests.{eqb-true, eqb-false, eq-eqb, ne_eqb, ltb-true, ltb-false}
use Rattle.ledger.specs.Choice.{pick}
use Rattle.ledger.specs.Tally.{one_if, occ, has}
use Rattle.ledger.proofs.Tallies.{both_of, one_most, chosen}
use Rattle.fates_book.specs.declared.End.{End}
use Rattle.fates_book.specs.declared.Line.{Line}
use Rattle.fates_book.specs.declared.Line.TheVariants.{Began, Came, Went, Given, Nothing}
use Rattle.fates_book.specs.Book.{Opening, open_of, open_count, mark, noted, newest, on_newest, post, posts, count_of, bump, tally_line, tallies, over_streams}
use Rattle.ledger.proofs.Sums.{of-asks}
use Rattle.ledger.proofs.Lists.{replicate-at}
use Rattle.fates_book.proofs.Shades.{shade, fair, fairs, openings, rooted, rooteds, open_post, length-post, opening_there}
use Rattle.paper.specs.Base.{stream_total}
use Rattle.paper.specs.Saps.{most_open}
use Rattle.fates_register.specs.Register.{blank, begun, rung, gone, entered, entered_all}
use Rattle.fates_register.specs.Register.{count_total, totals_at, register_size, page_of, places_of, most_count}
use Rattle.fates_register.proofs.Pages.{on_page, in_all, Page, page_aside, more_all, begun_all, end_count, begun_page, rung_outside, rung_page, gone_outside, gone_page}
use Rattle.fates_register.proofs.Whole.{over_none, over-same, over_one, CountedUp, change_counted, change_begun}

-- ---- the register against the book

-- stream s has the openings b s and the counts t k s, and no count is more than m
pub record Kept (l : List ℕ) (b : ℕ → List Opening) (t : ℕ → ℕ → List ℕ) (m : ℕ) : Type 0 where
  pub size : length l ≡ register_size
  pub pages : (s : ℕ) → s < stream_total → Page l s (b s) (λ k. t k s) m
  pub table : (a : ℕ) → a < count_total → get_or l (totals_at + a) 0 ≡ over_streams stream_total (λ s. in_all a (b s) (λ k. t k s))
  pub most : (a : ℕ) → a < count_total → get_or l (totals_at + a) 0 ≤ m

-- a register of zeros, and streams that were never opened
none_in : (a : ℕ) → in_all a [] (λ k. []) ≡ 0
none_in zero = refl
none_in (suc a) = refl

none_on : (a : ℕ) → on_page a [] (λ k. []) ≡ 0
none_on zero = refl
none_on (suc a) = refl

pub kept-blank : Kept blank (λ s. []) (λ k s. []) 0
kept-blank = record {
  size = length-replicate {A = ℕ} register_size 0;
  pages = λ s h. record {
    counts = λ a d. replicate-at {A = ℕ} register_size 0 (page_of s + a) ∙ sym (none_on a);
    places = record { cells = λ j d. replicate-at {A = ℕ} register_size 0 (places_of s + j) };
    few = omega arith;
    whole = refl;
    most = λ a d. omega (arith, replicate-at {A = ℕ} register_size 0 (page_of s + a));
  };
  table = λ a h. replicate-at {A = ℕ} register_size 0 (totals_at + a) ∙ sym (over-same stream_total (λ s. 0) (λ s. in_all a [] (λ k. [])) (λ s d. none_in a) ∙ over_none stream_total);
  most = λ a h. omega (arith, replicate-at {A = ℕ} register_size 0 (totals_at + a));
}

-- ---- one line

-- a line that changes nothing
kept_still : (l : List ℕ) (b : ℕ → List Opening) (t : ℕ → ℕ → List ℕ) (m : ℕ) → Kept l b t m → Kept l b t (suc m)
kept_still l b t m r = record {
  size = r.size;
  pages = λ s h. page_aside l l s (b s) (λ k. t k s) m (λ a d. refl) (r.pages s h);
  table = r.table;
  most = λ a h. omega (arith, r.most a h);
}

-- a line of stream i, which raises count c
kept_change : (l l' : List ℕ) (b : ℕ → List Opening) (t : ℕ → ℕ → List ℕ) (m i c : ℕ) (b' : ℕ → List Opening) (t' : ℕ → ℕ → List ℕ)
    → i < stream_total → m < most_count → Kept l b t m → CountedUp l l' i c → Page l' i (b' i) (λ k. t' k i) (suc m)
    → ((a : ℕ) → in_all a (b' i) (λ k. t' k i) ≡ in_all a (b i) (λ k. t k i) + one_if (eqb a c))
    → Kept l' (λ s. pick (eqb s i) (b' s) (b s)) (λ k s. pick (eqb s i) (t' k s) (t k s)) (suc m)
kept_change l l' b t m i c b' t' h u r d p g = record {
  size = d.size ∙ r.size;
  pages = λ s n. at s n (eqb s i) refl;
  table = λ a n. d.table a n (omega (arith, r.most a n)) ∙ ap (λ (k : ℕ). k + one_if (eqb a c)) (r.table a n)
      ∙ sym (over_one stream_total i (one_if (eqb a c)) (λ s. in_all a (b s) (λ k. t k s))
      (λ s. in_all a (pick (eqb s i) (b' s) (b s)) (λ k. pick (eqb s i) (t' k s) (t k s))) h (rw (eq-eqb i i refl) (g a)) (λ s e. rw (ne_eqb s i e)));
  most = λ a n. omega (arith, d.table a n (omega (arith, r.most a n)), r.most a n, one_most (eqb a c));
}
  where
    at : (s : ℕ) → s < stream_total → (q : Bool) → eqb s i ≡ q → Page l' s (pick q (b' s) (b s)) (λ k. pick q (t' k s) (t k s)) (suc m)
    at s n true e = let w : s ≡ i = eqb-true s i e in rw w p
    at s n false e = page_aside l l' s (b s) (λ k. t k s) m (λ a k. d.others s a n (eqb-false s i e) k) (r.pages s n)

-- a line of a stream that is none of the table
kept_beyond : (l : List ℕ) (b : ℕ → List Opening) (t : ℕ → ℕ → List ℕ) (m i : ℕ) (b' : ℕ → List Opening) (t' : ℕ → ℕ → List ℕ)
    → stream_total ≤ i → Kept l b t m → Kept l (λ s. pick (eqb s i) (b' s) (b s)) (λ k s. pick (eqb s i) (t' k s) (t k s)) (suc m)
kept_beyond l b t m i b' t' h r = record {
  size = r.size;
  pages = λ s n. at s n (eqb s i) refl;
  table = λ a n. r.table a n
      ∙ sym (over-same stream_total (λ s. in_all a (b s) (λ k. t k s)) (λ s. in_all a (pick (eqb s i) (b' s) (b s)) (λ k. pick (eqb s i) (t' k s) (t k s))) (λ s d. rw (ne_eqb s i (omega arith))));
  most = λ a n. omega (arith, r.most a n);
}
  where
    at : (s : ℕ) → s < stream_total → (q : Bool) → eqb s i ≡ q → Page l s (pick q (b' s) (b s)) (λ k. pick q (t' k s) (t k s)) (suc m)
    at s n true e = absurd (omega (arith, eqb-true s i e))
    at s n false e = page_aside l l s (b s) (λ k. t k s) m (λ a k. refl) (r.pages s n)

-- what a line says of its own stream, where it is fair and comes to an opening
of-own : (i : ℕ) (q : Bool) → pick (eqb i i) q true ≡ true → q ≡ true
of-own i q h = of-asks (eqb i i) q h (eq-eqb i i refl)

module _ (l : List ℕ) (b : ℕ → List Opening) (t : ℕ → ℕ → List ℕ) (m i : ℕ) (h : i < stream_total) (u : m < most_count) (r : Kept l b t m) where
  kept_began : Kept (begun i l) (λ s. pick (eqb s i) ([] ∷ b s) (b s)) (λ k s. pick (eqb s i) (0 ∷ t k s) (t k s)) (suc m)
  kept_began = kept_change l (begun i l) b t m i 0 (λ s. [] ∷ b s) (λ k s. 0 ∷ t k s) h u r (change_begun l i h r.size)
      (begun_page l i (b i) (λ k. t k i) m h r.size u (r.pages i h)) (λ a. begun_all a (b i) (λ k. t k i))

  kept_came : (n : ℕ) → 0 < length (b i) → open_count (newest (b i)) < most_open
      → Kept (rung i n l) (λ s. pick (eqb s i) (on_newest (noted n) (b s)) (b s)) (λ k s. pick (eqb s i) (bump (one_if (eqb k 0)) (t k s)) (t k s)) (suc m)
  kept_came n e f = kept_change l (rung i n l) b t m i 1 (λ s. on_newest (noted n) (b s)) (λ k s. bump (one_if (eqb k 0)) (t k s)) h u r
      (change_counted l i 1 h (omega arith) r.size (rung i n l) (rung_outside l i n (b i) (λ k. t k i) m h r.size u e f (r.pages i h)))
      (rung_page l i n (b i) (λ k. t k i) m h r.size u e f (r.pages i h))
      (λ a. more_all a 0 (noted n) (b i) (λ k. t k i) e)

  kept_went : (n : ℕ) (e : End) → 0 < occ n (open_of (newest (b i)))
      → Kept (gone i n e l) (λ s. pick (eqb s i) (on_newest (mark n e) (b s)) (b s)) (λ k s. pick (eqb s i) (bump (one_if (eqb k (count_of e))) (t k s)) (t k s)) (suc m)
  kept_went n e f = kept_change l (gone i n e l) b t m i (count_of e + 1) (λ s. on_newest (mark n e) (b s)) (λ k s. bump (one_if (eqb k (count_of e))) (t k s)) h u r
      (change_counted l i (count_of e + 1) h (omega (arith, end_count e)) r.size (gone i n e l) (gone_outside l i n e (b i) (λ k. t k i) m h r.size u f (r.pages i h)))
      (gone_page l i n e (b i) (λ k. t k i) m h r.size u f (r.pages i h))
      (λ a. more_all a (count_of e) (mark n e) (b i) (λ k. t k i) (opening_there n (b i) f) ∙ ap (λ (c : ℕ). in_all a (b i) (λ k. t k i) + one_if (eqb a c)) (omega arith))

-- each line that a provider may write keeps the register
kept_line : (y : Line) (l : List ℕ) (b : ℕ → List Opening) (t : ℕ → ℕ → List ℕ) (m : ℕ) → m < most_count
    → ((s : ℕ) → s < stream_total → fair s y (open_of (newest (b s))) ≡ true) → ((s : ℕ) → s < stream_total → rooted s y (length (b s)) ≡ true)
    → Kept l b t m → Kept (entered y l) (λ s. post s y (b s)) (λ k s. tally_line k s y (t k s)) (suc m)
unfolding entered
kept_line (Began i) l b t m u f d r =
    chosen (λ (l' : List ℕ). Kept l' (λ s. post s (Began i) (b s)) (λ k s. tally_line k s (Began i) (t k s)) (suc m)) (ltb i stream_total) (begun i l) l
    (λ e. kept_began l b t m i (ltb-true i stream_total e) u r)
    (λ e. kept_beyond l b t m i (λ s. [] ∷ b s) (λ k s. 0 ∷ t k s) (ltb-false i stream_total e) r)
kept_line (Came i n) l b t m u f d r =
    chosen (λ (l' : List ℕ). Kept l' (λ s. post s (Came i n) (b s)) (λ k s. tally_line k s (Came i n) (t k s)) (suc m)) (ltb i stream_total) (rung i n l) l
    (λ e. let h = ltb-true i stream_total e in
    kept_came l b t m i h u r n (ltb-true 0 (length (b i)) (of-own i (ltb 0 (length (b i))) (d i h)))
    (ltb-true (open_count (newest (b i))) most_open (of-own i (ltb (open_count (newest (b i))) most_open) (f i h))))
    (λ e. kept_beyond l b t m i (λ s. on_newest (noted n) (b s)) (λ k s. bump (one_if (eqb k 0)) (t k s)) (ltb-false i stream_total e) r)
kept_line (Went i n e) l b t m u f d r =
    chosen (λ (l' : List ℕ). Kept l' (λ s. post s (Went i n e) (b s)) (λ k s. tally_line k s (Went i n e) (t k s)) (suc m)) (ltb i stream_total) (gone i n e l) l
    (λ q. kept_went l b t m i (ltb-true i stream_total q) u r n e (ltb-true 0 (occ n (open_of (newest (b i)))) (of-own i (has n (open_of (newest (b i)))) (f i (ltb-true i stream_total q)))))
    (λ q. kept_beyond l b t m i (λ s. on_newest (mark n e) (b s)) (λ k s. bump (one_if (eqb k (count_of e))) (t k s)) (ltb-false i stream_total q) r)
kept_line (Given i g) l b t m u f d r = kept_still l b t m r
kept_line Nothing l b t m u f d r = kept_still l b t m r

-- ---- a history

-- lines that a provider may write on stream s, which has the openings b
pub record MayCome (s : ℕ) (ys : List Line) (b : List Opening) : Type 0 where
  pub fairly : fairs s ys (open_of (newest b)) ≡ true
  pub rootedly : rooteds s ys (length b) ≡ true

-- they keep the register, from any register that is kept
pub kept-lines : (ys : List Line) (l : List ℕ) (b : ℕ → List Opening) (t : ℕ → ℕ → List ℕ) (m : ℕ) → m + length ys < most_count
    → ((s : ℕ) → s < stream_total → MayCome s ys (b s))
    → Kept l b t m → Kept (entered_all ys l) (λ s. posts s ys (b s)) (λ k s. tallies k s ys (t k s)) (m + length ys)
unfolding entered_all posts tallies
kept-lines [] l b t m u f r = subst (λ (k : ℕ). Kept l b t k) (omega arith) r
kept-lines (y ∷ ys) l b t m u f r =
    let more = kept_line y l b t m (omega arith) (λ s h. (fairly s h).0) (λ s h. (rootedly s h).0) r in
    subst (λ (k : ℕ). Kept (entered_all ys (entered y l)) (λ s. posts s ys (post s y (b s))) (λ k s. tallies k s ys (tally_line k s y (t k s))) k) (omega arith)
    (kept-lines ys (entered y l) (λ s. post s y (b s)) (λ k s. tally_line k s y (t k s)) (suc m) (omega arith) rest more)
  where
    fairly : (s : ℕ) → s < stream_total → (fair s y (open_of (newest (b s))) ≡ true) × (fairs s ys (shade s y (open_of (newest (b s)))) ≡ true)
    fairly s h = both_of (fair s y (open_of (newest (b s)))) (fairs s ys (shade s y (open_of (newest (b s))))) (f s h).fairly

    rootedly : (s : ℕ) → s < stream_total → (rooted s y (length (b s)) ≡ true) × (rooteds s ys (openings s y (length (b s))) ≡ true)
    rootedly s h = both_of (rooted s y (length (b s))) (rooteds s ys (openings s y (length (b s)))) (f s h).rootedly

    rest : (s : ℕ) → s < stream_total → MayCome s ys (post s y (b s))
    rest s h = record {
      fairly = ap (fairs s ys) (open_post s y (b s)) ∙ (fairly s h).1;
      rootedly = ap (rooteds s ys) (length-post s y (b s) (fairly s h).0 (rootedly s h).0) ∙ (rootedly s h).1;
    }
