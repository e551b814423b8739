-- The whole table: a sum over the streams, and what a line changes outside of the page of its own stream.
use Prim.Native.Nat.{ℕ, zero, suc, ◌+◌, ◌≤◌, ◌<◌}
use mathlib.Core.Path.{◌≡◌, refl, ap, ◌∙◌}
use mathlib.Core.Logic.{◌≢◌}
use mathlib.Core.List.{List}
use lib.ListN.{length, get_or}
use lib.Dec.{eqb}
use native.Mathlib.Omega.{arith}
use Rattle.ledger.specs.Tally.{one_if}
use Rattle.ledger.proofs.Tallies.{by_same, by_order}
use Rattle.fates_book.specs.Book.{over_streams}
use Rattle.paper.specs.Base.{stream_total}
use Rattle.fates_register.specs.Register.{counting, cleared, begun}
use Rattle.fates_register.specs.Register.{count_total, page_size, newest_size, totals_at, register_size, page_of, places_of, places_end, most_count}
use Rattle.fates_register.proofs.Cells.{counting-length, counting_other, counting-table}
use Rattle.fates_register.proofs.Pages.{Outside, outside_cleared}

-- ---- a sum over the streams

pub over_none : (n : ℕ) → over_streams n (λ s. 0) ≡ 0
unfolding over_streams
over_none zero = refl
over_none (suc n) = omega (arith, over_none n)

pub over-same : (n : ℕ) (f g : ℕ → ℕ) → ((s : ℕ) → s < n → g s ≡ f s) → over_streams n g ≡ over_streams n f
unfolding over_streams
over-same zero f g e = refl
over-same (suc n) f g e = omega (arith, over-same n f g (λ s h. e s (omega arith)), e n (omega arith))

-- where the quantity goes up on one stream, the sum does as much
pub over_one : (n i d : ℕ) (f g : ℕ → ℕ) → i < n → g i ≡ f i + d → ((s : ℕ) → s ≢ i → g s ≡ f s) → over_streams n g ≡ over_streams n f + d
unfolding over_streams
over_one zero i d f g h e o = absurd (omega arith)
over_one (suc n) i d f g h e o =
    by_same n i
    (λ q. omega (arith, over-same n f g (λ s k. o s (omega arith)), ap f q, ap g q))
    (λ q. omega (arith, over_one n i d f g (omega arith) e o, o n q))

-- ---- what a line changes elsewhere

-- on the page of the whole table count c goes up by one, and the pages of other streams than i stay
pub record CountedUp (l l' : List ℕ) (i c : ℕ) : Type 0 where
  pub size : length l' ≡ length l
  pub table : (a : ℕ) → a < count_total → get_or l (totals_at + a) 0 < most_count → get_or l' (totals_at + a) 0 ≡ get_or l (totals_at + a) 0 + one_if (eqb a c)
  pub others : (s a : ℕ) → s < stream_total → s ≢ i → a < page_size → get_or l' (page_of s + a) 0 ≡ get_or l (page_of s + a) 0

-- what stays inside of the page of stream i does not touch another page
outside_page : (l l' : List ℕ) (i x y s a : ℕ) → Outside l l' x y → page_of i ≤ x → y ≤ page_of i + page_size → s ≢ i → a < page_size → get_or l' (page_of s + a) 0 ≡ get_or l (page_of s + a) 0
outside_page l l' i x y s a o p q e h =
    by_order s i
    (λ d. o.below (page_of s + a) (omega arith))
    (λ d. o.behind (page_of s + a) (omega arith))

module _ (l : List ℕ) (i c : ℕ) (h : i < stream_total) (d : c < count_total) (z : length l ≡ register_size) where
  -- a count, and then the page
  pub change_counted : (l' : List ℕ) → Outside (counting i c l) l' (places_of i) (places_end i) → CountedUp l l' i c
  change_counted l' o = record {
    size = o.size ∙ counting-length l i c;
    table = λ a n m. o.behind (totals_at + a) (omega arith) ∙ counting-table l i c h d z a n m;
    others = λ s a n e m. outside_page (counting i c l) l' i (places_of i) (places_end i) s a o (omega arith) (omega arith) e m ∙ counting_other l i c (page_of s + a) (omega arith) (omega arith);
  }

-- a page that starts anew, and then its count
pub change_begun : (l : List ℕ) (i : ℕ) → i < stream_total → length l ≡ register_size → CountedUp l (begun i l) i 0
change_begun l i h z =
    let o : Outside l (cleared newest_size (page_of i + 1) l) (page_of i + 1) (places_end i) = outside_cleared l newest_size (page_of i + 1) (page_of i + 1) (places_end i) (omega arith) (omega arith) in
    record {
      size = counting-length (cleared newest_size (page_of i + 1) l) i 0 ∙ o.size;
      table = λ a n m. counting-table (cleared newest_size (page_of i + 1) l) i 0 h (omega arith) (o.size ∙ z) a n
          (omega (arith, o.behind (totals_at + a) (omega arith))) ∙ ap (λ (k : ℕ). k + one_if (eqb a 0)) (o.behind (totals_at + a) (omega arith));
      others = λ s a n e m. counting_other (cleared newest_size (page_of i + 1) l) i 0 (page_of s + a) (omega arith) (omega arith)
          ∙ outside_page l (cleared newest_size (page_of i + 1) l) i (page_of i + 1) (places_end i) s a o (omega arith) (omega arith) e m;
    }
