-- The open ones of a page: cells of the register that read as a list, and zeros behind it.
use Prim.Native.Nat.{ℕ, zero, suc, ◌+◌, ◌≤◌, ◌<◌}
use mathlib.Core.Path.{◌≡◌, refl, sym, ◌∙◌}
use mathlib.Core.Bool.{Bool, true, false}
use mathlib.Core.List.{List, [], ◌∷◌, ◌++◌}
use lib.ListN.{length, get_or, set, length-set, length-append, get_or-append, get_or-eq_default}
use lib.Dec.{eqb, ltb}
use lib.Seq.{get_or-set_same, get_or-set_other}
use native.Mathlib.Omega.{arith}
use borrow.Author.Tests.{eqb-true, eqb-false, eq-eqb, ne_eqb, lt-ltb}
use Rattle.ledger.specs.Choice.{pick}
use Rattle.ledger.specs.Tally.{one_if, occ}
use Rattle.ledger.proofs.Tallies.{skip, both_none, hold, by_same, by_order}
use Rattle.ledger.proofs.Lists.{tail_at}
use Rattle.fates_book.specs.Book.{Opening, is_still_open, open_of, open_count}
use Rattle.fates_register.specs.Register.{free_from, find_from, close_up}
use Rattle.fates_register.specs.Register.{open_size, row_size}
use Rattle.fates_register.proofs.Cells.{cell, closed-before, closed_in, closed-behind}
use Rattle.fates_register.proofs.Places.{places_from, spot}

-- the w cells from c on hold the elements of v, then zeros
pub record Reads (l : List ℕ) (c w : ℕ) (v : List ℕ) : Type 0 where
  pub cells : (j : ℕ) → j < w → get_or l (c + j) 0 ≡ get_or v j 0

-- without the two cells behind the places
pub narrower : (l : List ℕ) (c : ℕ) (v : List ℕ) → Reads l c row_size v → Reads l c open_size v
narrower l c v r = record { cells = λ j h. r.cells j (omega arith) }

first_cell : (l : List ℕ) (c w : ℕ) (v : List ℕ) → Reads l c w v → 0 < w → get_or l c 0 ≡ get_or v 0 0
first_cell l c w v r h = cell l c (c + 0) (omega arith) ∙ r.cells 0 h

second_cell : (l : List ℕ) (c w : ℕ) (v : List ℕ) → Reads l c w v → 1 < w → get_or l (c + 1) 0 ≡ get_or v 1 0
second_cell l c w v r h = r.cells 1 h

next-cells : (l : List ℕ) (c k a b : ℕ) (v : List ℕ) → Reads l c (suc k + suc k) (a ∷ b ∷ v) → Reads l (c + 2) (k + k) v
next-cells l c k a b v r = record { cells = λ j h. cell l (c + 2 + j) (c + suc (suc j)) (omega arith) ∙ r.cells (suc (suc j)) (omega arith) }

-- ---- the first free place

free_none : (c : ℕ) (l : List ℕ) → free_from 0 c l ≡ c
unfolding free_from
free_none c l = refl

free_here : (k c : ℕ) (l : List ℕ) → get_or l c 0 ≡ 0 → free_from (suc k) c l ≡ c
unfolding free_from
free_here k c l e = hold _ _ _ (eq-eqb (get_or l c 0) 0 e)

free-next : (k c : ℕ) (l : List ℕ) → 0 < get_or l c 0 → free_from (suc k) c l ≡ free_from k (c + 2) l
unfolding free_from
free-next k c l h = skip _ _ _ (ne_eqb (get_or l c 0) 0 (omega arith))

-- it stands behind those that are open
pub free-at : (l : List ℕ) (o : Opening) (k c p : ℕ) → 0 < p → open_count o ≤ k → Reads l c (k + k) (places_from p o) → free_from k c l ≡ c + (open_count o + open_count o)
free-at l [] zero c p z h r = free_none c l ∙ omega arith
free-at l [] (suc k) c p z h r = free_here k c l (first_cell l c (suc k + suc k) [] r (omega arith)) ∙ omega arith
free-at l (x ∷ o) k c p z h r = go k (is_still_open x.fate) h r (λ k c. free-at l o k c (suc p) (omega arith))
  where
    go : (k : ℕ) (b : Bool) → length (pick b (x.number ∷ open_of o) (open_of o)) ≤ k → Reads l c (k + k) (pick b (p ∷ x.number ∷ places_from (suc p) o) (places_from (suc p) o))
        → ((k c : ℕ) → open_count o ≤ k → Reads l c (k + k) (places_from (suc p) o) → free_from k c l ≡ c + (open_count o + open_count o))
        → free_from k c l ≡ c + (length (pick b (x.number ∷ open_of o) (open_of o)) + length (pick b (x.number ∷ open_of o) (open_of o)))
    go k false h r i = i k c h r
    go zero true h r i = absurd (omega arith)
    go (suc k) true h r i = free-next k c l (omega (arith, first_cell l c (suc k + suc k) (p ∷ x.number ∷ places_from (suc p) o) r (omega arith)))
        ∙ i k (c + 2) (omega arith) (next-cells l c k p x.number (places_from (suc p) o) r)
        ∙ omega arith

-- ---- the place of a number

find_here : (k c n : ℕ) (l : List ℕ) → 0 < get_or l c 0 → get_or l (c + 1) 0 ≡ n → find_from (suc k) c n l ≡ c
unfolding find_from
find_here k c n l h e = hold _ _ _ (rw (lt-ltb 0 (get_or l c 0) h) (eq-eqb (get_or l (c + 1) 0) n e))

find_next : (k c n : ℕ) (l : List ℕ) → (get_or l (c + 1) 0 ≡ n → ⊥) → find_from (suc k) c n l ≡ find_from k (c + 2) n l
unfolding find_from
find_next k c n l h = skip _ _ _ (rw (ne_eqb (get_or l (c + 1) 0) n h) (both_none (ltb 0 (get_or l c 0))))

-- it is the cell of the oldest that is still open with that number
pub find_at : (l : List ℕ) (n : ℕ) (o : Opening) (k c p : ℕ) → 0 < p → open_count o ≤ k → 0 < occ n (open_of o) → Reads l c (k + k) (places_from p o) → find_from k c n l ≡ c + spot n o
find_at l n [] k c p z h f r = absurd (omega arith)
find_at l n (x ∷ o) k c p z h f r = go k (is_still_open x.fate) h f r (λ k c. find_at l n o k c (suc p) (omega arith))
  where
    go : (k : ℕ) (b : Bool) → length (pick b (x.number ∷ open_of o) (open_of o)) ≤ k → 0 < occ n (pick b (x.number ∷ open_of o) (open_of o))
        → Reads l c (k + k) (pick b (p ∷ x.number ∷ places_from (suc p) o) (places_from (suc p) o))
        → ((k c : ℕ) → open_count o ≤ k → 0 < occ n (open_of o) → Reads l c (k + k) (places_from (suc p) o) → find_from k c n l ≡ c + spot n o)
        → find_from k c n l ≡ c + pick b (pick (eqb n x.number) 0 (suc (suc (spot n o)))) (spot n o)
    go k false h f r i = i k c h f r
    go zero true h f r i = absurd (omega arith)
    go (suc k) true h f r i = at_b (eqb n x.number) refl f
      where
        at_b : (b : Bool) → eqb n x.number ≡ b → 0 < one_if b + occ n (open_of o) → find_from (suc k) c n l ≡ c + pick b 0 (suc (suc (spot n o)))
        at_b true q f = find_here k c n l (omega (arith, first_cell l c (suc k + suc k) (p ∷ x.number ∷ places_from (suc p) o) r (omega arith)))
            (second_cell l c (suc k + suc k) (p ∷ x.number ∷ places_from (suc p) o) r (omega arith) ∙ sym (eqb-true n x.number q)) ∙ omega arith
        at_b false q f = find_next k c n l (λ e. eqb-false n x.number q (sym e ∙ second_cell l c (suc k + suc k) (p ∷ x.number ∷ places_from (suc p) o) r (omega arith)))
            ∙ i k (c + 2) (omega arith) (omega arith) (next-cells l c k p x.number (places_from (suc p) o) r)
            ∙ omega arith

-- ---- the row after a change

-- cells that stay read as before
pub still_reads : (l l' : List ℕ) (c w : ℕ) (v : List ℕ) → Reads l c w v → ((j : ℕ) → j < w → get_or l' (c + j) 0 ≡ get_or l (c + j) 0) → Reads l' c w v
still_reads l l' c w v r e = record { cells = λ j h. e j h ∙ r.cells j h }

-- two more behind the others
pub reads_more : (l : List ℕ) (c w : ℕ) (v : List ℕ) (a b : ℕ) → Reads l c w v → length v + 2 ≤ w → c + w ≤ length l
    → Reads (set (set l (c + length v) a) (c + length v + 1) b) c w (v ++ (a ∷ b ∷ []))
reads_more l c w v a b r h z = record { cells = at }
  where
    at : (j : ℕ) → j < w → get_or (set (set l (c + length v) a) (c + length v + 1) b) (c + j) 0 ≡ get_or (v ++ (a ∷ b ∷ [])) j 0
    at j d =
        by_order j (length v)
        (λ e. get_or-set_other (set l (c + length v) a) (c + length v + 1) (c + j) b 0 (omega arith) ∙ get_or-set_other l (c + length v) (c + j) a 0 (omega arith)
        ∙ r.cells j d ∙ sym (get_or-append v (a ∷ b ∷ []) 0 j e))
        (λ e. by_same j (length v)
        (λ q. get_or-set_other (set l (c + length v) a) (c + length v + 1) (c + j) b 0 (omega arith)
        ∙ cell (set l (c + length v) a) (c + j) (c + length v) (omega arith) ∙ get_or-set_same l (c + length v) a 0 (omega arith)
        ∙ sym (tail_at v (a ∷ b ∷ []) j 0 (omega arith)))
        (λ q. by_same j (length v + 1)
        (λ p. cell (set (set l (c + length v) a) (c + length v + 1) b) (c + j) (c + length v + 1) (omega arith)
        ∙ get_or-set_same (set l (c + length v) a) (c + length v + 1) b 0 (omega (arith, length-set l (c + length v) a)) ∙ sym (tail_at v (a ∷ b ∷ []) j 1 p))
        (λ p. get_or-set_other (set l (c + length v) a) (c + length v + 1) (c + j) b 0 (omega arith) ∙ get_or-set_other l (c + length v) (c + j) a 0 (omega arith)
        ∙ r.cells j d ∙ get_or-eq_default v 0 e
        ∙ sym (get_or-eq_default (v ++ (a ∷ b ∷ [])) 0 (omega (arith, length-append v (a ∷ b ∷ [])))))))

-- two fewer, from d on: those behind move up
pub reads-less : (l : List ℕ) (c k d : ℕ) (v v' : List ℕ) → Reads l c row_size v → length v ≤ open_size → c + row_size ≤ length l → k + d ≡ open_size
    → ((j : ℕ) → j < d → get_or v' j 0 ≡ get_or v j 0) → ((j : ℕ) → d ≤ j → get_or v' j 0 ≡ get_or v (suc (suc j)) 0)
    → Reads (close_up k (c + d) l) c row_size v'
reads-less l c k d v v' r h z e before behind = record { cells = at }
  where
    at : (j : ℕ) → j < row_size → get_or (close_up k (c + d) l) (c + j) 0 ≡ get_or v' j 0
    at j m =
        by_order j d
        (λ q. closed-before k (c + d) l (c + j) (omega arith) ∙ r.cells j m ∙ sym (before j q))
        (λ q. by_order j open_size
        (λ p. closed_in k (c + d) l (c + j) (omega arith) (omega arith) (omega arith) ∙ cell l (c + j + 2) (c + suc (suc j)) (omega arith) ∙ r.cells (suc (suc j)) (omega arith) ∙ sym (behind j q))
        (λ p. closed-behind k (c + d) l (c + j) (omega arith) ∙ r.cells j m ∙ get_or-eq_default v 0 (omega arith) ∙ sym (behind j q ∙ get_or-eq_default v 0 (omega arith))))
