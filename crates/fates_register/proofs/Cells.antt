-- A cell that was changed has what was put there, and every other cell what it had.
use Prim.Native.Nat.{ℕ, zero, suc, ◌+◌, ◌≤◌, ◌<◌}
use mathlib.Core.Path.{◌≡◌, refl, ap, ◌∙◌}
use mathlib.Core.Logic.{◌≢◌}
use mathlib.Core.List.{List}
use lib.ListN.{length, get_or, set, length-set}
use lib.Dec.{eqb}
use lib.Seq.{get_or-set_same, get_or-set_other}
use native.Mathlib.Omega.{arith}
use borrow.Author.Tests.{ne_eqb}
use Rattle.ledger.specs.Tally.{one_if}
use Rattle.ledger.proofs.Tallies.{skip, one_same, one_other, by_same}
use Rattle.paper.specs.Base.{stream_total}
use Rattle.fates_register.specs.Register.{one_more, raised, counting, close_up, cleared}
use Rattle.fates_register.specs.Register.{count_total, totals_at, register_size, page_of, most_count}

-- a cell by another name
pub cell : (l : List ℕ) (m n : ℕ) → m ≡ n → get_or l m 0 ≡ get_or l n 0
cell l m n e = ap (λ (k : ℕ). get_or l k 0) e

-- ---- a count goes up

one_more_lem : (n : ℕ) → n < most_count → one_more n ≡ n + 1
unfolding one_more
one_more_lem n h = skip _ _ _ (ne_eqb n most_count (omega arith))

raised-length : (c : ℕ) (l : List ℕ) → length (raised c l) ≡ length l
unfolding raised
raised-length c l = length-set l c _

raised-same : (c : ℕ) (l : List ℕ) → c < length l → get_or l c 0 < most_count → get_or (raised c l) c 0 ≡ get_or l c 0 + 1
unfolding raised
raised-same c l h m = get_or-set_same l c _ 0 h ∙ one_more_lem (get_or l c 0) m

raised_other : (c : ℕ) (l : List ℕ) (j : ℕ) → j ≢ c → get_or (raised c l) j 0 ≡ get_or l j 0
unfolding raised
raised_other c l j h = get_or-set_other l c j _ 0 h

-- ---- cells become zero

pub cleared-length : (k c : ℕ) (l : List ℕ) → length (cleared k c l) ≡ length l
unfolding cleared
cleared-length zero c l = refl
cleared-length (suc k) c l = cleared-length k (c + 1) (set l c 0) ∙ length-set l c 0

pub cleared-before : (k c : ℕ) (l : List ℕ) (j : ℕ) → j < c → get_or (cleared k c l) j 0 ≡ get_or l j 0
unfolding cleared
cleared-before zero c l j h = refl
cleared-before (suc k) c l j h = cleared-before k (c + 1) (set l c 0) j (omega arith) ∙ get_or-set_other l c j 0 0 (omega arith)

pub cleared-behind : (k c : ℕ) (l : List ℕ) (j : ℕ) → c + k ≤ j → get_or (cleared k c l) j 0 ≡ get_or l j 0
unfolding cleared
cleared-behind zero c l j h = refl
cleared-behind (suc k) c l j h = cleared-behind k (c + 1) (set l c 0) j (omega arith) ∙ get_or-set_other l c j 0 0 (omega arith)

pub cleared_in : (k c : ℕ) (l : List ℕ) (j : ℕ) → c + k ≤ length l → c ≤ j → j < c + k → get_or (cleared k c l) j 0 ≡ 0
unfolding cleared
cleared_in zero c l j m h d = absurd (omega arith)
cleared_in (suc k) c l j m h d =
    by_same j c
    (λ e. cleared-before k (c + 1) (set l c 0) j (omega arith) ∙ ap (λ (i : ℕ). get_or (set l c 0) i 0) e ∙ get_or-set_same l c 0 0 (omega arith))
    (λ e. cleared_in k (c + 1) (set l c 0) j (omega (arith, length-set l c 0)) (omega arith) (omega arith))

-- ---- cells take what stands two cells further on

pub closed-length : (k c : ℕ) (l : List ℕ) → length (close_up k c l) ≡ length l
unfolding close_up
closed-length zero c l = refl
closed-length (suc k) c l = closed-length k (c + 1) (set l c (get_or l (c + 2) 0)) ∙ length-set l c (get_or l (c + 2) 0)

pub closed-before : (k c : ℕ) (l : List ℕ) (j : ℕ) → j < c → get_or (close_up k c l) j 0 ≡ get_or l j 0
unfolding close_up
closed-before zero c l j h = refl
closed-before (suc k) c l j h = closed-before k (c + 1) (set l c (get_or l (c + 2) 0)) j (omega arith) ∙ get_or-set_other l c j (get_or l (c + 2) 0) 0 (omega arith)

pub closed-behind : (k c : ℕ) (l : List ℕ) (j : ℕ) → c + k ≤ j → get_or (close_up k c l) j 0 ≡ get_or l j 0
unfolding close_up
closed-behind zero c l j h = refl
closed-behind (suc k) c l j h = closed-behind k (c + 1) (set l c (get_or l (c + 2) 0)) j (omega arith) ∙ get_or-set_other l c j (get_or l (c + 2) 0) 0 (omega arith)

pub closed_in : (k c : ℕ) (l : List ℕ) (j : ℕ) → c + k ≤ length l → c ≤ j → j < c + k → get_or (close_up k c l) j 0 ≡ get_or l (j + 2) 0
unfolding close_up
closed_in zero c l j m h d = absurd (omega arith)
closed_in (suc k) c l j m h d =
    let v : ℕ = get_or l (c + 2) 0 in
    by_same j c
    (λ e. closed-before k (c + 1) (set l c v) j (omega arith) ∙ ap (λ (i : ℕ). get_or (set l c v) i 0) e ∙ get_or-set_same l c v 0 (omega arith) ∙ cell l (c + 2) (j + 2) (omega arith))
    (λ e. closed_in k (c + 1) (set l c v) j (omega (arith, length-set l c v)) (omega arith) (omega arith) ∙ get_or-set_other l c (j + 2) v 0 (omega arith))

-- ---- a count of a stream and of the whole table goes up

-- what a register becomes where count c of stream i and of the whole table go up, and nothing else is touched
module _ (l : List ℕ) (i c : ℕ) where
  pub counting-length : length (counting i c l) ≡ length l
  counting-length = raised-length (totals_at + c) (raised (page_of i + c) l) ∙ raised-length (page_of i + c) l

  pub counting_other : (j : ℕ) → j ≢ page_of i + c → j ≢ totals_at + c → get_or (counting i c l) j 0 ≡ get_or l j 0
  counting_other j p q = raised_other (totals_at + c) (raised (page_of i + c) l) j q ∙ raised_other (page_of i + c) l j p

  pub counting-stream : i < stream_total → c < count_total → length l ≡ register_size → (a : ℕ) → a < count_total → get_or l (page_of i + a) 0 < most_count
      → get_or (counting i c l) (page_of i + a) 0 ≡ get_or l (page_of i + a) 0 + one_if (eqb a c)
  counting-stream h d z a n m =
      by_same a c
      (λ e. rw (one_same a c e) (
      raised_other (totals_at + c) (raised (page_of i + c) l) (page_of i + a) (omega arith)
      ∙ cell (raised (page_of i + c) l) (page_of i + a) (page_of i + c) (omega arith)
      ∙ raised-same (page_of i + c) l (omega arith) (omega (arith, cell l (page_of i + a) (page_of i + c) (omega arith)))
      ∙ omega (arith, cell l (page_of i + a) (page_of i + c) (omega arith))))
      (λ e. rw (one_other a c e) (counting_other (page_of i + a) (omega arith) (omega arith) ∙ omega arith))

  pub counting-table : i < stream_total → c < count_total → length l ≡ register_size → (a : ℕ) → a < count_total → get_or l (totals_at + a) 0 < most_count
      → get_or (counting i c l) (totals_at + a) 0 ≡ get_or l (totals_at + a) 0 + one_if (eqb a c)
  counting-table h d z a n m =
      by_same a c
      (λ e. rw (one_same a c e) (
      cell (counting i c l) (totals_at + a) (totals_at + c) (omega arith)
      ∙ raised-same (totals_at + c) (raised (page_of i + c) l) (omega (arith, raised-length (page_of i + c) l))
      (omega (arith, raised_other (page_of i + c) l (totals_at + c) (omega arith), cell l (totals_at + a) (totals_at + c) (omega arith)))
      ∙ omega (arith, raised_other (page_of i + c) l (totals_at + c) (omega arith), cell l (totals_at + a) (totals_at + c) (omega arith))))
      (λ e. rw (one_other a c e) (counting_other (totals_at + a) (omega arith) (omega arith) ∙ omega arith))
