-- The counts of the lines are the counts of the fates, and each indication is counted under one fate.
use Prim.Native.Nat.{ℕ, zero, suc, ◌+◌, ◌*◌, ◌<◌}
use mathlib.Core.Path.{◌≡◌, refl, sym, ap, ◌∙◌}
use mathlib.Core.Bool.{Bool, true, false}
use mathlib.Core.List.{List, [], ◌∷◌, map}
use lib.ListN.{length, get_or}
use lib.Dec.{eqb}
use native.Mathlib.Omega.{arith}
use borrow.Author.Tests.{ltb-true, eq-eqb}
use Rattle.ledger.specs.Choice.{pick}
use Rattle.ledger.specs.Tally.{one_if, occ, has, sum_of}
use Rattle.fates_book.specs.declared.End.{End}
use Rattle.fates_book.specs.declared.End.TheVariants.{Accepted, Denied, Withdrawn, Dropped}
use Rattle.fates_book.specs.declared.Line.{Line}
use Rattle.fates_book.specs.declared.Line.TheVariants.{Began, Came, Went, Given, Nothing}
use Rattle.fates_book.specs.Lines.{telling}
use Rattle.fates_book.proofs.Telling.{tally_telling}
use Rattle.fates_book.specs.Book.{Fate, still_open, met, Opening, is_still_open, count_of, open_of, mark, noted, newest, on_newest, post}
use Rattle.fates_book.specs.Book.{posts, bump, tally_line, tallies, counts_as, count_in, has_met, how_many, open_count, left_open}
use Rattle.ledger.proofs.Tallies.{both_of}
use Rattle.ledger.proofs.Sums.{pick_to}
use Rattle.fates_book.proofs.Shades.{shade, fair, fairs, open_post}

-- ---- one opening: exactly one of the four fates, or open
balance : (o : Opening) → count_in 0 o ≡ count_in 1 o + count_in 2 o + count_in 3 o + count_in 4 o + length (open_of o)
balance [] = refl
balance (e ∷ o) = go e.fate (balance o)
  where
    go : (q : Fate) → count_in 0 o ≡ count_in 1 o + count_in 2 o + count_in 3 o + count_in 4 o + length (open_of o)
        → counts_as 0 q + count_in 0 o
        ≡ counts_as 1 q + count_in 1 o + (counts_as 2 q + count_in 2 o) + (counts_as 3 q + count_in 3 o) + (counts_as 4 q + count_in 4 o)
        + length (pick (is_still_open q) (e.number ∷ open_of o) (open_of o))
    go still_open r = omega arith
    go (met Accepted) r = omega arith
    go (met Denied) r = omega arith
    go (met Withdrawn) r = omega arith
    go (met Dropped) r = omega arith

count_noted : (k n : ℕ) (o : Opening) → count_in k (noted n o) ≡ count_in k o + one_if (eqb k 0)
count_noted k n [] = omega arith
count_noted k n (e ∷ o) = omega (arith, count_noted k n o)

count_mark : (k n : ℕ) (f : End) (o : Opening) → 0 < occ n (open_of o) → count_in k (mark n f o) ≡ count_in k o + one_if (eqb k (count_of f))
count_mark k n f [] h = absurd (omega arith)
count_mark k n f (e ∷ o) h = go e.number e.fate h (count_mark k n f o)
  where
    go : (m : ℕ) (q : Fate) → 0 < occ n (open_of (record { number = m; fate = q } ∷ o)) → (0 < occ n (open_of o) → count_in k (mark n f o) ≡ count_in k o + one_if (eqb k (count_of f)))
        → count_in k (mark n f (record { number = m; fate = q } ∷ o)) ≡ count_in k (record { number = m; fate = q } ∷ o) + one_if (eqb k (count_of f))
    go m (met g) h r = omega (arith, r h)
    go m still_open h r = at_b (eqb n m) h
      where
        at_b : (b : Bool) → 0 < one_if b + occ n (open_of o)
            → count_in k (pick b (record { number = m; fate = met f } ∷ o) (record { number = m; fate = still_open } ∷ mark n f o)) ≡ one_if (eqb k 0) + count_in k o + one_if (eqb k (count_of f))
        at_b true h = omega arith
        at_b false h = omega (arith, r (omega arith))

-- count 0 is of all indications, each other one of those with its fate
pub indications-counted : (o : Opening) → count_in 0 o ≡ length o
indications-counted [] = refl
indications-counted (x ∷ o) = go x.fate (indications-counted o)
  where
    go : (f : Fate) → count_in 0 o ≡ length o → counts_as 0 f + count_in 0 o ≡ suc (length o)
    go still_open r = omega arith
    go (met Accepted) r = omega arith
    go (met Denied) r = omega arith
    go (met Withdrawn) r = omega arith
    go (met Dropped) r = omega arith

pub met-counted : (e : End) (o : Opening) → count_in (count_of e) o ≡ how_many e o
met-counted e [] = refl
met-counted e (x ∷ o) = go e x.fate (met-counted e o)
  where
    some : (e : End) → one_if (eqb (count_of e) 0) ≡ 0
    some Accepted = refl
    some Denied = refl
    some Withdrawn = refl
    some Dropped = refl

    go : (e : End) (f : Fate) → count_in (count_of e) o ≡ how_many e o → counts_as (count_of e) f + count_in (count_of e) o ≡ one_if (has_met e f) + how_many e o
    go e still_open r = omega (arith, some e, r)
    go e (met f) r = omega (arith, some e, r)

-- ---- a book

pub count_at : (k : ℕ) (b : List Opening) (j : ℕ) → get_or (map (count_in k) b) j 0 ≡ count_in k (get_or b j [])
count_at k [] j = refl
count_at k (o ∷ b) zero = refl
count_at k (o ∷ b) (suc j) = count_at k b j

count_front : (k d : ℕ) (g : Opening → Opening) (b : List Opening) → count_in k (g (newest b)) ≡ count_in k (newest b) + d → map (count_in k) (on_newest g b) ≡ bump d (map (count_in k) b)
count_front k d g [] e = ap (λ (m : ℕ). m ∷ []) (e ∙ omega arith)
count_front k d g (o ∷ b) e = ap (λ (m : ℕ). m ∷ map (count_in k) b) e

count_post : (k s : ℕ) (y : Line) (b : List Opening) → fair s y (open_of (newest b)) ≡ true → map (count_in k) (post s y b) ≡ tally_line k s y (map (count_in k) b)
count_post k s (Began i) b h = pick_to (map (count_in k)) (eqb s i) ([] ∷ b) b refl
count_post k s (Came i n) b h = pick_to (map (count_in k)) (eqb s i) (on_newest (noted n) b) b (count_front k (one_if (eqb k 0)) (noted n) b (count_noted k n (newest b)))
count_post k s (Went i n f) b h = go (eqb s i) h
  where
    go : (q : Bool) → pick q (has n (open_of (newest b))) true ≡ true
        → map (count_in k) (pick q (on_newest (mark n f) b) b) ≡ pick q (bump (one_if (eqb k (count_of f))) (map (count_in k) b)) (map (count_in k) b)
    go true h = count_front k (one_if (eqb k (count_of f))) (mark n f) b (count_mark k n f (newest b) (ltb-true 0 (occ n (open_of (newest b))) h))
    go false h = refl
count_post k s (Given i g) b h = refl
count_post k s Nothing b h = refl

pub count_posts : (k s : ℕ) (ys : List Line) (b : List Opening) → fairs s ys (open_of (newest b)) ≡ true → map (count_in k) (posts s ys b) ≡ tallies k s ys (map (count_in k) b)
unfolding posts tallies
count_posts k s [] b h = refl
count_posts k s (y ∷ ys) b h =
    let h' : (fair s y (open_of (newest b)) ≡ true) × (fairs s ys (shade s y (open_of (newest b))) ≡ true) = both_of _ _ h in
    count_posts k s ys (post s y b) (ap (fairs s ys) (open_post s y b) ∙ h'.1) ∙ ap (tallies k s ys) (count_post k s y b h'.0)

-- ---- each opening, the newest first
pub sums : (b : List Opening) (j : ℕ)
    → get_or (map (count_in 0) b) j 0 ≡ get_or (map (count_in 1) b) j 0 + get_or (map (count_in 2) b) j 0 + get_or (map (count_in 3) b) j 0 + get_or (map (count_in 4) b) j 0 + open_count (get_or b j [])
sums [] j = refl
sums (o ∷ b) zero = balance o
sums (o ∷ b) (suc j) = sums b j

none_open : (b : List Opening) → sum_of open_count b ≡ 0 → (j : ℕ) → open_count (get_or b j []) ≡ 0
none_open [] z j = refl
none_open (o ∷ b) z zero = omega arith
none_open (o ∷ b) z (suc j) = none_open b (omega arith) j

pub none_left : (b : List Opening) → left_open b ≡ 0 → (j : ℕ) → open_count (get_or b (suc j) []) ≡ 0
none_left [] z j = refl
none_left (o ∷ b) z j = none_open b z j

-- ---- what a call's lines add to the counts of the newest opening

pub bump-first : (n : ℕ) (ts : List ℕ) → get_or (bump n ts) 0 0 ≡ get_or ts 0 0 + n
bump-first n [] = omega arith
bump-first n (k ∷ ks) = refl

-- the end of each of some numbers adds one for each, to the count of that end alone
pub ends-counted : (k s : ℕ) (e : End) (w : List ℕ) (ys : List Line) (ts : List ℕ) → telling ys ≡ map (λ (n : ℕ). Went s n e) w
    → get_or (tallies k s ys ts) 0 0 ≡ get_or ts 0 0 + one_if (eqb k (count_of e)) * length w
unfolding tallies
ends-counted k s e w ys ts h = ap (λ (l : List ℕ). get_or l 0 0) (sym (tally_telling k s ys ts) ∙ ap (λ (zs : List Line). tallies k s zs ts) h) ∙ go w ts
  where
    go : (w ts : List ℕ) → get_or (tallies k s (map (λ (n : ℕ). Went s n e) w) ts) 0 0 ≡ get_or ts 0 0 + one_if (eqb k (count_of e)) * length w
    go [] ts = omega arith
    go (n ∷ w) ts =
        ap (λ (b : Bool). get_or (tallies k s (map (λ (n : ℕ). Went s n e) w) (pick b (bump (one_if (eqb k (count_of e))) ts) ts)) 0 0) (eq-eqb s s refl)
        ∙ go w (bump (one_if (eqb k (count_of e))) ts) ∙ omega (arith, bump-first (one_if (eqb k (count_of e))) ts)

-- an indication that comes adds one, to the count of all
pub ring_counted : (k s n : ℕ) (ys : List Line) (ts : List ℕ) → telling ys ≡ Came s n ∷ [] → get_or (tallies k s ys ts) 0 0 ≡ get_or ts 0 0 + one_if (eqb k 0)
unfolding tallies
ring_counted k s n ys ts h =
    ap (λ (l : List ℕ). get_or l 0 0) (sym (tally_telling k s ys ts) ∙ ap (λ (zs : List Line). tallies k s zs ts) h)
    ∙ ap (λ (b : Bool). get_or (pick b (bump (one_if (eqb k 0)) ts) ts) 0 0) (eq-eqb s s refl) ∙ bump-first (one_if (eqb k 0)) ts
