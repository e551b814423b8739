-- Lines that say nothing change no opening, no count and no grant; nor do lines about other streams an opening or a count.
use Prim.Native.Nat.{ℕ}
use mathlib.Core.Path.{◌≡◌, refl, ap, ◌∙◌}
use mathlib.Core.Bool.{Bool, true, false, not}
use mathlib.Core.List.{List, [], ◌∷◌, map}
use Rattle.fates_book.specs.declared.End.{End}
use Rattle.fates_book.specs.declared.Line.{Line}
use Rattle.fates_book.specs.declared.Line.TheVariants.{Began, Came, Went, Given, Nothing}
use lib.Dec.{eqb}
use borrow.Author.Tests.{not-true, ne_eqb}
use Rattle.ledger.specs.Choice.{pick}
use Rattle.ledger.specs.Tally.{one_if, all_of}
use Rattle.ledger.proofs.Tallies.{both_of, to_both}
use Rattle.fates_book.specs.Lines.{telling}
use Rattle.fates_book.specs.Book.{Opening, mark, noted, on_newest, post, posts, count_of, bump, tally_line, tallies, grant_line, grant_by}

pub posts-telling : (s : ℕ) (ys : List Line) (b : List Opening) → posts s (telling ys) b ≡ posts s ys b
unfolding posts
posts-telling s [] b = refl
posts-telling s (Began i ∷ ys) b = posts-telling s ys (post s (Began i) b)
posts-telling s (Came i n ∷ ys) b = posts-telling s ys (post s (Came i n) b)
posts-telling s (Went i n e ∷ ys) b = posts-telling s ys (post s (Went i n e) b)
posts-telling s (Given i g ∷ ys) b = posts-telling s ys b
posts-telling s (Nothing ∷ ys) b = posts-telling s ys b

pub tally_telling : (k s : ℕ) (ys : List Line) (ts : List ℕ) → tallies k s (telling ys) ts ≡ tallies k s ys ts
unfolding tallies
tally_telling k s [] ts = refl
tally_telling k s (Began i ∷ ys) ts = tally_telling k s ys (tally_line k s (Began i) ts)
tally_telling k s (Came i n ∷ ys) ts = tally_telling k s ys (tally_line k s (Came i n) ts)
tally_telling k s (Went i n e ∷ ys) ts = tally_telling k s ys (tally_line k s (Went i n e) ts)
tally_telling k s (Given i g ∷ ys) ts = tally_telling k s ys ts
tally_telling k s (Nothing ∷ ys) ts = tally_telling k s ys ts

pub grant_telling : (s : ℕ) (ys : List Line) (g : ℕ) → grant_by s (telling ys) g ≡ grant_by s ys g
grant_telling s [] g = refl
grant_telling s (Began i ∷ ys) g = grant_telling s ys (grant_line s (Began i) g)
grant_telling s (Came i n ∷ ys) g = grant_telling s ys g
grant_telling s (Went i n e ∷ ys) g = grant_telling s ys g
grant_telling s (Given i n ∷ ys) g = grant_telling s ys (grant_line s (Given i n) g)
grant_telling s (Nothing ∷ ys) g = grant_telling s ys g

-- ---- lines about other streams

-- a line about an opening or an indication of stream s
abbrev pub concerns : ℕ → Line → Bool
concerns s (Began i) = eqb s i
concerns s (Came i n) = eqb s i
concerns s (Went i n e) = eqb s i
concerns s (Given i g) = false
concerns s Nothing = false

pub others_post : (s : ℕ) (ys : List Line) (b : List Opening) → all_of (λ (y : Line). not (concerns s y)) ys ≡ true → posts s ys b ≡ b
unfolding posts
others_post s [] b h = refl
others_post s (y ∷ ys) b h =
    let g : (not (concerns s y) ≡ true) × (all_of (λ (y : Line). not (concerns s y)) ys ≡ true) = both_of _ _ h in
    ap (posts s ys) (one y (not-true _ g.0)) ∙ others_post s ys b g.1
  where
    one : (y : Line) → concerns s y ≡ false → post s y b ≡ b
    one (Began i) e = ap (λ (q : Bool). pick q ([] ∷ b) b) e
    one (Came i n) e = ap (λ (q : Bool). pick q (on_newest (noted n) b) b) e
    one (Went i n f) e = ap (λ (q : Bool). pick q (on_newest (mark n f) b) b) e
    one (Given i g) e = refl
    one Nothing e = refl

pub others_tally : (k s : ℕ) (ys : List Line) (ts : List ℕ) → all_of (λ (y : Line). not (concerns s y)) ys ≡ true → tallies k s ys ts ≡ ts
unfolding tallies
others_tally k s [] ts h = refl
others_tally k s (y ∷ ys) ts h =
    let g : (not (concerns s y) ≡ true) × (all_of (λ (y : Line). not (concerns s y)) ys ≡ true) = both_of _ _ h in
    ap (tallies k s ys) (one y (not-true _ g.0)) ∙ others_tally k s ys ts g.1
  where
    one : (y : Line) → concerns s y ≡ false → tally_line k s y ts ≡ ts
    one (Began i) e = ap (λ (q : Bool). pick q (0 ∷ ts) ts) e
    one (Came i n) e = ap (λ (q : Bool). pick q (bump (one_if (eqb k 0)) ts) ts) e
    one (Went i n f) e = ap (λ (q : Bool). pick q (bump (one_if (eqb k (count_of f))) ts) ts) e
    one (Given i g) e = refl
    one Nothing e = refl

-- each of these is about stream s alone
pub none_ends : (i s : ℕ) (e : End) (w : List ℕ) → (i ≡ s → ⊥) → all_of (λ (y : Line). not (concerns i y)) (map (λ (n : ℕ). Went s n e) w) ≡ true
none_ends i s e [] d = refl
none_ends i s e (n ∷ w) d = to_both _ _ (ap not (ne_eqb i s d)) (none_ends i s e w d)

pub none_comes : (i s n : ℕ) → (i ≡ s → ⊥) → all_of (λ (y : Line). not (concerns i y)) (Came s n ∷ []) ≡ true
none_comes i s n d = to_both _ true (ap not (ne_eqb i s d)) refl
