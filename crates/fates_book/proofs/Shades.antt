-- What a line of the history does to the open numbers of a stream, and that the book follows it.
use Prim.Native.Nat.{ℕ, zero, suc, ◌+◌, ◌≤◌, ◌<◌}
use mathlib.Core.Path.{◌≡◌, refl, ap, ◌∙◌}
use mathlib.Core.Bool.{Bool, true, false}
use mathlib.Core.List.{List, [], ◌∷◌, ◌++◌, map}
use lib.ListN.{length}
use lib.Dec.{eqb, ltb}
use native.Mathlib.Omega.{arith}
use borrow.Author.Tests.{eqb-true, eq-eqb, ltb-true, lt-ltb}
use Rattle.ledger.specs.Choice.{pick, both}
use Rattle.ledger.specs.Tally.{one_if, occ, has, without}
use Rattle.ledger.proofs.Tallies.{both_of, to_both, picked}
use Rattle.fates_book.specs.declared.End.{End}
use Rattle.fates_book.specs.declared.Line.{Line}
use Rattle.fates_book.specs.declared.Line.TheVariants.{Began, Came, Went, Given, Nothing}
use Rattle.fates_book.specs.Book.{grant_line, grant_by, Fate, still_open, met, Opening, is_still_open, open_of, mark, noted, newest, earlier, on_newest, post, posts, left_open, tallies, tally_line}
use Rattle.ledger.proofs.Sums.{pick_to}
use Rattle.paper.specs.Saps.{most_open}

-- the open numbers of stream s after a line
abbrev pub shade : ℕ → Line → List ℕ → List ℕ
shade s (Began i) w = pick (eqb s i) [] w
shade s (Came i n) w = pick (eqb s i) (w ++ (n ∷ [])) w
shade s (Went i n f) w = pick (eqb s i) (without n w) w
shade s (Given i g) w = w
shade s Nothing w = w

abbrev pub shades : ℕ → List Line → List ℕ → List ℕ
shades s [] w = w
shades s (y ∷ ys) w = shades s ys (shade s y w)

-- a line that a provider may write: an opening begins with none open, one comes where fewer than 8 are open, and only an open
-- number meets its end
abbrev pub fair : ℕ → Line → List ℕ → Bool
fair s (Began i) w = pick (eqb s i) (eqb (length w) 0) true
fair s (Came i n) w = pick (eqb s i) (ltb (length w) most_open) true
fair s (Went i n f) w = pick (eqb s i) (has n w) true
fair s (Given i g) w = true
fair s Nothing w = true

abbrev pub fairs : ℕ → List Line → List ℕ → Bool
fairs s [] w = true
fairs s (y ∷ ys) w = both (fair s y w) (fairs s ys (shade s y w))

-- how often stream s was opened after a line, and that an indication comes to an opening
abbrev pub openings : ℕ → Line → ℕ → ℕ
openings s (Began i) k = pick (eqb s i) (suc k) k
openings s (Came i n) k = k
openings s (Went i n e) k = k
openings s (Given i g) k = k
openings s Nothing k = k

abbrev pub openings_in : ℕ → List Line → ℕ → ℕ
openings_in s [] k = k
openings_in s (y ∷ ys) k = openings_in s ys (openings s y k)

abbrev pub rooted : ℕ → Line → ℕ → Bool
rooted s (Began i) k = true
rooted s (Came i n) k = pick (eqb s i) (ltb 0 k) true
rooted s (Went i n e) k = true
rooted s (Given i g) k = true
rooted s Nothing k = true

abbrev pub rooteds : ℕ → List Line → ℕ → Bool
rooteds s [] k = true
rooteds s (y ∷ ys) k = both (rooted s y k) (rooteds s ys (openings s y k))

nonzero : (n : ℕ) → one_if (eqb 0 n) ≡ 0 → 0 < n
nonzero zero e = absurd (omega arith)
nonzero (suc n) e = omega arith

-- ---- one opening
pub open_mark : (n : ℕ) (f : End) (l : Opening) → open_of (mark n f l) ≡ without n (open_of l)
open_mark n f [] = refl
open_mark n f (e ∷ l) = go e.number e.fate (open_mark n f l)
  where
    go : (m : ℕ) (q : Fate) → open_of (mark n f l) ≡ without n (open_of l)
        → open_of (mark n f (record { number = m; fate = q } ∷ l)) ≡ without n (open_of (record { number = m; fate = q } ∷ l))
    go m (met g) r = r
    go m still_open r = at_b (eqb n m)
      where
        at_b : (b : Bool) → open_of (pick b (record { number = m; fate = met f } ∷ l) (record { number = m; fate = still_open } ∷ mark n f l)) ≡ pick b (open_of l) (m ∷ without n (open_of l))
        at_b true = refl
        at_b false = ap (λ (k : List ℕ). m ∷ k) r

pub open_noted : (n : ℕ) (l : Opening) → open_of (noted n l) ≡ open_of l ++ (n ∷ [])
open_noted n [] = refl
open_noted n (e ∷ l) = go (is_still_open e.fate) (open_noted n l)
  where
    go : (b : Bool) → open_of (noted n l) ≡ open_of l ++ (n ∷ []) → pick b (e.number ∷ open_of (noted n l)) (open_of (noted n l)) ≡ pick b (e.number ∷ open_of l) (open_of l) ++ (n ∷ [])
    go true r = ap (λ (k : List ℕ). e.number ∷ k) r
    go false r = r

-- ---- a book
open_front : (g : Opening → Opening) (h : List ℕ → List ℕ) → ((o : Opening) → open_of (g o) ≡ h (open_of o)) → (b : List Opening) → open_of (newest (on_newest g b)) ≡ h (open_of (newest b))
open_front g h e [] = e []
open_front g h e (o ∷ b) = e o

pub open_post : (s : ℕ) (y : Line) (b : List Opening) → open_of (newest (post s y b)) ≡ shade s y (open_of (newest b))
open_post s (Began i) b = pick_to (λ (b : List Opening). open_of (newest b)) (eqb s i) ([] ∷ b) b refl
open_post s (Came i n) b = pick_to (λ (b : List Opening). open_of (newest b)) (eqb s i) (on_newest (noted n) b) b (open_front (noted n) (λ (w : List ℕ). w ++ (n ∷ [])) (open_noted n) b)
open_post s (Went i n f) b = pick_to (λ (b : List Opening). open_of (newest b)) (eqb s i) (on_newest (mark n f) b) b (open_front (mark n f) (without n) (open_mark n f) b)
open_post s (Given i g) b = refl
open_post s Nothing b = refl

pub open_posts : (s : ℕ) (ys : List Line) (b : List Opening) → open_of (newest (posts s ys b)) ≡ shades s ys (open_of (newest b))
unfolding posts
open_posts s [] b = refl
open_posts s (y ∷ ys) b = open_posts s ys (post s y b) ∙ ap (shades s ys) (open_post s y b)

-- ---- what is left open in earlier openings: nothing, by fair lines
left_front : (g : Opening → Opening) (b : List Opening) → left_open (on_newest g b) ≡ left_open b
left_front g [] = refl
left_front g (o ∷ b) = refl

left_began : (b : List Opening) → left_open ([] ∷ b) ≡ length (open_of (newest b)) + left_open b
left_began [] = refl
left_began (o ∷ b) = refl

left_post : (s : ℕ) (y : Line) (b : List Opening) → fair s y (open_of (newest b)) ≡ true → left_open b ≡ 0 → left_open (post s y b) ≡ 0
left_post s (Began i) b h z = go (eqb s i) h
  where
    go : (q : Bool) → pick q (eqb (length (open_of (newest b))) 0) true ≡ true → left_open (pick q ([] ∷ b) b) ≡ 0
    go true h = left_began b ∙ omega (arith, eqb-true (length (open_of (newest b))) 0 h, z)
    go false h = z
left_post s (Came i n) b h z = picked (λ (b : List Opening). left_open b ≡ 0) (eqb s i) _ _ (λ e. left_front (noted n) b ∙ z) (λ e. z)
left_post s (Went i n f) b h z = picked (λ (b : List Opening). left_open b ≡ 0) (eqb s i) _ _ (λ e. left_front (mark n f) b ∙ z) (λ e. z)
left_post s (Given i g) b h z = z
left_post s Nothing b h z = z

pub left-posts : (s : ℕ) (ys : List Line) (b : List Opening) → fairs s ys (open_of (newest b)) ≡ true → left_open b ≡ 0 → left_open (posts s ys b) ≡ 0
unfolding posts
left-posts s [] b h z = z
left-posts s (y ∷ ys) b h z =
    let h' : (fair s y (open_of (newest b)) ≡ true) × (fairs s ys (shade s y (open_of (newest b))) ≡ true) = both_of _ _ h in
    left-posts s ys (post s y b) (ap (fairs s ys) (open_post s y b) ∙ h'.1) (left_post s y b h'.0 z)

-- ---- lines that say nothing
abbrev pub is_nothing : Line → Bool
is_nothing (Began i) = false
is_nothing (Came i n) = false
is_nothing (Went i n e) = false
is_nothing (Given i n) = false
is_nothing Nothing = true

abbrev pub silent : List Line → Bool
silent [] = true
silent (y ∷ ys) = both (is_nothing y) (silent ys)

pub record Silent (ys : List Line) : Type 0 where
  pub same : (s : ℕ) (w : List ℕ) → shades s ys w ≡ w
  pub fairly : (s : ℕ) (w : List ℕ) → fairs s ys w ≡ true
  pub grant : (s g : ℕ) → grant_by s ys g ≡ g
  pub rootedly : (s k : ℕ) → rooteds s ys k ≡ true
  pub opens : (s k : ℕ) → openings_in s ys k ≡ k

pub silence : (ys : List Line) → silent ys ≡ true → Silent ys
silence [] h = record { same = λ s w. refl; fairly = λ s w. refl; grant = λ s g. refl; rootedly = λ s k. refl; opens = λ s k. refl }
silence (Began i ∷ ys) h = absurd (let z : ◌≡◌ {A = ℕ} 0 1 = cc in omega arith)
silence (Came i n ∷ ys) h = absurd (let z : ◌≡◌ {A = ℕ} 0 1 = cc in omega arith)
silence (Went i n f ∷ ys) h = absurd (let z : ◌≡◌ {A = ℕ} 0 1 = cc in omega arith)
silence (Given i n ∷ ys) h = absurd (let z : ◌≡◌ {A = ℕ} 0 1 = cc in omega arith)
silence (Nothing ∷ ys) h = let r : Silent ys = silence ys h in record { same = r.same; fairly = r.fairly; grant = r.grant; rootedly = r.rootedly; opens = r.opens }

-- ---- lines that take all numbers off stream i, oldest first
pub record Taken (s i : ℕ) (ys : List Line) (w v : List ℕ) : Type 0 where
  pub left : shades s ys w ≡ v
  pub fairly : fairs s ys w ≡ true
  pub rootedly : (k : ℕ) → rooteds s ys k ≡ true
  pub opens : (k : ℕ) → openings_in s ys k ≡ k

taken_more : (s i n : ℕ) (f : End) (y : Line) (ys : List Line) (w u v : List ℕ) → y ≡ Went i n f → pick (eqb s i) (without n w) w ≡ u
    → pick (eqb s i) (has n w) true ≡ true → Taken s i ys u v → Taken s i (y ∷ ys) w v
taken_more s i n f y ys w u v d e h r = record {
  left = ap (λ (y : Line). shades s ys (shade s y w)) d ∙ ap (shades s ys) e ∙ r.left;
  fairly = to_both _ _ (ap (λ (y : Line). fair s y w) d ∙ h) (ap (λ (y : Line). fairs s ys (shade s y w)) d ∙ ap (fairs s ys) e ∙ r.fairly);
  rootedly = λ k. to_both _ _ (ap (λ (y : Line). rooted s y k) d) (ap (λ (y : Line). rooteds s ys (openings s y k)) d ∙ r.rootedly k);
  opens = λ k. ap (λ (y : Line). openings_in s ys (openings s y k)) d ∙ r.opens k;
}

module _ (i : ℕ) (f : End) (g : ℕ → Line) (d : (n : ℕ) → 0 < n → g n ≡ Went i n f) where
  pub emptied : (s : ℕ) → eqb s i ≡ true → (l : List ℕ) → occ 0 l ≡ 0 → Taken s i (map g l) l []
  emptied s e [] z = record { left = refl; fairly = refl; rootedly = λ k. refl; opens = λ k. refl }
  emptied s e (n ∷ l) z =
      let m : eqb n n ≡ true = eq-eqb n n refl in
      taken_more s i n f (g n) (map g l) (n ∷ l) l [] (d n (nonzero n (omega arith))) (rw (e, m)) (rw e (lt-ltb 0 (occ n (n ∷ l)) (rw m (omega arith)))) (emptied s e l (omega arith))

  pub untouched : (s : ℕ) → eqb s i ≡ false → (l w : List ℕ) → occ 0 l ≡ 0 → Taken s i (map g l) w w
  untouched s e [] w z = record { left = refl; fairly = refl; rootedly = λ k. refl; opens = λ k. refl }
  untouched s e (n ∷ l) w z = taken_more s i n f (g n) (map g l) w w w (d n (nonzero n (omega arith))) (rw e) (rw e) (untouched s e l w (omega arith))

  pub ungranted : (s a : ℕ) (l : List ℕ) → occ 0 l ≡ 0 → grant_by s (map g l) a ≡ a
  ungranted s a [] z = refl
  ungranted s a (n ∷ l) z = ap (λ (y : Line). grant_by s (map g l) (grant_line s y a)) (d n (nonzero n (omega arith))) ∙ ungranted s a l (omega arith)

-- ---- lines one after the other
pub posts_append : (s : ℕ) (xs ys : List Line) (b : List Opening) → posts s (xs ++ ys) b ≡ posts s ys (posts s xs b)
unfolding posts
posts_append s [] ys b = refl
posts_append s (x ∷ xs) ys b = posts_append s xs ys (post s x b)

pub tallies_append : (k s : ℕ) (xs ys : List Line) (ts : List ℕ) → tallies k s (xs ++ ys) ts ≡ tallies k s ys (tallies k s xs ts)
unfolding tallies
tallies_append k s [] ys ts = refl
tallies_append k s (x ∷ xs) ys ts = tallies_append k s xs ys (tally_line k s x ts)

pub grant_append : (s : ℕ) (xs ys : List Line) (g : ℕ) → grant_by s (xs ++ ys) g ≡ grant_by s ys (grant_by s xs g)
grant_append s [] ys g = refl
grant_append s (x ∷ xs) ys g = grant_append s xs ys (grant_line s x g)

pub fairs_append : (s : ℕ) (xs ys : List Line) (w : List ℕ) → fairs s xs w ≡ true → fairs s ys (shades s xs w) ≡ true → fairs s (xs ++ ys) w ≡ true
fairs_append s [] ys w h g = g
fairs_append s (x ∷ xs) ys w h g =
    let h' : (fair s x w ≡ true) × (fairs s xs (shade s x w) ≡ true) = both_of _ _ h in
    to_both _ _ h'.0 (fairs_append s xs ys (shade s x w) h'.1 g)

pub rooteds_append : (s : ℕ) (xs ys : List Line) (k : ℕ) → rooteds s xs k ≡ true → rooteds s ys (openings_in s xs k) ≡ true → rooteds s (xs ++ ys) k ≡ true
rooteds_append s [] ys k h g = g
rooteds_append s (x ∷ xs) ys k h g =
    let h' : (rooted s x k ≡ true) × (rooteds s xs (openings s x k) ≡ true) = both_of _ _ h in
    to_both _ _ h'.0 (rooteds_append s xs ys (openings s x k) h'.1 g)

-- where fair lines end a number, it was open
pub went_open : (s n : ℕ) (e : End) (xs ys : List Line) (w : List ℕ) → fairs s (xs ++ (Went s n e ∷ ys)) w ≡ true → has n (shades s xs w) ≡ true
went_open s n e [] ys w h =
    let f : pick (eqb s s) (has n w) true ≡ true = (both_of _ _ h).0 in
    rw (eq-eqb s s refl) at f
went_open s n e (x ∷ xs) ys w h =
    let f : (fair s x w ≡ true) × (fairs s (xs ++ (Went s n e ∷ ys)) (shade s x w) ≡ true) = both_of _ _ h in
    went_open s n e xs ys (shade s x w) f.1

-- ---- as many openings as were begun

pub openings_append : (s : ℕ) (xs ys : List Line) (k : ℕ) → openings_in s (xs ++ ys) k ≡ openings_in s ys (openings_in s xs k)
openings_append s [] ys k = refl
openings_append s (x ∷ xs) ys k = openings_append s xs ys (openings s x k)

length_front : (g : Opening → Opening) (b : List Opening) → 0 < length b → length (on_newest g b) ≡ length b
length_front g [] h = absurd (omega arith)
length_front g (o ∷ b) h = refl

-- where one of the newest opening is open, there is one
pub opening_there : (n : ℕ) (b : List Opening) → 0 < occ n (open_of (newest b)) → 0 < length b
opening_there n [] h = absurd (omega arith)
opening_there n (o ∷ b) h = omega arith

-- only the beginning of an opening adds one
pub length-post : (s : ℕ) (y : Line) (b : List Opening) → fair s y (open_of (newest b)) ≡ true → rooted s y (length b) ≡ true → length (post s y b) ≡ openings s y (length b)
length-post s (Began i) b f r = pick_to length (eqb s i) ([] ∷ b) b refl
length-post s (Came i n) b f r = go (eqb s i) r
  where
    go : (q : Bool) → pick q (ltb 0 (length b)) true ≡ true → length (pick q (on_newest (noted n) b) b) ≡ length b
    go true h = length_front (noted n) b (ltb-true _ _ h)
    go false h = refl
length-post s (Went i n e) b f r = go (eqb s i) f
  where
    go : (q : Bool) → pick q (has n (open_of (newest b))) true ≡ true → length (pick q (on_newest (mark n e) b) b) ≡ length b
    go true h = length_front (mark n e) b (opening_there n b (ltb-true _ _ h))
    go false h = refl
length-post s (Given i g) b f r = refl
length-post s Nothing b f r = refl

pub length-posts : (s : ℕ) (ys : List Line) (b : List Opening) → fairs s ys (open_of (newest b)) ≡ true → rooteds s ys (length b) ≡ true → length (posts s ys b) ≡ openings_in s ys (length b)
unfolding posts
length-posts s [] b f r = refl
length-posts s (y ∷ ys) b f r =
    let f' : (fair s y (open_of (newest b)) ≡ true) × (fairs s ys (shade s y (open_of (newest b))) ≡ true) = both_of _ _ f in
    let r' : (rooted s y (length b) ≡ true) × (rooteds s ys (openings s y (length b)) ≡ true) = both_of _ _ r in
    let l : length (post s y b) ≡ openings s y (length b) = length-post s y b f'.0 r'.0 in
    length-posts s ys (post s y b) (ap (fairs s ys) (open_post s y b) ∙ f'.1) (ap (rooteds s ys) l ∙ r'.1) ∙ ap (openings_in s ys) l

-- ---- where none is begun, the openings before the newest stay

grows : (s : ℕ) (ys : List Line) (k : ℕ) → k ≤ openings_in s ys k
grows s [] k = omega arith
grows s (Began i ∷ ys) k = omega (arith, grows s ys (openings s (Began i) k), picked (λ (m : ℕ). k ≤ m) (eqb s i) (suc k) k (λ e. omega arith) (λ e. omega arith))
grows s (Came i n ∷ ys) k = grows s ys k
grows s (Went i n e ∷ ys) k = grows s ys k
grows s (Given i g ∷ ys) k = grows s ys k
grows s (Nothing ∷ ys) k = grows s ys k

earlier_front : (g : Opening → Opening) (b : List Opening) → earlier (on_newest g b) ≡ earlier b
earlier_front g [] = refl
earlier_front g (o ∷ b) = refl

pub earlier-posts : (s : ℕ) (ys : List Line) (b : List Opening) → openings_in s ys 0 ≡ 0 → earlier (posts s ys b) ≡ earlier b
unfolding posts
earlier-posts s [] b h = refl
earlier-posts s (Began i ∷ ys) b h = go (eqb s i) h (λ z. earlier-posts s ys b z)
  where
    go : (q : Bool) → openings_in s ys (pick q 1 0) ≡ 0 → (openings_in s ys 0 ≡ 0 → earlier (posts s ys b) ≡ earlier b) → earlier (posts s ys (pick q ([] ∷ b) b)) ≡ earlier b
    go true h r = absurd (omega (arith, h, grows s ys 1))
    go false h r = r h
earlier-posts s (Came i n ∷ ys) b h = earlier-posts s ys (post s (Came i n) b) h ∙ picked (λ (d : List Opening). earlier d ≡ earlier b) (eqb s i) _ _ (λ e. earlier_front (noted n) b) (λ e. refl)
earlier-posts s (Went i n e ∷ ys) b h = earlier-posts s ys (post s (Went i n e) b) h ∙ picked (λ (d : List Opening). earlier d ≡ earlier b) (eqb s i) _ _ (λ f. earlier_front (mark n e) b) (λ f. refl)
earlier-posts s (Given i g ∷ ys) b h = earlier-posts s ys b h
earlier-posts s (Nothing ∷ ys) b h = earlier-posts s ys b h
