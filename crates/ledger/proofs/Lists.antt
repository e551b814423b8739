-- The elements of a list by their places: a change is seen at its own place alone, and a list that is made has what made it.
use Prim.Native.Nat.{ℕ, zero, suc, ◌<◌, ◌+◌}
use mathlib.Core.Path.{◌≡◌, refl, ap, ◌∙◌, sym}
use mathlib.Core.List.{List, [], ◌∷◌, map, ◌++◌, append_assoc, append-nil}
use lib.ListN.{get_or, replicate, length, set, drop, length-set, take}
use native.Mathlib.Omega.{arith}
use lib.Seq.{drop-cons, drop-set-lt, get_or-set_same, get_or-append-add, ext_get_or}
use Rattle.ledger.specs.Lists.{listed, joined}

-- an element of a list through a function
pub map_at : {A B : Type 0} (f : A → B) (d : A) (l : List A) (k : ℕ) → get_or (map f l) k (f d) ≡ f (get_or l k d)
map_at f d [] k = refl
map_at f d (x ∷ l) zero = refl
map_at f d (x ∷ l) (suc k) = map_at f d l k

-- an element of the second of two lists
pub tail_at : (v u : List ℕ) (j k : ℕ) → j ≡ length v + k → get_or (v ++ u) j 0 ≡ get_or u k 0
tail_at v u j k e = ap (λ (n : ℕ). get_or (v ++ u) n 0) e ∙ get_or-append-add v u k 0

-- every element of a list of one value is that value
pub replicate-at : {A : Type 0} (n : ℕ) (x : A) (j : ℕ) → get_or (replicate n x) j x ≡ x
replicate-at zero x j = refl
replicate-at (suc n) x zero = refl
replicate-at (suc n) x (suc j) = replicate-at n x j

-- what stands from an element on that was just set
pub set_begins : (l : List ℕ) (m v : ℕ) → m < length l → drop m (set l m v) ≡ v ∷ drop (suc m) l
set_begins l m v h =
    drop-cons (set l m v) m 0 (simp length-set h)
    ∙ ap (λ (x : ℕ). x ∷ drop (suc m) (set l m v)) (get_or-set_same l m v 0 h)
    ∙ ap (λ (r : List ℕ). v ∷ r) (drop-set-lt (suc m) l m v (omega arith))

-- ---- what holds of each

module _ {A : Type 0} where
  -- what holds of each element holds with one set
  pub each_set : (P : A → Type 0) (l : List A) (k : ℕ) (x d : A) → ((i : ℕ) → P (get_or l i d)) → P x
      → (i : ℕ) → P (get_or (set l k x) i d)
  each_set P [] k x d h p i = h i
  each_set P (y ∷ l) zero x d h p zero = p
  each_set P (y ∷ l) zero x d h p (suc i) = h (suc i)
  each_set P (y ∷ l) (suc k) x d h p zero = h 0
  each_set P (y ∷ l) (suc k) x d h p (suc i) = each_set P l k x d (λ j. h (suc j)) p i

  -- with one more behind
  pub each_more : (P : A → Type 0) (l : List A) (x d : A) → ((i : ℕ) → P (get_or l i d)) → P x
      → (i : ℕ) → P (get_or (l ++ (x ∷ [])) i d)
  each_more P [] x d h p zero = p
  each_more P [] x d h p (suc i) = h i
  each_more P (y ∷ l) x d h p zero = h 0
  each_more P (y ∷ l) x d h p (suc i) = each_more P l x d (λ j. h (suc j)) p i

  -- of the first ones alone
  pub each_take : (P : A → Type 0) (n : ℕ) (l : List A) (d : A) → ((i : ℕ) → P (get_or l i d)) → P d
      → (i : ℕ) → P (get_or (take n l) i d)
  each_take P zero l d h p i = p
  each_take P (suc n) [] d h p i = p
  each_take P (suc n) (x ∷ l) d h p zero = h 0
  each_take P (suc n) (x ∷ l) d h p (suc i) = each_take P n l d (λ j. h (suc j)) p i

-- ---- a list that a function gives

module _ {A : Type 0} where
  -- its length
  pub listed-length : (f : ℕ → A) (i n : ℕ) → length (listed f i n) ≡ n
  listed-length f i zero = refl
  listed-length f i (suc n) = ap suc (listed-length f (suc i) n)

  -- its elements
  pub listed_at : (f : ℕ → A) (i n k : ℕ) (d : A) → k < n → get_or (listed f i n) k d ≡ f (i + k)
  listed_at f i zero k d h = absurd (omega arith)
  listed_at f i (suc n) zero d h = let e : i ≡ i + 0 = omega arith in ap f e
  listed_at f i (suc n) (suc k) d h =
      let e : suc i + k ≡ i + suc k = omega arith in
      listed_at f (suc i) n k d (omega arith) ∙ ap f e

  -- a list whose elements a function gives
  pub listed_back : (f : ℕ → A) (l : List A) (n : ℕ) (d : A) → length l ≡ n → ((k : ℕ) → k < n → f k ≡ get_or l k d) → listed f 0 n ≡ l
  listed_back f l n d e h =
      ext_get_or d (listed f 0 n) l (listed-length f 0 n ∙ sym e) λ k b.
      let c : k < n = omega (arith, listed-length f 0 n) in
      let z : 0 + k ≡ k = omega arith in
      listed_at f 0 n k d c ∙ ap f z ∙ h k c

  -- what holds of a function's values holds of each element
  pub each-listed : (P : A → Type 0) (f : ℕ → A) (i n : ℕ) (d : A) → ((k : ℕ) → k < i + n → P (f k)) → P d
      → (k : ℕ) → P (get_or (listed f i n) k d)
  each-listed P f i zero d h p k = p
  each-listed P f i (suc n) d h p zero = h i (omega arith)
  each-listed P f i (suc n) d h p (suc k) = each-listed P f (suc i) n d (λ j b. h j (omega arith)) p k

-- ---- pieces laid end to end

module _ {A B : Type 0} (f : A → List B) where
  -- of two lists
  pub joined_append : (l m : List A) → joined f (l ++ m) ≡ joined f l ++ joined f m
  joined_append [] m = refl
  joined_append (x ∷ l) m =
      ap (λ (r : List B). f x ++ r) (joined_append l m) ∙ sym (append_assoc (f x) (joined f l) (joined f m))

  -- one piece more
  pub joined-more : (l : List A) (x : A) → joined f (l ++ (x ∷ [])) ≡ joined f l ++ f x
  joined-more l x = joined_append l (x ∷ []) ∙ ap (λ (r : List B). joined f l ++ r) (append-nil (f x))

  -- an element replaced by one with the same piece
  pub joined-kept : (d : A) (l : List A) (k : ℕ) (x : A) → f x ≡ f (get_or l k d) → joined f (set l k x) ≡ joined f l
  joined-kept d [] k x e = refl
  joined-kept d (y ∷ l) zero x e = ap (λ (r : List B). r ++ joined f l) e
  joined-kept d (y ∷ l) (suc k) x e = ap (λ (r : List B). f y ++ r) (joined-kept d l k x e)
