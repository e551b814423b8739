-- Laws of digits: a number's are found from the last to the first, a byte's two at once.
use Prim.Native.Nat.{ℕ, zero, suc, ◌+◌, ◌-◌, ◌*◌, ◌/◌, ◌%◌, ◌^◌, ◌≤◌, ◌<◌}
use native.Mathlib.Omega.{arith}
use native.Mathlib.Numerals.{add-one}
use mathlib.Core.Path.{◌≡◌, refl, sym, ap, ◌∙◌}
use mathlib.Core.List.{List, [], ◌∷◌, ◌++◌, append_assoc, append-nil}
use lib.Dec.{ltb}
use lib.ListN.{length, get_or, set, take, drop, length-append, drop_of_length-le}
use lib.Seq.{take-suc}
use borrow.Author.Tests.{lt-ltb, le-ltb}
use Rattle.ledger.proofs.Tallies.{picked}
use Rattle.ledger.proofs.Lists.{set_begins}
use Rattle.text.specs.Digits.{digit, digits, most_digits, decimal, hex}

-- ---- decimal

-- a number has one digit fewer without its last
pub tenth : (k n : ℕ) → 1 ≤ k → n < 10 ^ k → n / 10 < 10 ^ (k - 1)
tenth zero n a h = omega arith
tenth (suc k) n a h =
    let e : suc k - 1 ≡ k = omega arith in
    rw e (omega (arith, h))

-- none stand there at first
pub digits_none : (n : ℕ) (l : List ℕ) → length l ≤ most_digits → digits most_digits n ++ drop most_digits l ≡ decimal n
unfolding decimal
digits_none n l h = ap (λ (r : List ℕ). digits most_digits n ++ r) (drop_of_length-le l h) ∙ append-nil (digits most_digits n)

-- one digit more before those that stand there already
pub digit-before : (k n : ℕ) (l : List ℕ) → 10 ≤ n → 1 ≤ k → k ≤ length l
    → digits (k - 1) (n / 10) ++ drop (k - 1) (set l (k - 1) (48 + n % 10)) ≡ digits k n ++ drop k l
unfolding digits
digit-before zero n l a b h = absurd (omega (arith, b))
digit-before (suc m) n l a b h =
    let e : suc m - 1 ≡ m = omega arith in
    rw (e, le-ltb n 10 a) (ap (λ (r : List ℕ). digits m (n / 10) ++ r) (set_begins l m (48 + n % 10) (omega arith))
    ∙ sym (append_assoc (digits m (n / 10)) ((48 + n % 10) ∷ []) (drop (suc m) l)))

-- the first digit before the others
pub digit-first : (k n : ℕ) (l : List ℕ) → n < 10 → 1 ≤ k → k ≤ length l → drop (k - 1) (set l (k - 1) (48 + n)) ≡ digits k n ++ drop k l
unfolding digits
digit-first zero n l a b h = absurd (omega (arith, b))
digit-first (suc m) n l a b h =
    let e : suc m - 1 ≡ m = omega arith in
    rw (e, lt-ltb n 10 a) (set_begins l m (48 + n) (omega arith))

-- a number has at most so many digits
digits-most : (k n : ℕ) → length (digits k n) ≤ k
unfolding digits
digits-most zero n = omega arith
digits-most (suc k) n =
    picked (λ (l : List ℕ). length l ≤ suc k) (ltb n 10) _ _
    (λ e. omega arith)
    (λ e. omega (arith, digits-most k (n / 10), length-append (digits k (n / 10)) ((48 + n % 10) ∷ [])))

pub decimal-most : (n : ℕ) → length (decimal n) ≤ most_digits
unfolding decimal
decimal-most n = digits-most most_digits n

-- ---- hex

-- two digits for each byte
pub hex-length : (l : List ℕ) → length (hex l) ≡ 2 * length l
hex-length [] = refl
hex-length (b ∷ l) = omega (arith, hex-length l)

hex_append : (l : List ℕ) (b : ℕ) → hex (l ++ (b ∷ [])) ≡ hex l ++ (digit (b / 16) ∷ digit (b % 16) ∷ [])
hex_append [] b = refl
hex_append (x ∷ l) b = ap (λ (r : List ℕ). digit (x / 16) ∷ digit (x % 16) ∷ r) (hex_append l b)

pub hex-next : (l : List ℕ) (i : ℕ) → i < length l → hex (take (i + 1) l) ≡ hex (take i l) ++ (digit (get_or l i 0 / 16) ∷ digit (get_or l i 0 % 16) ∷ [])
hex-next l i h = ap (λ (k : ℕ). hex (take k l)) (add-one i) ∙ ap hex (take-suc l i 0 h) ∙ hex_append (take i l) (get_or l i 0)
