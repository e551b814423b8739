-- Runs of bytes, by what stands before a place and what from it on: tests of them, parts, a run over a list, bytes over the start of
-- a room.
use Prim.Native.Nat.{ℕ, zero, suc, ◌+◌, ◌<◌, ◌≤◌, ◌-◌}
use mathlib.Core.Path.{◌≡◌, refl, ap₂, sym, ap, ◌∙◌}
use mathlib.Core.Bool.{true, ◌&&◌, and_assoc, and-true}
use mathlib.Core.List.{List, [], ◌∷◌, ◌++◌, append_assoc, append-nil}
use lib.Dec.{eqb, eqb-suc-zero, ltb}
use borrow.Author.Tests.{eqb-true, ne_eqb, ltb-true, lt-ltb}
use lib.ListN.{length, replicate, get_or, drop, take, drop_of_length-le, length-drop, length-take, length-append}
use native.Mathlib.Omega.{arith}
use lib.Bits.{bit_or, or_add_and, and_le_r}
use lib.Seq.{take_all, length-take-le, get_or-drop, take-add, drop-drop, get_or-take, drop_at, take_at, take-take}
use borrow.Rule.Slice.PartMut.{put_mid, post_of, mid_of}
use native.Mathlib.Nat.{zero-add}
use Rattle.std.specs.List.{fold}
use Rattle.std.proofs.lemmas.Bool.{and_parts}
use Rattle.octets.specs.Runs.{all_zero, part, Bytes, paste, over, are_bytes}
use Rattle.ledger.proofs.Lists.{each_take}
use Rattle.ledger.proofs.Tallies.{all_at, at_all}

-- ---- tests of runs

-- a run that passes the test for zeros is one of zeros
pub zero-replicate : (l : List ℕ) → all_zero l ≡ true → l ≡ replicate (length l) 0
zero-replicate [] h = refl
zero-replicate (x ∷ l) h =
    let t = and_parts (eqb x 0) (all_zero l) h in
    ap₂ (λ (z : ℕ) (r : List ℕ). z ∷ r) (eqb-true x 0 t.0) (zero-replicate l t.1)

-- two numbers joined by `|` are 0 exactly if both are
or_zero : (x y : ℕ) → eqb (bit_or x y) 0 ≡ eqb x 0 && eqb y 0
or_zero zero y = refl
or_zero (suc x) y = rw (eqb-suc-zero x) (ne_eqb (bit_or (suc x) y) 0 (λ e. omega (arith, or_add_and (suc x) y, and_le_r (suc x) y)))

-- so are any number of them
pub zero_fold : (any : ℕ) (s : List ℕ) → eqb (fold bit_or any s) 0 ≡ eqb any 0 && all_zero s
zero_fold any [] = sym (and-true (eqb any 0))
zero_fold any (x ∷ s) = zero_fold (bit_or any x) s ∙ rw (or_zero any x) (and_assoc (eqb any 0) (eqb x 0) (all_zero s))

-- bytes, by the test and place by place
pub of_are_bytes : (l : List ℕ) → are_bytes l ≡ true → Bytes l
of_are_bytes l h k = ltb-true _ _ (all_at (λ (n : ℕ). ltb n 256) 0 refl l h k)

pub to_are_bytes : (l : List ℕ) → Bytes l → are_bytes l ≡ true
to_are_bytes l h = at_all (λ (n : ℕ). ltb n 256) 0 l (λ k. lt-ltb _ _ (h k))

-- zeros are bytes
pub zero-bytes : (n : ℕ) → Bytes (replicate n 0)
zero-bytes zero j = omega arith
zero-bytes (suc n) zero = omega arith
zero-bytes (suc n) (suc j) = zero-bytes n j

-- the first of a run of zeros are zero
pub zeros_pass : (k n : ℕ) (r : List ℕ) → k ≤ n → all_zero (take k (replicate n 0 ++ r)) ≡ true
zeros_pass zero n r h = refl
zeros_pass (suc k) zero r h = absurd (omega arith)
zeros_pass (suc k) (suc n) r h = zeros_pass k n r (omega arith)

-- ---- a part of a list

-- a part is no longer than asked for
pub part-most : (s : List ℕ) (at n : ℕ) → length (part s at n) ≤ n
part-most s at n = omega (arith, length-take n (drop at s))

-- a part that lies inside is as long as asked for
pub part_length : (c : List ℕ) (at n : ℕ) → at + n ≤ length c → length (part c at n) ≡ n
part_length c at n h = length-take-le n (drop at c) (omega (arith, length-drop at c))

-- a part of bytes is bytes
pub part_bytes : (c : List ℕ) (at n : ℕ) → Bytes c → Bytes (part c at n)
part_bytes c at n h = each_take (λ (x : ℕ). x < 256) n (drop at c) 0 (λ k. rw get_or-drop (h (at + k))) (omega arith)

-- a part as two
pub part_add : (c : List ℕ) (at n m : ℕ) → part c at (n + m) ≡ part c at n ++ part c (at + n) m
part_add c at n m = take-add n m (drop at c) ∙ ap (λ (r : List ℕ). part c at n ++ take m r) (drop-drop n at c)

-- a byte of a part, which is byte m of the whole
pub part_byte : (c : List ℕ) (at n k m : ℕ) → k < n → at + k ≡ m → get_or (part c at n) k 0 ≡ get_or c m 0
part_byte c at n k m h e = get_or-take n (drop at c) k 0 h ∙ get_or-drop at c k 0 ∙ ap (λ (j : ℕ). get_or c j 0) e

-- what stands before a part that was lent is kept
pub kept-before : (x y : List ℕ) (k m n : ℕ) → k ≤ length x → k ≤ n → take k (take n (put_mid k m x y)) ≡ take k x
kept-before x y k m n h g =
    take-take k n (put_mid k m x y) g ∙ take_at (take k x) (y ++ post_of k m x) k (length-take-le k x h)

-- ---- a run over a list from a place on

-- the length of what stands before its end
paste_front : (b : List ℕ) (at : ℕ) (s : List ℕ) → at ≤ length b → length (take at b ++ s) ≡ at + length s
paste_front b at s h = omega (arith, length-append (take at b) s, length-take-le at b h)

-- the length is kept
pub paste-length : (b : List ℕ) (at : ℕ) (s : List ℕ) → at + length s ≤ length b → length (paste b at s) ≡ length b
paste-length b at s h =
    let f : length (take at b ++ s) ≡ at + length s = paste_front b at s (omega arith) in
    omega (arith, length-append (take at b ++ s) (drop (at + length s) b), length-drop (at + length s) b)

-- all behind it is kept
paste_rest : (b : List ℕ) (at : ℕ) (s : List ℕ) (k : ℕ) → at ≤ length b → drop (at + length s + k) (paste b at s) ≡ drop (at + length s + k) b
paste_rest b at s k h =
    sym (drop-drop k (at + length s) (paste b at s))
    ∙ ap (drop k) (drop_at (take at b ++ s) (drop (at + length s) b) (at + length s) (paste_front b at s h))
    ∙ drop-drop k (at + length s) b

-- two runs, one behind the other
pub paste_join : (b : List ℕ) (at : ℕ) (s r : List ℕ) → at ≤ length b → paste b at (s ++ r) ≡ paste (paste b at s) (at + length s) r
paste_join b at s r h =
    let n : at + length (s ++ r) ≡ at + length s + length r = omega (arith, length-append s r) in
    rw (take_at (take at b ++ s) (drop (at + length s) b) (at + length s) (paste_front b at s h), paste_rest b at s (length r) h, append_assoc (take at b) s r, n)

-- a run over the whole list
pub paste-whole : (b s : List ℕ) → length b ≤ length s → paste b 0 s ≡ s
paste-whole b s h = ap (λ (r : List ℕ). s ++ r) (drop_of_length-le b {i = 0 + length s} (omega arith)) ∙ append-nil s

-- a run over one of its length, between two others
pub paste_middle : (p old new q : List ℕ) (n : ℕ) → length p ≡ n → length old ≡ length new → paste (p ++ old ++ q) n new ≡ p ++ new ++ q
paste_middle p old new q n e m =
    ap₂ (λ (a z : List ℕ). a ++ new ++ z)
    (ap (take n) (append_assoc p old q) ∙ take_at p (old ++ q) n e)
    (drop_at (p ++ old) q (n + length new) (omega (arith, length-append p old)))

-- bytes written from place 0 on are the start
pub paste_begins : (x w : List ℕ) (k : ℕ) → length w ≡ k → take k (paste x 0 w) ≡ w
paste_begins x w k e = take_at w (drop (0 + length w) x) k e

-- a run was written, and then another right behind it
pub paste_then : {y z : List ℕ} {r : ℕ} (x : List ℕ) (at : ℕ) (p q : List ℕ) → at ≤ length x → y ≡ paste x at p → r ≡ at + length p → z ≡ paste y r q → z ≡ paste x at (p ++ q)
paste_then x at p q h a b c = c ∙ rw (a, b) (sym (paste_join x at p q h))

-- ---- a room with bytes over its start

-- bytes over what follows others, behind those
over-over : (p q l : List ℕ) → p ++ over q (drop (length p) l) ≡ over (p ++ q) l
over-over p q l =
    sym (append_assoc p q (drop (length q) (drop (length p) l)))
    ∙ ap (λ (r : List ℕ). (p ++ q) ++ r) (drop-drop (length q) (length p) l ∙ ap (λ (n : ℕ). drop n l) (sym (length-append p q)))

-- the rest of the room, from n on, was lent to a writer, and has come back
pub over-next : {x y : List ℕ} (p q l : List ℕ) (n : ℕ) → x ≡ over p l → length p ≡ n → y ≡ over q (mid_of n (length x - n) x)
    → put_mid n (length x - n) x y ≡ over (p ++ q) l
over-next {x} {y} p q l n ex en ey =
    let d : List ℕ = drop (length p) l in
    let t : take n x ≡ p = ap (take n) ex ∙ take_at p d n en in
    let b : drop n x ≡ d = ap (drop n) ex ∙ drop_at p d n en in
    let k : length d ≤ length x - n = omega (arith, ap length b, length-drop n x) in
    let m : mid_of n (length x - n) x ≡ d = ap (take (length x - n)) b ∙ take_all (length x - n) d k in
    let z : drop (length x - n) (drop n x) ≡ [] = ap (drop (length x - n)) b ∙ drop_of_length-le d k in
    rw (t, z, append-nil, ey, m) (over-over p q l)

-- they are the start
pub over_begins : {x : List ℕ} (p l : List ℕ) (n : ℕ) → x ≡ over p l → n ≡ length p → take n x ≡ p
over_begins p l n ex en = ap (take n) ex ∙ take_at p (drop (length p) l) n (sym en)

-- bytes from place 0 on are bytes over the start
pub paste-start : (s l : List ℕ) → paste l 0 s ≡ over s l
paste-start s l = rw zero-add
