-- What is written piece by piece: each piece stands behind those before it.
use Prim.Native.Nat.{ℕ, ◌+◌, ◌-◌, ◌≤◌}
use native.Mathlib.Omega.{arith}
use mathlib.Core.Path.{◌≡◌, sym, ◌∙◌}
use mathlib.Core.List.{List, ◌++◌}
use lib.ListN.{length, length-append}
use borrow.Rule.Slice.PartMut.{mid_of, put_mid}
use Rattle.octets.specs.Runs.{paste, over}
use Rattle.octets.specs.Writing.{Wrote, WroteMost}
use Rattle.octets.proofs.Runs.{paste_then, paste-start, over-next}

-- ---- one piece, and two

-- a piece behind another
pub wrote_then : {x y z p q : List ℕ} {at n e : ℕ} → at ≤ length x → Wrote p at n x y → Wrote q n e y z → Wrote (p ++ q) at e x z
wrote_then {x} {p = p} {q} {at} h a b =
    record { ends = omega (arith, a.ends, b.ends, length-append p q); stands = paste_then x at p q h a.stands a.ends b.stands }

-- the same, where the second was put there by its bytes
pub wrote_put : {x y z : List ℕ} {at n e : ℕ} (p q : List ℕ) → at ≤ length x → Wrote p at n x y → z ≡ paste y n q → e ≡ n + length q
    → Wrote (p ++ q) at e x z
wrote_put p q h w z e = wrote_then h w (record { ends = e; stands = z })

-- how many they are at most, told, untold and told of more
pub wrote-most : {x y p : List ℕ} {at n most : ℕ} → n ≤ at + most → Wrote p at n x y → WroteMost most p at n x y
wrote-most h w = record { few = h; ends = w.ends; stands = w.stands }

pub wrote_of : {x y p : List ℕ} {at n most : ℕ} → WroteMost most p at n x y → Wrote p at n x y
wrote_of w = record { ends = w.ends; stands = w.stands }

pub wrote-more : {x y p : List ℕ} {at n most more : ℕ} → most ≤ more → WroteMost most p at n x y → WroteMost more p at n x y
wrote-more h w = wrote-most (omega (arith, w.few)) (wrote_of w)

-- what is written is the same by another name
pub wrote-same : {x y p q : List ℕ} {at n most : ℕ} → p ≡ q → WroteMost most p at n x y → WroteMost most q at n x y
wrote-same e w = rw e at w

pub wrote_as : {x y p q : List ℕ} {at n : ℕ} → p ≡ q → Wrote p at n x y → Wrote q at n x y
wrote_as e w = rw e at w

-- ---- at the start of a room

-- what was written there stands over it
pub wrote-over : {l x : List ℕ} {n : ℕ} (p : List ℕ) → Wrote p 0 n l x → x ≡ over p l
wrote-over {l = l} p w = w.stands ∙ paste-start p l

-- and what stands over it was written
pub over-wrote : {l x : List ℕ} {n : ℕ} (p : List ℕ) → n ≡ length p → x ≡ over p l → Wrote p 0 n l x
over-wrote {l = l} p e h = record { ends = omega (arith, e); stands = h ∙ sym (paste-start p l) }

-- the rest of the room, from n on, was then lent to another writer, and has come back
pub wrote-next : {l x y : List ℕ} {n m : ℕ} (p q : List ℕ) → Wrote p 0 n l x → Wrote q 0 m (mid_of n (length x - n) x) y
    → Wrote (p ++ q) 0 (n + m) l (put_mid n (length x - n) x y)
wrote-next {l = l} {n = n} p q w v =
    let size : length p ≡ n = omega (arith, w.ends) in
    over-wrote (p ++ q) (omega (arith, length-append p q, w.ends, v.ends)) (over-next p q l n (wrote-over p w) size (wrote-over q v))
