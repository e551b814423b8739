-- A block is its bytes and zeros up to its size: so what is written right behind them goes over zeros, and the block is that of both.
use Prim.Native.Nat.{ℕ, ◌*◌, ◌+◌, ◌-◌, ◌≤◌, ◌<◌}
use native.Mathlib.Omega.{arith}
use mathlib.Core.Path.{◌≡◌, refl, ap, ◌∙◌}
use mathlib.Core.List.{List, [], ◌∷◌, ◌++◌, append_assoc, append-nil}
use lib.ListN.{length, length-append, replicate, length-replicate, replicate-append-replicate, get_or, take}
use native.Mathlib.Numerals.{add-one}
use lib.Seq.{take-suc, length-take-le}
use Rattle.octets.specs.Blocks.{flat, pad, pad_to, block_size}
use Rattle.octets.specs.Numbers.{be32}
use Rattle.octets.specs.Runs.{paste}
use Rattle.octets.proofs.Runs.{paste_middle}
use Rattle.ledger.proofs.Lists.{joined_append}

-- a field takes four bytes
pub flat-length : (l : List ℕ) → length (flat l) ≡ length l * 4
flat-length [] = refl
flat-length (x ∷ l) = omega (arith, flat-length l)

-- fields of four bytes each, other bytes behind them
pub content_length : (fields tail : List ℕ) → length (flat fields ++ tail) ≡ length fields * 4 + length tail
content_length fields tail = omega (arith, length-append (flat fields) tail, flat-length fields)

-- with zeros behind, up to n: the length
pub pad-length : (n : ℕ) (l : List ℕ) → length l ≤ n → length (pad_to n l) ≡ n
pad-length n l h = simp (length-append, length-replicate) (omega arith)

-- more bytes over the first of them
pub pad-more : (h l s q : List ℕ) (n b : ℕ) → length h + length l ≡ b → length l + length s ≤ n
    → paste (h ++ (pad_to n l ++ q)) b s ≡ h ++ (pad_to n (l ++ s) ++ q)
pad-more h l s q n b e f =
    let r : List ℕ = replicate (n - length (l ++ s)) 0 in
    let m : n - length l ≡ length s + (n - length (l ++ s)) = omega (arith, length-append l s) in
    let o : h ++ (pad_to n l ++ q) ≡ (h ++ l) ++ replicate (length s) 0 ++ (r ++ q) = rw (m, ← replicate-append-replicate) (simp append_assoc) in
    ap (λ (i : List ℕ). paste i b s) o
    ∙ paste_middle (h ++ l) (replicate (length s) 0) s (r ++ q) b (omega (arith, length-append h l)) (length-replicate (length s) 0)
    ∙ simp append_assoc

-- a block: bytes behind those that it holds
pub pad-at : (l s : List ℕ) (n : ℕ) → length l ≡ n → n + length s ≤ block_size → paste (pad l) n s ≡ pad (l ++ s)
pad-at l s n e h = simp append-nil at (pad-more [] l s [] block_size n (omega (arith, e)) (omega arith))

-- a block with one field more
pub flat-more : (w : List ℕ) (i : ℕ) → i < length w → i * 4 < block_size
    → paste (pad (flat (take i w))) (i * 4) (be32 (get_or w i 0)) ≡ pad (flat (take (i + 1) w))
flat-more w i h k =
    let m : length (flat (take i w)) ≡ i * 4 = omega (arith, flat-length (take i w), length-take-le i w (omega arith)) in
    rw (add-one, take-suc w i 0, joined_append be32) (pad-at (flat (take i w)) (be32 (get_or w i 0)) (i * 4) m (omega arith))
