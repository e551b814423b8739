-- Laws of a page over lent bytes: when it is gone they end as it showed them, so what was put on it stands written over them.
use Prim.Native.Nat.{ℕ, ◌+◌, ◌-◌, ◌≤◌}
use native.Mathlib.Omega.{arith}
use mathlib.Core.Path.{◌≡◌, sym, ap, ◌∙◌}
use mathlib.Core.List.{List, [], ◌++◌}
use lib.ListN.{length, take, drop, length-append}
use lib.Seq.{length-take-le}
use borrow.Rule.Slice.PartMut.{mid_of, put_mid}
use Rattle.std.proofs.lemmas.List.{take-append-drop}
use Rattle.octets.specs.Runs.{over, paste}
use Rattle.octets.specs.Writing.{Wrote, WroteMost}
use Rattle.octets.proofs.Runs.{over-next}
use Rattle.octets.proofs.Writing.{over-wrote, wrote-over, wrote-most}
use Rattle.text.specs.Page.{Shown, shown, put, Put}
use Rattle.text.specs.declared.Page.{Page}

-- what a page shows is all that was lent
pub lent_shown : (p : Page) → p.bytes.now ≡ (shown p).text ++ (shown p).spare
unfolding shown
lent_shown p = sym (take-append-drop p.filled p.bytes.now)

-- what was put on an empty page over some bytes stands over their start
pub put_over : {p q : Page} {l b t x : List ℕ} {most : ℕ} → shown p ≡ record { text = []; spare = l } → Put most b p q → t ≡ (shown q).text → x ≡ q.bytes.now
    → WroteMost most b 0 (length t) l x
put_over {q = q} {l} {b} {t} e h i x =
    let s : shown q ≡ record { text = b; spare = drop (length b) l } = h.stands ∙ ap (λ (y : Shown). put y b) e in
    let n : length t ≡ length b = ap length (i ∙ ap (λ (y : Shown). y.text) s) in
    wrote-most (omega (arith, n, h.few, h.ends))
    (over-wrote b n (x ∙ lent_shown q ∙ ap (λ (y : Shown). y.text ++ y.spare) s))

-- what was written over the start of the bytes behind a place stands there
pub wrote_behind : {l y b : List ℕ} {n : ℕ} (at : ℕ) → at ≤ length l → Wrote b 0 n (mid_of at (length l - at) l) y
    → Wrote b at (at + n) l (put_mid at (length l - at) l y)
wrote_behind {l} {b = b} at h w =
    let e : length (take at l) ≡ at = length-take-le at l h in
    let before : l ≡ over (take at l) l = sym (ap (λ (k : ℕ). take at l ++ drop k l) e ∙ take-append-drop at l) in
    let k : length (take at l ++ b) ≡ at + length b = length-append (take at l) b ∙ ap (λ (n : ℕ). n + length b) e in
    let same : over (take at l ++ b) l ≡ paste l at b = ap (λ (k : ℕ). take at l ++ b ++ drop k l) k in
    record { ends = omega (arith, w.ends); stands = over-next (take at l) b l at before e (wrote-over b w) ∙ same }

pub wrote_most_behind : {l y b : List ℕ} {n most : ℕ} (at : ℕ) → at ≤ length l → WroteMost most b 0 n (mid_of at (length l - at) l) y
    → WroteMost most b at (at + n) l (put_mid at (length l - at) l y)
wrote_most_behind at h w = wrote-most (omega (arith, w.few)) (wrote_behind at h (record { ends = w.ends; stands = w.stands }))
