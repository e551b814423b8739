-- The bytes are compared place by place, from the first on.
use Prim.Native.Nat.{ℕ, suc, ◌+◌}
use mathlib.Core.Path.{◌≡◌, refl, sym, ap, ap₂, ◌∙◌}
use mathlib.Core.Bool.{Bool, false, ◌&&◌, and-false}
use mathlib.Core.List.{List, [], ◌∷◌}
use mathlib.Core.Logic.{◌≢◌}
use lib.Dec.{eqb}
use lib.ListN.{length, get_or}
use borrow.Author.Tests.{tests, ne_eqb}
use borrow.Author.Rules.{rules}
use native.Mathlib.Omega.{arith}
use Rattle.std.specs.List.{list_all, range_with_len}
use Rattle.std.proofs.lemmas.Iterator.{YieldsList-from_range}
use Rattle.std.proofs.lemmas.Iterator.Search.{all_from_yields_List}
use Rattle.octets.specs.Runs.{same_bytes}
use Rattle.octets.proofs.same_bytes.Goals as goal

-- from place n on, where the test of a place is that of its two bytes
same_from : (a b : List ℕ) (n : ℕ) (t : ℕ → Bool) → length a ≡ length b → ((k j : ℕ) → n + k ≡ j → t j ≡ eqb (get_or a k 0) (get_or b k 0))
    → list_all t (range_with_len n (length a)) ≡ same_bytes a b
same_from [] [] n t e h = refl
same_from [] (y ∷ b) n t e h = absurd (omega (arith, e))
same_from (x ∷ a) [] n t e h = absurd (omega (arith, e))
same_from (x ∷ a) (y ∷ b) n t e h =
    ap₂ (λ (u v : Bool). u && v) (h 0 n (omega arith)) (same_from a b (n + 1) t (omega (arith, e)) (λ k j i. h (suc k) j (omega arith)))

-- runs of other lengths aren't the same
other_length : (a b : List ℕ) → length a ≢ length b → same_bytes a b ≡ false
other_length [] [] n = absurd (n refl)
other_length [] (y ∷ b) n = refl
other_length (x ∷ a) [] n = refl
other_length (x ∷ a) (y ∷ b) n = ap (λ (v : Bool). eqb x y && v) (other_length a b (λ e. n (ap suc e))) ∙ and-false (eqb x y)

pub returns-then-a-b : goal.returns-then-a-b
returns-then-a-b c =
    let a = c.args.a.now in
    let b = c.args.b.now in
    let t : ℕ → Bool = λ k. eqb (get_or a k 0) (get_or b k 0) in
    all_from_yields_List t _ _ _ c.all.ensures.ran (YieldsList-from_range 0 (length a) (length a) (cc) (omega arith))
    (λ x r q k. search (rules, tests))
    ∙ same_from a b 0 t c.if-a-b.true (λ k j e. let z : j ≡ k = omega arith in ap t z)

pub returns-else-a-b : goal.returns-else-a-b
returns-else-a-b c = ne_eqb _ _ c.if-a-b.false ∙ sym (other_length c.args.a.now c.args.b.now c.if-a-b.false)
