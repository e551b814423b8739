-- What passed the tests of a bind is small: its mode and SAP are among those listed, and what is granted is capped.
use Prim.Native.Nat.{ℕ, ◌<◌, ◌≤◌}
use mathlib.Core.Path.{◌≡◌, sym, ◌∙◌, refl}
use mathlib.Core.Bool.{true, not, false, false≢true, Bool}
use lib.Dec.{eqb, leb, ltb}
use native.Mathlib.Omega.{arith}
use borrow.Author.Tests.{eqb-true, ltb-true, leb-true}
use Rattle.ledger.specs.Choice.{either, both}
use Rattle.ledger.proofs.Tallies.{of_either, both_of}
use Rattle.ledger.specs.Tally.{has, one_if}
use Rattle.paper.specs.Saps.{most_open, is_sap, is_type, reserved_types, as_bind_allows, listens}
use Rattle.paper.specs.declared.Stream.{Stream}
use Rattle.paper.specs.declared.PpaNumber.{PpaNumber}

pub mode-fits : (n : ℕ) → either (eqb n 1) (eqb n 2) ≡ true → n < 256
mode-fits n h = of_either (eqb n 1) (eqb n 2) h (λ e. omega (arith, eqb-true n 1 e)) (λ e. omega (arith, eqb-true n 2 e))

-- a SAP has one byte and a type two
sap-under : (n : ℕ) → is_sap n ≡ true → n < 65536
unfolding is_sap
sap-under n e = omega (arith, ltb-true n 256 (both_of _ _ e).0)

type_under : (n : ℕ) → is_type n ≡ true → n < 65536
unfolding is_type
type_under n e =
    let f = (both_of (leb 0x600 n) (both (leb n 0xffff) (not (has n reserved_types))) e).1 in
    omega (arith, leb-true n 0xffff (both_of (leb n 0xffff) (not (has n reserved_types)) f).0)

pub sap-fits : (n : ℕ) → either (is_sap n) (is_type n) ≡ true → n < 65536
sap-fits n h = of_either (is_sap n) (is_type n) h (sap-under n) (type_under n)

-- so those of a stream that is bound as BIND allows are small
pub record Small (s : Stream) : Type 0 where
  pub mode : s.mode < 256
  pub sap : s.sap < 65536

pub bind_small : (s : Stream) → as_bind_allows s ≡ true → Small s
unfolding as_bind_allows
bind_small s h = of_either _ _ h
    (λ e. let a : (eqb s.mode 1 ≡ true) × (both (is_sap s.sap) (leb s.granted most_open) ≡ true) = both_of _ _ e in
    record { mode = omega (arith, eqb-true s.mode 1 a.0); sap = sap-under s.sap (both_of (is_sap s.sap) _ a.1).0 })
    (λ e. let a : (eqb s.mode 2 ≡ true) × (both (either (is_sap s.sap) (is_type s.sap)) (eqb s.granted 0) ≡ true) = both_of _ _ e in
    record {
      mode = omega (arith, eqb-true s.mode 2 a.0);
      sap = of_either _ _ (both_of (either (is_sap s.sap) (is_type s.sap)) _ a.1).0 (sap-under s.sap) (type_under s.sap);
    })

-- so many are granted at most, in mode 1; in the other mode nothing is
pub record Granted (s : Stream) : Type 0 where
  pub few : s.granted ≤ most_open
  pub other : eqb s.mode 2 ≡ false → s.mode ≡ 1
  pub some : 0 < s.granted → s.mode ≡ 1

pub allows : (s : Stream) → as_bind_allows s ≡ true → Granted s
unfolding as_bind_allows
allows s h = of_either _ _ h
    (λ e. let a : (eqb s.mode 1 ≡ true) × (both (is_sap s.sap) (leb s.granted most_open) ≡ true) = both_of _ _ e in
    let one : s.mode ≡ 1 = eqb-true _ _ a.0 in
    record { few = leb-true _ _ (both_of (is_sap s.sap) _ a.1).1; other = λ _. one; some = λ _. one })
    (λ e. let a : (eqb s.mode 2 ≡ true) × (both (either (is_sap s.sap) (is_type s.sap)) (eqb s.granted 0) ≡ true) = both_of _ _ e in
    let none : s.granted ≡ 0 = eqb-true _ _ (both_of (either (is_sap s.sap) (is_type s.sap)) _ a.1).1 in
    record { few = omega arith; other = λ n. absurd (false≢true (sym n ∙ a.0)); some = λ g. absurd (omega arith) })

-- who listens has a count granted, and listens for its own PPA and SAP
pub record Listening (p : PpaNumber) (q : ℕ) (s : Stream) : Type 0 where
  pub some : 0 < s.granted
  pub ppa : s.ppa.0 ≡ p.0
  pub sap : s.sap ≡ q

pub listens-is : (p : PpaNumber) (q : ℕ) (s : Stream) → 0 < one_if (listens p q s) → Listening p q s
unfolding listens
listens-is p q s h = go (ltb 0 s.granted) refl (eqb s.ppa.0 p.0) refl (eqb s.sap q) refl h
  where
    go : (a : Bool) → ltb 0 s.granted ≡ a → (b : Bool) → eqb s.ppa.0 p.0 ≡ b → (c : Bool) → eqb s.sap q ≡ c → 0 < one_if (both a (both b c))
        → Listening p q s
    go true d true e true f h = record { some = ltb-true _ _ d; ppa = eqb-true _ _ e; sap = eqb-true _ _ f }
    go true d true e false f h = absurd (omega arith)
    go true d false e c f h = absurd (omega arith)
    go false d b e c f h = absurd (omega arith)
