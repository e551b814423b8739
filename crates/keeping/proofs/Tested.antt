-- The test of a sound table says what the facts say, clause by clause: each test of `sound` is the fact's own, over the lists.
use Prim.Native.Nat.{ℕ, ◌-◌, ◌≤◌, ◌<◌, ◌^◌, min}
use mathlib.Core.Path.{◌≡◌, refl, sym, ap, ◌∙◌}
use mathlib.Core.Bool.{Bool, true, false, not, false≢true}
use mathlib.Core.List.{List}
use lib.ListN.{length, get_or}
use lib.Dec.{eqb, ltb, leb}
use native.Mathlib.Omega.{arith}
use borrow.Author.Tests.{eqb-true, eq-eqb, ltb-true, ltb-false, lt-ltb, leb-true, le-leb, not-true}
use Rattle.ledger.specs.Choice.{pick, either}
use Rattle.ledger.specs.Tally.{one_if, occ, has, all_of}
use Rattle.ledger.proofs.Tallies.{both_of, to_both, picked, all_at, at_all, nth}
use Rattle.ledger.proofs.Sums.{sum_at, sum_some, all_occ, occ_all, all_sum, of-asks, to_asks}
use Rattle.paper.specs.Base.{is_in, is_among, bound_states, connection_states, Slot, closed, Table, slot, stream, waiting, ppa_numbers, no_ppa, stream_total}
use Rattle.paper.specs.Saps.{as_bind_allows, listens}
use Rattle.paper.specs.Correlations.{occurrences}
use Rattle.paper.specs.Sound.{every, same_answer, unbound, holds_nothing, open_tests, sound_slot, is_single, listeners_of, is_alone, sound_tests, sound, Bindless}
use Rattle.paper.specs.declared.Stream.{Stream}
use Rattle.paper.specs.declared.PpaNumber.{PpaNumber}
use Rattle.keeping.specs.Soundness.{cap, Ok, Sound, IsMac}
use Rattle.keeping.proofs.Changes.{ok-closed}
use Rattle.paper.proofs.Saps.{Listening, listens-is}
use Rattle.paper.proofs.SoundTests.{no_bind, closed_is}

to_same : (a b : Bool) → a ≡ b → same_answer a b ≡ true
to_same true b e = sym e
to_same false b e = ap not (sym e)

of-same : (a b : Bool) → same_answer a b ≡ true → a ≡ b
of-same true b e = sym e
of-same false b e = sym (not-true b e)

-- ---- from the facts
slot_test : (ps : List ℕ) (x : Slot) → Ok ps x → sound_slot ps x ≡ true
unfolding sound_slot holds_nothing
slot_test ps x o = picked (λ (b : Bool). b ≡ true) x.is_open (every (open_tests ps x)) (holds_nothing x)
    (λ e. to_both _ _ (picked (λ (b : Bool). b ≡ true) (is_in 0 x.stream) _ _ (λ z. eq-eqb _ _ (o.loose z)) o.attached)
    (to_both _ _ (picked (λ (b : Bool). b ≡ true) (is_among bound_states x.stream) _ _ o.bound (λ z. bare (o.unbound z)))
    (to_both _ _ (to_asks (is_among connection_states x.stream) _ (λ z. eq-eqb _ _ (o.connected z)))
    (to_both _ _ (to_same _ _ o.nine)
    (to_both _ _ (le-leb _ _ o.few) refl)))))
    (λ e. ap holds_nothing (o.shut e))
  where
    bare : Bindless x.stream → every (unbound x.stream) ≡ true
    bare z = to_both _ _ (eq-eqb _ _ z.mode) (to_both _ _ (eq-eqb _ _ z.sap) (to_both _ _ (eq-eqb _ _ z.granted) refl))

pub sound_test : (t : Table) → Sound t → sound t ≡ true
unfolding sound is_single is_alone
sound_test t k =
    to_both _ _ (le-leb _ _ k.most)
    (to_both _ _ (occ_all (λ (p : ℕ). leb (occ p (ppa_numbers t)) 1) (ppa_numbers t) (λ p m. le-leb (occ p (ppa_numbers t)) 1 (omega (arith, k.differ p))))
    (to_both _ _ (at_all (sound_slot (ppa_numbers t)) closed t.slots (λ i. slot_test (ppa_numbers t) (slot t i) (k.each i)))
    (to_both _ _ (at_all (λ (x : Slot). all_of (is_single t) x.waiting) closed t.slots (λ i. occ_all (is_single t) (waiting t i)
    (λ n m. to_both _ _ (lt-ltb 0 n (omega (arith, counts i n, k.once n))) (le-leb (occurrences t n) 1 (omega (arith, k.once n))))))
    (to_both _ _ (at_all (λ (x : Slot). is_alone t x.stream) closed t.slots (λ i. to_asks (ltb 0 (stream t i).granted) _ (λ e. le-leb _ _ (k.alone (stream t i).ppa (stream t i).sap))))
    (to_both _ _ (recalled t.remembers refl) refl)))))
  where
    counts : (i n : ℕ) → occ n (waiting t i) ≤ occurrences t n
    counts i n = unfold occurrences in sum_at (λ (x : Slot). occ n x.waiting) closed refl t.slots i

    recalled : (b : Bool) → t.remembers ≡ b → either b (all_of (λ (x : Slot). not x.is_open) t.slots) ≡ true
    recalled true e = refl
    recalled false e = at_all (λ (x : Slot). not x.is_open) closed t.slots (λ i. ap not (k.recalls e i))

-- ---- to the facts

slot_tested : (ps : List ℕ) (x : Slot) → sound_slot ps x ≡ true → Ok ps x
unfolding sound_slot holds_nothing
slot_tested ps x h = go x.is_open refl h
  where
    picks : (a b c : Bool) → pick a b c ≡ true → (a ≡ true → b ≡ true) × (a ≡ false → c ≡ true)
    picks true b c h = (λ e. h, λ e. absurd (false≢true (sym e)))
    picks false b c h = (λ e. absurd (false≢true e), λ e. h)

    none : x ≡ closed → Ok ps x
    none e = rw e (ok-closed ps)

    go : (b : Bool) → x.is_open ≡ b → pick b (every (open_tests ps x)) (holds_nothing x) ≡ true → Ok ps x
    go true e h =
        let s : Stream = x.stream in
        let a : (is_in 0 s ≡ true → eqb s.ppa.0 0 ≡ true) × (is_in 0 s ≡ false → has s.ppa.0 ps ≡ true) = picks _ _ _ (nth (open_tests ps x) h 0) in
        let b : (is_among bound_states s ≡ true → as_bind_allows s ≡ true) × (is_among bound_states s ≡ false → every (unbound s) ≡ true) = picks _ _ _ (nth (open_tests ps x) h 1) in
        record {
          shut = λ f. absurd (false≢true (sym f ∙ e));
          loose = λ z. eqb-true _ _ (a.0 z);
          attached = a.1;
          unbound = λ z. no_bind s (b.1 z);
          bound = b.0;
          connected = λ z. eqb-true _ _ (of-asks (is_among connection_states s) (eqb s.mode 1) (nth (open_tests ps x) h 2) z);
          nine = of-same _ _ (nth (open_tests ps x) h 3);
          few = leb-true _ _ (nth (open_tests ps x) h 4);
        }
    go false e h = none (closed_is x h e)

-- with what the test takes for granted: sixteen streams, a counter of four bytes, MACs of six
pub sound_tested : (t : Table) → length t.slots ≡ stream_total → t.counter < 2 ^ 32 → ((j : ℕ) → IsMac (get_or t.ppas j no_ppa).mac)
    → ((n : ℕ) → 2 ^ 32 ≤ n → occurrences t n ≡ 0) → ((p : ℕ) → 2 ^ 32 ≤ p → occ p (ppa_numbers t) ≡ 0) → sound t ≡ true → Sound t
unfolding sound is_single is_alone occurrences sound_slot holds_nothing
sound_tested t l c a v w h = record {
  sixteen = l;
  small = c;
  each = λ i. slot_tested (ppa_numbers t) (slot t i) (all_at (sound_slot (ppa_numbers t)) closed refl t.slots (nth (sound_tests t) h 2) i);
  once = λ n. one n (ltb 0 (occurrences t n)) refl (nth (sound_tests t) h 3);
  alone = λ p q. two p q (ltb 0 (listeners_of t p q)) refl (nth (sound_tests t) h 4);
  differ = λ p. three p (ltb 0 (occ p (ppa_numbers t))) refl (nth (sound_tests t) h 1);
  most = leb-true _ _ (nth (sound_tests t) h 0);
  macs = a;
  recalls = λ e. four t.remembers e (nth (sound_tests t) h 5);
}
  where
    one : (n : ℕ) (b : Bool) → ltb 0 (occurrences t n) ≡ b → all_of (λ (x : Slot). all_of (is_single t) x.waiting) t.slots ≡ true → occurrences t n ≤ cap n
    one n true e h =
        let m : (ltb 0 n ≡ true) × (leb (occurrences t n) 1 ≡ true) = both_of _ _ (all_sum (λ (x : Slot). x.waiting) (is_single t) n t.slots h (ltb-true 0 (occurrences t n) e)) in
        fit (ltb n (2 ^ 32)) refl (ltb-true 0 n m.0) (leb-true (occurrences t n) 1 m.1)
      where
        fit : (b : Bool) → ltb n (2 ^ 32) ≡ b → 0 < n → occurrences t n ≤ 1 → occurrences t n ≤ cap n
        fit true e h o = omega (arith, ltb-true n (2 ^ 32) e)
        fit false e h o = omega (arith, v n (ltb-false n (2 ^ 32) e))
    one n false e h = omega (arith, ltb-false 0 (occurrences t n) e)

    two : (p : PpaNumber) (q : ℕ) (b : Bool) → ltb 0 (listeners_of t p q) ≡ b → all_of (λ (x : Slot). is_alone t x.stream) t.slots ≡ true → listeners_of t p q ≤ 1
    two p q true e h =
        let r : (i : ℕ) × (0 < one_if (listens p q (stream t i))) = sum_some (λ (x : Slot). one_if (listens p q x.stream)) closed t.slots (ltb-true 0 (listeners_of t p q) e) in
        let s : Stream = stream t r.0 in
        let l : Listening p q s = listens-is p q s r.1 in
        let u : leb (listeners_of t s.ppa s.sap) 1 ≡ true = of-asks (ltb 0 s.granted) _ (all_at (λ (x : Slot). is_alone t x.stream) closed refl t.slots h r.0) (lt-ltb _ _ l.some) in
        let w : listeners_of t s.ppa s.sap ≡ listeners_of t p q = ap (λ (a : ℕ). listeners_of t (record { 0 = a }) s.sap) l.ppa ∙ ap (listeners_of t p) l.sap in
        omega (arith, leb-true (listeners_of t s.ppa s.sap) 1 u, w)
    two p q false e h = omega (arith, ltb-false 0 (listeners_of t p q) e)

    three : (p : ℕ) (b : Bool) → ltb 0 (occ p (ppa_numbers t)) ≡ b → all_of (λ (p : ℕ). leb (occ p (ppa_numbers t)) 1) (ppa_numbers t) ≡ true → occ p (ppa_numbers t) ≤ min 1 (2 ^ 32 - p)
    three p true e h = fit (ltb p (2 ^ 32)) refl (leb-true _ _ (all_occ (λ (p : ℕ). leb (occ p (ppa_numbers t)) 1) p (ppa_numbers t) h (ltb-true 0 (occ p (ppa_numbers t)) e)))
      where
        fit : (b : Bool) → ltb p (2 ^ 32) ≡ b → occ p (ppa_numbers t) ≤ 1 → occ p (ppa_numbers t) ≤ min 1 (2 ^ 32 - p)
        fit true e o = omega (arith, ltb-true p (2 ^ 32) e)
        fit false e o = omega (arith, w p (ltb-false p (2 ^ 32) e))
    three p false e h = omega (arith, ltb-false 0 (occ p (ppa_numbers t)) e)

    four : (b : Bool) → b ≡ false → either b (all_of (λ (x : Slot). not x.is_open) t.slots) ≡ true → (i : ℕ) → (slot t i).is_open ≡ false
    four true e h i = absurd (false≢true (sym e))
    four false e h i = not-true _ (all_at (λ (x : Slot). not x.is_open) closed refl t.slots h i)
