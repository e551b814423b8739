-- What a call may change of the table: each change keeps it sound, since the stream changed is sound, its numbers are open nowhere
-- else, and it listens for no more than before.
use Prim.Native.Nat.{ℕ, ◌+◌, ◌-◌, ◌≤◌, ◌<◌, ◌^◌, min}
use mathlib.Core.Path.{◌≡◌, refl, sym, ap, ◌∙◌}
use mathlib.Core.Bool.{Bool, true, false, false≢true}
use mathlib.Core.List.{List, [], ◌∷◌, ◌++◌, map}
use lib.ListN.{length, length-set, length-append}
use lib.Dec.{eqb, ltb}
use native.Mathlib.Omega.{arith}
use borrow.Author.Tests.{eqb-true, ltb-true, ltb-false, lt-ltb}
use Rattle.ledger.specs.Choice.{pick}
use Rattle.ledger.specs.Tally.{one_if, occ, has, free}
use Rattle.ledger.proofs.Tallies.{both_of, picked}
use Rattle.ledger.proofs.Sums.{occ_append, sum_put}
use Rattle.ledger.proofs.Lists.{each_set, each_more}
use Rattle.paper.specs.Base.{number_of, is_in, bound_states, no_stream, in_state, attached_in, settled, Slot, closed, just_opened, Table, most_ppas}
use Rattle.paper.specs.Base.{slot, stream, waiting, ppa_numbers, no_ppa, with_slot, with_numbers, with_stream, with_counter, with_ppa, remembering}
use Rattle.paper.specs.Saps.{listens}
use Rattle.paper.specs.Correlations.{occurrences}
use Rattle.paper.specs.Sound.{listeners_of}
use Rattle.paper.specs.declared.State.{State}
use Rattle.paper.specs.declared.Stream.{Stream}
use Rattle.paper.specs.declared.Ppa.{Ppa}
use Rattle.paper.specs.declared.PpaNumber.{PpaNumber}
use Rattle.keeping.specs.Soundness.{cap, Ok, Sound, IsMac}
use Rattle.keeping.proofs.Changes.{Fits, ok-closed, ok_none, ok-settled}

abbrev pub hearing : PpaNumber → ℕ → Stream → ℕ
hearing p q s = one_if (listens p q s)

-- ---- the table with one stream replaced
put_sound : (t : Table) → Sound t → (i : ℕ) (x : Slot) → Ok (ppa_numbers t) x
    → ((n : ℕ) → occ n x.waiting + occurrences t n ≤ cap n + occ n (waiting t i))
    → ((p : PpaNumber) (q : ℕ) → hearing p q x.stream + listeners_of t p q ≤ 1 + hearing p q (stream t i))
    → (t.remembers ≡ false → x.is_open ≡ false) → Sound (with_slot t i x)
unfolding with_slot occurrences listens
put_sound t k i x o h l m = record {
  sixteen = length-set t.slots i x ∙ k.sixteen;
  small = k.small;
  each = each_set (Ok (ppa_numbers t)) t.slots i x closed k.each o;
  once = λ n. omega (arith, h n, sum_put (λ (y : Slot). occ n y.waiting) closed refl t.slots i x);
  alone = λ p q. omega (arith, l p q, sum_put (λ (y : Slot). hearing p q y.stream) closed refl t.slots i x);
  differ = k.differ;
  most = k.most;
  macs = k.macs;
  recalls = λ e. each_set (λ (y : Slot). y.is_open ≡ false) t.slots i x closed (k.recalls e) (m e);
}

-- X
pub close_sound : (t : Table) → Sound t → (i : ℕ) → Sound (with_slot t i closed)
unfolding listens
close_sound t k i = put_sound t k i closed (ok-closed (ppa_numbers t)) (λ n. omega (arith, k.once n)) (λ p q. omega (arith, k.alone p q)) (λ e. refl)

-- O
pub open_sound : (t : Table) → Sound t → (i : ℕ) → Sound (with_slot (remembering t) i just_opened)
unfolding remembering occurrences listens
open_sound t k i =
    put_sound (remembering t) remembers i just_opened (ok_none (ppa_numbers t) [] refl) (λ n. omega (arith, k.once n)) (λ p q. omega (arith, k.alone p q)) (λ e. absurd (false≢true (sym e)))
  where
    remembers : Sound (remembering t)
    remembers = record {
      sixteen = k.sixteen;
      small = k.small;
      each = k.each;
      once = k.once;
      alone = k.alone;
      differ = k.differ;
      most = k.most;
      macs = k.macs;
      recalls = λ e. absurd (false≢true (sym e));
    }

-- ---- an open stream and its numbers replaced

numbers-sound : (t : Table) → Sound t → (i : ℕ) → (slot t i).is_open ≡ true → (s : Stream) (w : List ℕ) → Ok (ppa_numbers t) (record { is_open = true; stream = s; waiting = w })
    → ((n : ℕ) → occ n w + occurrences t n ≤ cap n + occ n (waiting t i))
    → ((p : PpaNumber) (q : ℕ) → hearing p q s + listeners_of t p q ≤ 1 + hearing p q (stream t i))
    → Sound (with_numbers t i s w)
unfolding with_numbers
numbers-sound t k i u s w o h l = rw u (put_sound t k i (record { is_open = true; stream = s; waiting = w }) o h l (λ e. absurd (false≢true (sym (k.recalls e i) ∙ u))))

-- a stream alone
pub stream-sound : (t : Table) → Sound t → (i : ℕ) → (slot t i).is_open ≡ true → (s : Stream) → Ok (ppa_numbers t) (record { is_open = true; stream = s; waiting = waiting t i })
    → ((p : PpaNumber) (q : ℕ) → hearing p q s + listeners_of t p q ≤ 1 + hearing p q (stream t i))
    → Sound (with_stream t i s)
unfolding with_stream
stream-sound t k i u s o l = numbers-sound t k i u s (waiting t i) o (λ n. omega (arith, k.once n)) l

-- one that is granted nothing listens for nothing
pub deaf : (t : Table) → Sound t → (i : ℕ) (s : Stream) → s.granted ≡ 0 → (p : PpaNumber) (sap : ℕ) → hearing p sap s + listeners_of t p sap ≤ 1 + hearing p sap (stream t i)
unfolding listens
deaf t k i s z p sap = rw z (omega (arith, k.alone p sap))

-- ---- a stream goes to a state, and holds what that state holds

-- with other numbers
pub standing-sound : (t : Table) → Sound t → (i : ℕ) (q : State) (w : List ℕ) → (slot t i).is_open ≡ true → Fits (stream t i) q → eqb (number_of q) 9 ≡ ltb 0 (length w)
    → length w ≤ (stream t i).granted → ((n : ℕ) → occ n w + occurrences t n ≤ cap n + occ n (waiting t i)) → Sound (with_numbers t i (settled q (stream t i)) w)
standing-sound t k i q w u f n l h = numbers-sound t k i u (settled q (stream t i)) w (ok-settled (ppa_numbers t) (slot t i) q w (k.each i) f n l) h no_more
  where
    -- what counts for listening is no state
    same : (p : PpaNumber) (sap : ℕ) → hearing p sap (in_state q (stream t i)) + listeners_of t p sap ≤ 1 + hearing p sap (stream t i)
    same p sap = unfold listens in omega (arith, k.alone p sap)

    no_more : (p : PpaNumber) (sap : ℕ) → hearing p sap (settled q (stream t i)) + listeners_of t p sap ≤ 1 + hearing p sap (stream t i)
    no_more p sap =
        picked P (eqb (number_of q) 0) no_stream (pick (has (number_of q) bound_states) (in_state q (stream t i)) (attached_in q (stream t i).ppa))
        (λ e. deaf t k i no_stream refl p sap)
        (λ e. picked P (has (number_of q) bound_states) (in_state q (stream t i)) (attached_in q (stream t i).ppa) (λ b. same p sap) (λ b. deaf t k i (attached_in q (stream t i).ppa) refl p sap))
      where
        P : Stream → Type 0
        P y = hearing p sap y + listeners_of t p sap ≤ 1 + hearing p sap (stream t i)

-- with its own, of which there are none: neither state is 9
pub settle_sound : (t : Table) → Sound t → (i : ℕ) (q : State) → (slot t i).is_open ≡ true → is_in 9 (stream t i) ≡ false → eqb (number_of q) 9 ≡ false → Fits (stream t i) q
    → Sound (with_stream t i (settled q (stream t i)))
unfolding with_stream
settle_sound t k i q u n m f =
    standing-sound t k i q (waiting t i) u f (m ∙ sym (sym (k.each i).nine ∙ n)) (k.each i).few (λ j. omega (arith, k.once j))

-- ---- the counter, and one more number, that is free

counter-sound : (t : Table) → Sound t → (c : ℕ) → c < 2 ^ 32 → Sound (with_counter t c)
unfolding with_counter occurrences
counter-sound t k c b = record { sixteen = k.sixteen; small = b; each = k.each; once = k.once; alone = k.alone; differ = k.differ; most = k.most; macs = k.macs; recalls = k.recalls }

pub more-sound : (t : Table) → Sound t → (i n c : ℕ) (q : State) → c < 2 ^ 32 → free (occurrences t) n ≡ true → n < 2 ^ 32 → (slot t i).is_open ≡ true → Fits (stream t i) q → eqb (number_of q) 9 ≡ true
    → length (waiting t i) < (stream t i).granted → Sound (with_numbers (with_counter t c) i (settled q (stream t i)) (waiting t i ++ (n ∷ [])))
unfolding with_counter occurrences
more-sound t k i n c q b f v u w m l =
    let f' : (ltb 0 n ≡ true) × (eqb (occurrences t n) 0 ≡ true) = both_of (ltb 0 n) (eqb (occurrences t n) 0) f in
    standing-sound (with_counter t c) (counter-sound t k c b) i q (waiting t i ++ (n ∷ [])) u w
    (m ∙ sym (lt-ltb 0 (length (waiting t i ++ (n ∷ []))) (simp length-append (omega arith)))) (simp length-append (omega arith))
    (λ j. more j (ltb-true 0 n f'.0) (eqb-true (occurrences t n) 0 f'.1))
  where
    more : (j : ℕ) → 0 < n → occurrences t n ≡ 0 → occ j (waiting t i ++ (n ∷ [])) + occurrences t j ≤ cap j + occ j (waiting t i)
    more j h z = rw occ_append (at_b (eqb j n) refl)
      where
        at_b : (b : Bool) → eqb j n ≡ b → occ j (waiting t i) + (one_if (eqb j n) + 0) + occurrences t j ≤ cap j + occ j (waiting t i)
        at_b true q = rw q (let e : j ≡ n = eqb-true j n q in let z' : occurrences t j ≡ 0 = ap (occurrences t) e ∙ z in omega arith)
        at_b false q = rw q (omega (arith, k.once j))

-- ---- G: one more PPA
pub ppa-sound : (t : Table) → Sound t → (p : Ppa) → length t.ppas < most_ppas → has p.number.0 (ppa_numbers t) ≡ false → p.number.0 < 2 ^ 32
    → IsMac p.mac → Sound (with_ppa t p)
unfolding with_ppa occurrences
ppa-sound t k p l n u m = record {
  sixteen = k.sixteen;
  small = k.small;
  each = λ i. rw (numbers t.ppas) (more (slot t i) (k.each i));
  once = k.once;
  alone = k.alone;
  differ = λ q. rw (numbers t.ppas, occ_append) (differs q (eqb q new) refl (ltb-false 0 (occ new (ppa_numbers t)) n));
  most = simp length-append (omega arith);
  macs = each_more (λ (y : Ppa). IsMac y.mac) t.ppas p no_ppa k.macs m;
  recalls = k.recalls;
}
  where
    new : ℕ
    new = p.number.0

    numbers : (l : List Ppa) → map (λ (p : Ppa). p.number.0) (l ++ (p ∷ [])) ≡ map (λ (p : Ppa). p.number.0) l ++ (new ∷ [])
    numbers [] = refl
    numbers (x ∷ l) = ap (λ (r : List ℕ). x.number.0 ∷ r) (numbers l)

    more : (x : Slot) → Ok (ppa_numbers t) x → Ok (ppa_numbers t ++ (new ∷ [])) x
    more x o = record {
      shut = o.shut;
      loose = o.loose;
      attached = λ h. still x.stream.ppa.0 (ltb-true 0 (occ x.stream.ppa.0 (ppa_numbers t)) (o.attached h));
      unbound = o.unbound;
      bound = o.bound;
      connected = o.connected;
      nine = o.nine;
      few = o.few;
    }
      where
        still : (q : ℕ) → 0 < occ q (ppa_numbers t) → has q (ppa_numbers t ++ (new ∷ [])) ≡ true
        still q h = lt-ltb 0 (occ q (ppa_numbers t ++ (new ∷ []))) (omega (arith, occ_append q (ppa_numbers t) (new ∷ [])))

    differs : (q : ℕ) (b : Bool) → eqb q new ≡ b → occ new (ppa_numbers t) ≤ 0 → occ q (ppa_numbers t) + (one_if (eqb q new) + 0) ≤ min 1 (2 ^ 32 - q)
    differs q true e h = rw e (let m : q ≡ new = eqb-true q new e in let z : occ q (ppa_numbers t) ≡ occ new (ppa_numbers t) = ap (λ (q : ℕ). occ q (ppa_numbers t)) m in omega arith)
    differs q false e h = rw e (omega (arith, k.differ q))
