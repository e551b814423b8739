-- What the lines of a call say of a stream is what the table shows: a line tells each change of a stream's open numbers, and its
-- grant changes only by a bind, which tells it.
use Prim.Native.Nat.{ℕ, ◌<◌}
use mathlib.Core.Path.{◌≡◌, refl, sym, ap, subst, ◌∙◌}
use mathlib.Core.Bool.{Bool, true, false, false≢true}
use mathlib.Core.List.{List, [], ◌∷◌, ◌++◌}
use lib.ListN.{length}
use lib.Seq.{get_or-set_same, get_or-set_other}
use lib.Dec.{eqb, ltb}
use native.Mathlib.Omega.{arith}
use borrow.Author.Tests.{eqb-true, eqb-false, eq-eqb, lt-ltb}
use Rattle.ledger.specs.Choice.{pick}
use Rattle.ledger.specs.Tally.{has, without}
use Rattle.ledger.proofs.Tallies.{to_both, within, picked}
use Rattle.fates_book.specs.declared.End.{End}
use Rattle.fates_book.specs.declared.Line.{Line}
use Rattle.fates_book.specs.declared.Line.TheVariants.{Began, Came, Went, Given}
use Rattle.fates_book.specs.Book.{grant_by}
use Rattle.fates_book.proofs.Shades.{silent, shade, shades, fairs, rooteds, openings_in, Silent, silence, Taken}
use Rattle.ledger.proofs.Sums.{there, put_in, put_same, put_cases}
use Rattle.paper.specs.Base.{is_among, bound_states, Slot, closed, just_opened, Table, slot, stream, waiting, with_slot, with_numbers, with_stream, with_counter, remembering}
use Rattle.paper.specs.declared.Stream.{Stream}
use Rattle.paper.specs.Saps.{most_open}

pub record Traced (s : ℕ) (t : Table) (ys : List Line) (u : Table) : Type 0 where
  pub shaded : waiting u s ≡ shades s ys (waiting t s)
  pub fairly : fairs s ys (waiting t s) ≡ true
  pub granted : (g : ℕ) → (is_among bound_states (stream t s) ≡ true → (stream t s).granted ≡ g) → is_among bound_states (stream u s) ≡ true → (stream u s).granted ≡ grant_by s ys g
  pub rootedly : (k : ℕ) → ((slot t s).is_open ≡ true → 0 < k) → rooteds s ys k ≡ true
  pub opens : (k : ℕ) → ((slot t s).is_open ≡ true → 0 < k) → (slot u s).is_open ≡ true → 0 < openings_in s ys k

-- of every stream
abbrev pub Shows : Table → List Line → Table → Type 0
Shows t ys u = (s : ℕ) → Traced s t ys u

-- A stream that stands otherwise, and whose grant is the same where it holds a binding.
abbrev pub SameGrant : Stream → Stream → Type 0
SameGrant x y = is_among bound_states y ≡ true → (is_among bound_states x ≡ true) × (y.granted ≡ x.granted)

abbrev waiting_of : Slot → List ℕ
waiting_of x = x.waiting

abbrev is_open_of : Slot → Bool
is_open_of x = x.is_open

-- nothing changes, nothing is said
pub shows_still : (t : Table) (ys : List Line) → silent ys ≡ true → Shows t ys t
shows_still t ys h s =
    let z : Silent ys = silence ys h in
    record {
      shaded = sym (z.same s (waiting t s));
      fairly = z.fairly s (waiting t s);
      granted = λ g f m. f m ∙ sym (z.grant s g);
      rootedly = λ k f. z.rootedly s k;
      opens = λ k f o. rw (z.opens s k) (f o);
    }

-- after that, a stream changes with the same numbers
pub shows_stream : (t u : Table) (ys : List Line) (i : ℕ) (x : Stream) → Shows t ys u → SameGrant (stream u i) x → Shows t ys (with_stream u i x)
unfolding with_stream with_numbers with_slot
shows_stream t u ys i x a m s = record {
  shaded = put_same waiting_of closed u.slots i s y refl ∙ (a s).shaded;
  fairly = (a s).fairly;
  granted = λ g f. put_cases (λ (y : Slot). is_among bound_states y.stream ≡ true → y.stream.granted ≡ grant_by s ys g) closed u.slots i s y
      (λ e h. (m h).1 ∙ ap (λ (j : ℕ). (stream u j).granted) (sym e) ∙ (a s).granted g f (rw e (m h).0))
      ((a s).granted g f);
  rootedly = (a s).rootedly;
  opens = λ k f o. (a s).opens k f (sym (put_same is_open_of closed u.slots i s y refl) ∙ o);
}
  where
    y : Slot
    y = record { is_open = (slot u i).is_open; stream = x; waiting = waiting u i }

-- an open stream changes with its numbers: one goes, which is told first; one comes
module _ (t : Table) (i : ℕ) (o : (slot t i).is_open ≡ true) (x : Stream) (m : SameGrant (stream t i) x) where
  pub shows_less : (n : ℕ) (f : End) (zs : List Line) → has n (waiting t i) ≡ true → silent zs ≡ true → Shows t (Went i n f ∷ zs) (with_numbers t i x (without n (waiting t i)))
  unfolding with_numbers with_slot
  shows_less n f zs h c s =
      let z : Silent zs = silence zs c in
      record {
        shaded = put_in waiting_of closed (without n) t.slots i s y (within is_open_of closed refl t.slots i o) refl ∙ sym (z.same s (shade s (Went i n f) (waiting t s)));
        fairly = to_both _ _ (there (λ (s : ℕ). has n (waiting t s)) s i h) (z.fairly s (shade s (Went i n f) (waiting t s)));
        granted = λ g a. put_cases (λ (x : Slot). is_among bound_states x.stream ≡ true → x.stream.granted ≡ grant_by s zs g) closed t.slots i s y
            (λ e d. (m d).1 ∙ ap (λ (j : ℕ). (stream t j).granted) (sym e) ∙ a (rw e (m d).0) ∙ sym (z.grant s g))
            (λ d. a d ∙ sym (z.grant s g));
        rootedly = λ k a. z.rootedly s k;
        opens = λ k a o. rw (z.opens s k) (a (sym (put_same is_open_of closed t.slots i s y refl) ∙ o));
      }
    where
      y : Slot
      y = record { is_open = (slot t i).is_open; stream = x; waiting = without n (waiting t i) }

  pub shows_more : (n c : ℕ) → length (waiting t i) < most_open → Shows t (Came i n ∷ []) (with_numbers (with_counter t c) i x (waiting t i ++ (n ∷ [])))
  unfolding with_counter with_numbers with_slot
  shows_more n c l s = record {
    shaded = put_in waiting_of closed (λ (w : List ℕ). w ++ (n ∷ [])) t.slots i s y (within is_open_of closed refl t.slots i o) refl;
    fairly = to_both _ true (there (λ (s : ℕ). ltb (length (waiting t s)) most_open) s i (lt-ltb _ _ l)) refl;
    granted = λ g a. put_cases (λ (x : Slot). is_among bound_states x.stream ≡ true → x.stream.granted ≡ g) closed t.slots i s y
        (λ e d. (m d).1 ∙ ap (λ (j : ℕ). (stream t j).granted) (sym e) ∙ a (rw e (m d).0)) a;
    rootedly = λ k a. to_both _ true (picked (λ (b : Bool). b ≡ true) (eqb s i) _ _ (λ e. lt-ltb 0 k (a (ap (λ (j : ℕ). (slot t j).is_open) (eqb-true s i e) ∙ o))) (λ e. refl)) refl;
    opens = λ k a p. a (sym (put_same is_open_of closed t.slots i s y refl) ∙ p);
  }
    where
      y : Slot
      y = record { is_open = (slot t i).is_open; stream = x; waiting = waiting t i ++ (n ∷ []) }

-- a closed stream opens
pub shows_opens : (t : Table) (i : ℕ) → i < length t.slots → length (waiting t i) ≡ 0 → Shows t (Began i ∷ []) (with_slot (remembering t) i just_opened)
unfolding remembering with_slot
shows_opens t i b z s = record {
  shaded = put_in waiting_of closed (λ (w : List ℕ). []) t.slots i s just_opened b refl;
  fairly = to_both _ true (there (λ (s : ℕ). eqb (length (waiting t s)) 0) s i (eq-eqb _ _ z)) refl;
  granted = λ g a. picked (λ (v : ℕ). is_among bound_states (stream u s) ≡ true → (stream u s).granted ≡ v) (eqb s i) 0 g
      (λ e m. let z : slot u s ≡ just_opened = ap (slot u) (eqb-true s i e) ∙ get_or-set_same t.slots i just_opened closed b in
      absurd (false≢true (ap (λ (x : Slot). is_among bound_states x.stream) (sym z) ∙ m)))
      (λ e m. let z : slot u s ≡ slot t s = get_or-set_other t.slots i s just_opened closed (eqb-false s i e) in
      ap (λ (x : Slot). x.stream.granted) z ∙ a (subst (λ (x : Slot). is_among bound_states x.stream ≡ true) z m));
  rootedly = λ k a. refl;
  opens = λ k a. picked (λ (m : ℕ). (slot u s).is_open ≡ true → 0 < m) (eqb s i) _ _ (λ e o. omega arith)
      (λ e o. a (ap is_open_of (sym (get_or-set_other t.slots i s just_opened closed (eqb-false s i e))) ∙ o));
}
  where
    u : Table
    u = with_slot (remembering t) i just_opened

-- a bind grants
pub shows_binds : (t : Table) (i : ℕ) → (slot t i).is_open ≡ true → (x : Stream) → Shows t (Given i x.granted ∷ []) (with_stream t i x)
unfolding with_stream with_numbers with_slot
shows_binds t i h x s = record {
  shaded = put_same waiting_of closed t.slots i s y refl;
  fairly = refl;
  granted = λ d f. at_b d f (eqb s i) refl;
  rootedly = λ k a. refl;
  opens = λ k a o. a (sym (put_same is_open_of closed t.slots i s y refl) ∙ o);
}
  where
    y : Slot
    y = record { is_open = (slot t i).is_open; stream = x; waiting = waiting t i }

    at_b : (d : ℕ) → (is_among bound_states (stream t s) ≡ true → (stream t s).granted ≡ d) → (b : Bool) → eqb s i ≡ b
        → is_among bound_states (stream (with_slot t i y) s) ≡ true → (stream (with_slot t i y) s).granted ≡ pick b x.granted d
    at_b d f true q m =
        let z : slot (with_slot t i y) s ≡ y = ap (slot (with_slot t i y)) (eqb-true s i q) ∙ get_or-set_same t.slots i y closed (within is_open_of closed refl t.slots i h) in
        ap (λ (x : Slot). x.stream.granted) z
    at_b d f false q m =
        let z : slot (with_slot t i y) s ≡ slot t s = get_or-set_other t.slots i s y closed (eqb-false s i q) in
        ap (λ (x : Slot). x.stream.granted) z ∙ f (subst (λ (x : Slot). is_among bound_states x.stream ≡ true) z m)

-- a stream closes: a line for each open number, oldest first, or nothing
pub shows_closes : (t : Table) (i : ℕ) (ys : List Line) → (slot t i).is_open ≡ true → ((s : ℕ) → Taken s i ys (waiting t s) (pick (eqb s i) [] (waiting t s)))
    → ((s g : ℕ) → grant_by s ys g ≡ g) → Shows t ys (with_slot t i closed)
unfolding with_slot
shows_closes t i ys h l d s = record {
  shaded = put_in waiting_of closed (λ (w : List ℕ). []) t.slots i s closed (within is_open_of closed refl t.slots i h) refl ∙ sym (l s).left;
  fairly = (l s).fairly;
  granted = λ g a. put_cases (λ (x : Slot). is_among bound_states x.stream ≡ true → x.stream.granted ≡ grant_by s ys g) closed t.slots i s closed
      (λ e b. absurd (false≢true b)) (λ b. a b ∙ sym (d s g));
  rootedly = λ k a. (l s).rootedly k;
  opens = λ k a o. rw ((l s).opens k) (a (put_cases (λ (x : Slot). x.is_open ≡ true → (slot t s).is_open ≡ true) closed t.slots i s closed (λ e c. absurd (false≢true c)) (λ c. c) o));
}
