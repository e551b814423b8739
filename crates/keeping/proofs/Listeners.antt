-- A listener that takes or loses an open indication is in 9 while one is open, bound in mode 1: so it may go to whatever state its row
-- leads to, and a stream that carries the call may go to 11.
use Rattle.std.proofs.Common.{Option}
use Prim.Native.Nat.{ℕ, suc, ◌≤◌, ◌<◌, ◌^◌}
use native.Mathlib.Omega.{arith}
use mathlib.Core.Path.{◌≡◌, refl, sym, ap, ◌∙◌}
use mathlib.Core.Bool.{Bool, true, false, not}
use mathlib.Core.List.{List, [], ◌∷◌}
use lib.ListN.{length}
use lib.Seq.{get_or-set_same, get_or-set_other}
use lib.Dec.{eqb, ltb}
use borrow.Author.Tests.{eqb-true, ltb-true, lt-ltb, not-true}
use Rattle.ledger.specs.Tally.{occ, has, without, free}
use Rattle.ledger.proofs.Tallies.{both_of, within, empty, length_without, length-without_le}
use Rattle.fates_book.specs.declared.End.{End}
use Rattle.fates_book.specs.declared.End.TheVariants.{Accepted}
use Rattle.fates_book.specs.declared.Line.{Line}
use Rattle.fates_book.specs.declared.Line.TheVariants.{Came, Went}
use Rattle.fates_book.proofs.Shades.{silent}
use Rattle.ledger.proofs.Sums.{occ-without}
use Rattle.paper.specs.Base.{number_of, state_of, number, is_in, is_among, bound_states, connection_states, in_state, settled, Slot, closed, Table, slot, stream, waiting, ppa_numbers, with_slot, with_numbers}
use Rattle.paper.specs.Correlations.{occurrences, one_past}
use Rattle.paper.specs.Effects.{standing, changed, carried, enacted, next, less, more, acting, accepting}
use Rattle.paper.specs.declared.State.{State}
use Rattle.paper.specs.declared.State.TheVariants.{DataXfer}
use Rattle.paper.specs.declared.Stream.{Stream}
use Rattle.paper.specs.declared.Correlation.{Correlation}
use Rattle.paper.specs.declared.StateRow.{StateRow}
use Rattle.paper.specs.declared.Input.{Input}
use Rattle.paper.proofs.Fair.{MayCarry}
use Rattle.paper.proofs.Walk.{done}
use Rattle.paper.proofs.StateNumbers.{bound-attached, settled-bound}
use Rattle.paper.proofs.Saps.{allows}
use Rattle.keeping.specs.Soundness.{Sound}
use Rattle.keeping.specs.RowsFit.{to_state, last_state, may_take, may_lose}
use Rattle.keeping.proofs.Changes.{Fits, eight, in_nine}
use Rattle.keeping.proofs.Leaves.{standing-sound, settle_sound, more-sound}
use Rattle.keeping.proofs.Traces.{Shows, shows_stream, shows_less, shows_more}
use Rattle.keeping.proofs.Lines.{effect_lines}
use Rattle.keeping.proofs.Effects.{Good, same_grant, shows_lines}
use Rattle.paper.specs.declared.LineOrder.{LineOrder}
use Rattle.paper.specs.declared.Reply.{Reply}

module _ (t : Table) (k : Sound t) (i : ℕ) (u : (slot t i).is_open ≡ true) (x : StateRow) (n : Correlation) where
  -- I: one more number, that is free
  pub takes_good : (q : Input) (c : ℕ) (r : List ℕ) (o : Option LineOrder) (f : Bool) (a : Option Reply) → may_take (number (stream t i)) (to_state x) ≡ true
      → ltb (length (waiting t i)) (stream t i).granted ≡ true → free (occurrences t) n.0 ≡ true → n.0 < 2 ^ 32
      → effect_lines q i c (acting (more x (stream t i) n) o f a) ≡ Came i n.0 ∷ [] → Good t q (done t i c r (acting (more x (stream t i) n) o f a))
  unfolding enacted carried changed
  takes_good q c r o f a h l v w y =
      let d : (is_among bound_states (stream t i) ≡ true) × (eqb (to_state x) 9 ≡ true) = both_of _ _ h in
      let g : length (waiting t i) < (stream t i).granted = ltb-true _ _ l in
      let one : (stream t i).mode ≡ 1 = (allows (stream t i) ((k.each i).bound d.0)).some (omega arith) in
      let j : Fits (stream t i) (next x) = record { attached = λ _. bound-attached (number (stream t i)) d.0; bound = λ _. d.0; connected = λ _. one } in
      record {
        kept = more-sound t k i n.0 (one_past n.0) (next x) (omega arith) v w u j d.1 g;
        seen = shows_lines t i q c r (acting (more x (stream t i) n) o f a) _ _ y
            (shows_more t i u (settled (next x) (stream t i)) (same_grant (stream t i) (next x) j) n.0 (one_past n.0) (omega (arith, eight (ppa_numbers t) (slot t i) (k.each i))));
      }

  -- ---- an open number goes
  module _ (h : has n.0 (waiting t i) ≡ true) (e : may_lose (to_state x) (last_state x) ≡ true) where
    abbrev left : List ℕ
    left = without n.0 (waiting t i)

    to_nine : eqb (to_state x) 9 ≡ true
    to_nine = (both_of _ _ e).0

    last_calm : eqb (last_state x) 9 ≡ false
    last_calm = not-true _ (both_of (not (eqb (last_state x) 9)) _ (both_of (eqb (to_state x) 9) _ e).1).0

    last-bound : has (last_state x) bound_states ≡ true
    last-bound = (both_of (not (eqb (last_state x) 9)) _ (both_of (eqb (to_state x) 9) _ e).1).1

    -- where it goes, by what is left, and that it stands there
    abbrev goes_to : List ℕ → State
    goes_to [] = state_of x.last
    goes_to (j ∷ l) = next x

    stands : (w : List ℕ) → standing (state_of x.last) (settled (next x) (stream t i)) w ≡ settled (goes_to w) (stream t i)
    stands [] = ap (settled (state_of x.last)) (settled-bound (stream t i) (next x) (ap (λ (m : ℕ). has m bound_states) (eqb-true (to_state x) 9 to_nine)))
    stands (j ∷ l) = refl

    listening : number (stream t i) ≡ 9
    listening = eqb-true _ _ (in_nine (ppa_numbers t) (slot t i) n.0 (k.each i) h)

    in_mode_one : (stream t i).mode ≡ 1
    in_mode_one = (k.each i).connected (ap (λ (m : ℕ). has m connection_states) listening)

    fits_all : (q : State) → Fits (stream t i) q
    fits_all q = record { attached = λ _. ap (λ (m : ℕ). eqb m 0) listening; bound = λ _. ap (λ (m : ℕ). has m bound_states) listening; connected = λ _. in_mode_one }

    less-sound : Sound (changed t i (less x (stream t i) n))
    unfolding changed
    less-sound = rw (stands left)
        (standing-sound t k i (goes_to left) left u (fits_all (goes_to left)) (suits left) (omega (arith, length-without_le n.0 (waiting t i), (k.each i).few))
        (λ j. omega (arith, occ-without j n.0 (waiting t i), k.once j)))
      where
        suits : (w : List ℕ) → eqb (number_of (goes_to w)) 9 ≡ ltb 0 (length w)
        suits [] = last_calm
        suits (j ∷ l) = to_nine ∙ sym (lt-ltb 0 (suc (length l)) (omega arith))

    -- a line tells of it first
    less_shows : (d : End) (zs : List Line) → silent zs ≡ true → Shows t (Went i n.0 d ∷ zs) (changed t i (less x (stream t i) n))
    unfolding changed
    less_shows d zs z = rw (stands left) (shows_less t i u (settled (goes_to left) (stream t i)) (same_grant (stream t i) (goes_to left) (fits_all (goes_to left))) n.0 d zs h z)

    module _ (q : Input) (c : ℕ) (r : List ℕ) where
      -- a denial, W
      pub less_good : (o : Option LineOrder) (f : Bool) (a : Option Reply) (d : End) (zs : List Line) → effect_lines q i c (acting (less x (stream t i) n) o f a) ≡ Went i n.0 d ∷ zs → silent zs ≡ true
          → Good t q (done t i c r (acting (less x (stream t i) n) o f a))
      unfolding enacted carried
      less_good o f a d zs y z = record { kept = less-sound; seen = shows_lines t i q c r (acting (less x (stream t i) n) o f a) _ _ y (less_shows d zs z) }

      -- an accept: the carrying stream goes to 11, from a bound state other than 9, in mode 1
      module _ (zs : List Line) (y : effect_lines q i c (accepting x (stream t i) n) ≡ Went i n.0 Accepted ∷ zs) (z : silent zs ≡ true) where
        carrier_good : (s : Slot) → slot (changed t i (less x (stream t i) n)) c ≡ s → s.is_open ≡ true → is_in 9 s.stream ≡ false → is_among bound_states s.stream ≡ true
            → s.stream.mode ≡ 1 → Good t q (done t i c r (accepting x (stream t i) n))
        unfolding enacted carried
        carrier_good s g p j b one =
            let v : Table = changed t i (less x (stream t i) n) in
            let f : Fits (stream v c) DataXfer = record {
              attached = λ _. ap (λ (s : Slot). is_in 0 s.stream) g ∙ bound-attached (number s.stream) b;
              bound = λ _. ap (λ (s : Slot). is_among bound_states s.stream) g ∙ b;
              connected = λ _. ap (λ (s : Slot). s.stream.mode) g ∙ one;
            } in
            record {
              kept = settle_sound v less-sound c DataXfer (ap (λ (s : Slot). s.is_open) g ∙ p) (ap (λ (s : Slot). is_in 9 s.stream) g ∙ j) refl f;
              seen = shows_stream t v _ c (settled DataXfer (stream v c)) (shows_lines t i q c r (accepting x (stream t i) n) _ _ y (less_shows Accepted zs z)) (same_grant (stream v c) DataXfer f);
            }

        -- another stream, in 6 and not of mode 2
        pub accept_on : MayCarry t i c → Good t q (done t i c r (accepting x (stream t i) n))
        accept_on f =
            let six : number (stream t c) ≡ 6 = eqb-true _ _ f.idle in
            let b : is_among bound_states (stream t c) ≡ true = ap (λ (m : ℕ). has m bound_states) six in
            carrier_good (slot t c) (unfold changed with_numbers with_slot in get_or-set_other t.slots i c _ closed f.other) f.is_open (ap (λ (m : ℕ). eqb m 9) six) b
            ((allows (stream t c) ((k.each c).bound b)).other f.not_connectionless)

        -- the listener itself, of which no other number is open
        pub accept_here : c ≡ i → length (waiting t i) ≤ 1 → Good t q (done t i c r (accepting x (stream t i) n))
        accept_here g l =
            carrier_good (record { is_open = true; stream = in_state (state_of x.last) (stream t i); waiting = [] })
            (here (empty left (omega (arith, length_without n.0 (waiting t i) (ltb-true 0 (occ n.0 (waiting t i)) h))))) refl last_calm last-bound in_mode_one
          where
            here : left ≡ [] → slot (changed t i (less x (stream t i) n)) c ≡ record { is_open = true; stream = in_state (state_of x.last) (stream t i); waiting = [] }
            here w = unfold changed with_numbers with_slot in
                ap (slot (changed t i (less x (stream t i) n))) g
                ∙ get_or-set_same t.slots i _ closed (within (λ (s : Slot). s.is_open) closed refl t.slots i u)
                ∙ rw (u, w) (ap (λ (s : Stream). record { is_open = true; stream = s; waiting = [] }) (stands [] ∙ settled-bound (stream t i) (state_of x.last) last-bound))
