-- Every call is orderly, by every list of rows: a refusal is all there is, an error changes nothing, the room that it needs is enough,
-- each record written has its size and names and says what it may, and only O and X change which streams are open. What comes to a
-- stream is enacted as an effect, and each of these holds of any effect: so one walk of the ways of a call shows them all.
use Rattle.std.proofs.Common.{Ok}
use Prim.Native.Nat.{ℕ, suc, ◌+◌, ◌<◌, ◌≤◌}
use native.Mathlib.Omega.{arith}
use mathlib.Core.Path.{◌≡◌, refl, sym, ap, subst, ◌∙◌}
use mathlib.Core.Bool.{Bool, true, false, not, false≢true}
use mathlib.Core.List.{List, [], ◌∷◌, ◌++◌, map}
use lib.ListN.{length, get_or}
use lib.Seq.{get_or-set_same, get_or-set_other}
use lib.Dec.{eqb, ltb}
use borrow.Author.Tests.{eqb-true, eqb-false, eq-eqb, ne_eqb, lt-ltb}
use Rattle.ledger.specs.Choice.{both, either}
use Rattle.ledger.specs.Tally.{occ, has}
use Rattle.ledger.proofs.Tallies.{chosen, to_both, both_none, within, either_right}
use Rattle.fates_book.specs.declared.End.TheVariants.{Denied, Withdrawn, Dropped}
use Rattle.fates_book.specs.declared.Line.TheVariants.{Went}
use Rattle.fates_book.specs.Lines.{is_message_of, may_be_said}
use Rattle.ledger.proofs.Sums.{put_same}
use Rattle.paper.specs.Base.{Slot, closed, just_opened, Table, slot, stream, waiting, lowest_free, token_of, stream_total, address_size, form_of}
use Rattle.paper.specs.Base.{ppa_numbers, mac_of, mac_at, with_slot, with_numbers, with_stream, with_counter, with_ppa, remembering}
use Rattle.paper.specs.Datagrams.{shown_to, indications}
use Rattle.paper.specs.Effects.{changed, carried, enacted, orders_in, error_effect, effect_of, event_effect}
use Rattle.paper.specs.ErrorCodes.{complaint_of}
use Rattle.paper.specs.Messages.{asked_by}
use Rattle.paper.specs.Openings.{goodbye, goodbyes}
use Rattle.paper.specs.RecordsOut.{Record}
use Rattle.paper.specs.Refusals.{Outcome, refused, served, served_opening}
use Rattle.paper.specs.RecordsIn.{head_size, message_size, body_size, pair_size, size_of, input_of, block_in, message_in}
use Rattle.paper.specs.Sound.{sound}
use Rattle.paper.specs.Step.{step_by}
use Rattle.paper.specs.Sight.{request_asks}
use Rattle.paper.specs.StateRows.{unitdata_req, call_arrives, peer_accepted, peer_gone, call_withdrawn, peer_reset, reset_confirmed}
use Rattle.paper.specs.Room.{room_size, room_for, Fits}
use Rattle.paper.specs.declared.Change.{Change}
use Rattle.paper.specs.declared.Change.TheVariants.{Stays, Becomes, Takes, Loses}
use Rattle.paper.specs.declared.Effect.{Effect}
use Rattle.paper.specs.declared.Event.{Event}
use Rattle.paper.specs.declared.Frame.{Frame}
use Rattle.paper.specs.declared.Input.{Input}
use Rattle.paper.specs.declared.Input.TheVariants as input
use Rattle.paper.specs.declared.Kind.TheVariants as kind
use Rattle.paper.specs.declared.Rule.{Rule}
use Rattle.paper.specs.declared.Service.{Service}
use Rattle.paper.specs.declared.Request.{Request}
use Rattle.paper.specs.declared.StateRow.{StateRow}
use Rattle.paper.specs.declared.Stream.{Stream}
use Rattle.paper.proofs.Fair.{asks, Fair, informs, tells_token, attaches, detaches, binds, unbinds, connects, accepts_here, accepts_on, denies, disconnects, resets, answers_reset, sends_data}
use Rattle.paper.proofs.Walk.{done, erring, erred, failing, serving, Brings, arriving, accepted, gone, withdrawn, reset, confirmed}
use Rattle.paper.proofs.Walk.{Sent, Way, refusing, adding, opening, closing, answering, bringing, showing, any_walk}
use Rattle.paper.proofs.RecordsOut.{goodbyes-long}
use Rattle.paper.proofs.Letters.{Letter, letter, no_close}
use Rattle.paper.proofs.Effects.{errors_in, errors_of, service_silent, event_silent, service_fits, error_fits, event_fits, size, told_errors, told-short}
use Rattle.paper.proofs.Frames.{shown_few, indications-long}
use Rattle.paper.proofs.Room.{room_within}
use Rattle.paper.proofs.Pairs.{paired_long}
use Rattle.paper.proofs.Records.{least_size, read-long}
use Rattle.paper.proofs.Tails.{address_field}
use Rattle.fates_book.proofs.Said.{complaint_said}
use Rattle.keeping.specs.Soundness.{Sound}
use Rattle.keeping.proofs.Changes.{eight}
use Rattle.promises.specs.History.{opens_stream, closes_stream, open_after}
use Rattle.promises.proofs.Written.{AllRight, may_end, line_up, told_right, frame_right}
use Rattle.promises.proofs.Runs.{answered_by}
use Rattle.octets.proofs.Runs.{part-most, part_length}
use Rattle.octets.specs.Blocks.{block_size}

never_zero : (s : ℕ) → eqb 0 (suc s) ≡ false
never_zero s = ne_eqb 0 (suc s) (λ e. omega (arith, e))

-- ---- no effect opens or closes a stream

open_numbers_lem : (t : Table) (i : ℕ) (x : Stream) (w : List ℕ) (s : ℕ) → (slot (with_numbers t i x w) s).is_open ≡ (slot t s).is_open
unfolding with_numbers with_slot
open_numbers_lem t i x w s = put_same (λ (y : Slot). y.is_open) closed t.slots i s (record { is_open = (slot t i).is_open; stream = x; waiting = w }) refl

open_changed : (t : Table) (i : ℕ) (c : Change) (s : ℕ) → (slot (changed t i c) s).is_open ≡ (slot t s).is_open
unfolding changed with_stream with_counter with_numbers with_slot
open_changed t i Stays s = refl
open_changed t i (Becomes x) s = open_numbers_lem t i x (waiting t i) s
open_changed t i (Takes x n) s = open_numbers_lem t i x (waiting t i ++ (n.0 ∷ [])) s
open_changed t i (Loses x n last) s = open_numbers_lem t i _ _ s

open_carried : (t : Table) (c : ℕ) (b : Bool) (s : ℕ) → (slot (carried t c b) s).is_open ≡ (slot t s).is_open
unfolding carried with_stream
open_carried t c true s = open_numbers_lem t c _ (waiting t c) s
open_carried t c false s = refl

open_enacted : (t : Table) (i c : ℕ) (m : List ℕ) (e : Effect) (s : ℕ) → (slot (enacted t i c m e) s).is_open ≡ (slot t s).is_open
unfolding enacted
open_enacted t i c m e s = open_carried (changed t i e.change) c e.carries s ∙ open_changed t i e.change s

-- ---- what is shown of a call on table t with the record r, read as q

module _ (t : Table) (r : List ℕ) (q : Input) where
  pub record Orderly (o : Outcome) : Type 0 where
    -- a refusal is all there is, and one of the paper's numbers; 16 is for a table that isn't sound
    pub bare : ltb 0 o.refusal ≡ true → o ≡ refused t o.refusal
    pub small : o.refusal < 17
    pub soundly : sound t ≡ true → o.refusal < 16
    -- an error changes nothing
    pub held : 0 < length (errors_in o.records) → o.table ≡ t
    -- room enough, for records that name and say what they may
    pub short : Sound t → size o.records ≤ room_for q
    pub right : Sound t → AllRight t r q o.records
    -- a served O alone gives a token, and then no record; it and a served X alone change which streams are open
    pub token : (s : ℕ) → opens_stream s (answered_by r o) ≡ eqb o.opened (suc s)
    pub alone : 0 < o.opened → o.records ≡ []
    pub door : Sound t → (s : ℕ) → (slot o.table s).is_open ≡ open_after s (answered_by r o) (slot t s).is_open

  no_token : (o : Outcome) → o.opened ≡ 0 → (s : ℕ) → opens_stream s (answered_by r o) ≡ eqb o.opened (suc s)
  no_token o e s = rw (e, never_zero s) (ap (both (eqb (get_or r 0 0) 79)) (both_none (eqb o.refusal 0)) ∙ both_none (eqb (get_or r 0 0) 79))

  of-refusal : {n : ℕ} → 0 < n → n < 17 → (sound t ≡ true → n < 16) → Orderly (refused t n)
  of-refusal {n} h g k = record {
    bare = λ e. refl;
    small = g;
    soundly = k;
    held = λ e. refl;
    short = λ k. omega arith;
    right = λ k. omega arith;
    token = no_token (refused t n) refl;
    alone = λ e. refl;
    door = λ k s. rw (ne_eqb n 0 (λ e. omega (arith, e)), both_none (eqb (get_or r 0 0) 79), both_none (eqb (get_or r 0 0) 88));
  }

  -- served, with no token
  of-served : (u : Table) (rs : List Record) → (0 < length (errors_in rs) → u ≡ t) → (Sound t → size rs ≤ room_for q) → (Sound t → AllRight t r q rs)
      → (Sound t → (s : ℕ) → (slot u s).is_open ≡ both (not (closes_stream s (answered_by r (served u rs)))) (slot t s).is_open) → Orderly (served u rs)
  of-served u rs h l a d = record {
    bare = λ e. absurd (false≢true e);
    small = omega arith;
    soundly = λ e. omega arith;
    held = h;
    short = l;
    right = a;
    token = no_token (served u rs) refl;
    alone = λ e. absurd (omega arith);
    door = λ k s. d k s ∙ rw (no_token (served u rs) refl s, never_zero s);
  }

  -- and no stream is opened or closed: the record is no X
  of-same_streams : (u : Table) (rs : List Record) → (0 < length (errors_in rs) → u ≡ t) → (Sound t → size rs ≤ room_for q) → (Sound t → AllRight t r q rs)
      → (get_or r 0 0 ≡ 88 → ⊥) → ((s : ℕ) → (slot u s).is_open ≡ (slot t s).is_open) → Orderly (served u rs)
  of-same_streams u rs h l a x d = of-served u rs h l a (λ k s. d s ∙ rw (ne_eqb (get_or r 0 0) 88 x))

  -- ---- an effect on stream i, where stream c carries

  -- its order is right, and its message up says what it may
  record Proper (i c : ℕ) (e : Effect) : Type 0 where
    orders : AllRight t r q (orders_in i c (slot t i) r e.order)
    says : may_be_said r (line_up i e.up) ≡ true

  of_effect : (i c : ℕ) (e : Effect) → Fits e → (0 < length (errors_of e.up) → enacted t i c r e ≡ t) → Proper i c e → (get_or r 0 0 ≡ 88 → ⊥)
      → Orderly (done t i c r e)
  unfolding mac_of
  of_effect i c e f a h x =
      of-same_streams _ _
      (λ z. a (omega (arith, z, ap length (told_errors i c (slot t i) (mac_at t i) r e))))
      (λ k. omega (arith, told-short i c (slot t i) (mac_at t i) r (k.macs _).six e f, (room_within q).0))
      (λ k. told_right t r q i c (slot t i) (mac_at t i) r (k.macs _).six e h.orders h.says)
      x (open_enacted t i c r e)

  -- one that breaks a rule
  of_error : (i code : ℕ) (w : Rule) → (get_or r 0 0 ≡ 88 → ⊥) → Orderly (erring t i code w)
  unfolding enacted changed carried orders_in
  of_error i code w x =
      subst Orderly (sym (erred t i i r code w))
      (of_effect i i (error_effect code w) (error_fits code w) (λ z. refl) (record { orders = omega arith; says = ap (may_be_said r) (complaint_said i code (complaint_of w)) }) x)

  -- one that tells no error
  of_silent : (i c : ℕ) (e : Effect) → Fits e → errors_of e.up ≡ [] → Proper i c e → (get_or r 0 0 ≡ 88 → ⊥) → Orderly (done t i c r e)
  of_silent i c e f a = of_effect i c e f (λ z. absurd (omega (arith, z, ap length a)))

-- ---- what serves a message of stream i, of l bytes and with n of data

module _ (t : Table) (r : List ℕ) (i l n : ℕ) (mine : is_message_of i r ≡ true) (long : message_size ≤ length r) (few : l ≤ block_size) where
  proper_service : (x : StateRow) {q : Request} {c : ℕ} {v : Service} → ((request_asks q).cause ≡ unitdata_req → pair_size ≤ length r) → Fair t i (message_in r l) q c v
      → Proper t r (input.Message i l n) i c (effect_of x (token_of i) (stream t i) v)
  unfolding effect_of orders_in
  proper_service x p informs = record { orders = omega arith; says = refl }
  proper_service x p tells_token = record { orders = omega arith; says = refl }
  proper_service x p (attaches k) = record { orders = omega arith; says = refl }
  proper_service x p detaches = record { orders = omega arith; says = refl }
  proper_service x p (binds b) = record { orders = omega arith; says = mine }
  proper_service x p unbinds = record { orders = omega arith; says = refl }
  proper_service x p (connects {a} h) =
      let w : a.offset + address_size ≤ length (block_in r) = omega (arith, h.inside, part-most r head_size l, part_length r head_size block_size long) in
      record { orders = (record { sized = part_length (block_in r) a.offset address_size w; opened = omega arith; may = refl }, omega arith); says = refl }
  proper_service x p (accepts_here h g) = record { orders = (record { sized = refl; opened = h.number_open; may = mine }, omega arith); says = refl }
  proper_service x p (accepts_on h g) = record { orders = (record { sized = refl; opened = h.number_open; may = mine }, omega arith); says = refl }
  proper_service x p (denies {d} e h) =
      let n : ℕ = d.correlation.0 in
      record { orders = (record { sized = refl; opened = either_right (eqb n 0) _ h; may = may_end r i n Denied mine }, omega arith); says = refl }
  proper_service x p (disconnects e z) = record { orders = (record { sized = refl; opened = refl; may = refl }, omega arith); says = refl }
  proper_service x p resets = record { orders = (record { sized = refl; opened = omega arith; may = refl }, omega arith); says = refl }
  proper_service x p answers_reset = record { orders = (record { sized = refl; opened = omega arith; may = refl }, omega arith); says = refl }
  proper_service x p (sends_data {u} h) = record {
    orders = (
      record { sized = address_field (block_in r) u.offset (form_of (stream t i).sap); opened = omega arith; may = refl },
      (record { sized = part_length r (message_size + 2) body_size (p refl); opened = omega arith; may = refl }, omega arith),
    );
    says = refl;
  }

-- ---- what the line brings

abbrev pub event_letters : List ℕ
event_letters = call_arrives ∷ peer_accepted ∷ peer_gone ∷ call_withdrawn ∷ peer_reset ∷ reset_confirmed ∷ []

module _ (t : Table) (r : List ℕ) where
  proper_event : (x : StateRow) {q : Input} {i : ℕ} {e : Event} → Brings t q i e → Letter r q → Proper t r q i i (event_effect x (stream t i) e)
  unfolding event_effect orders_in
  proper_event x (arriving k h) l = record { orders = omega arith; says = eq-eqb _ _ l }
  proper_event x (accepted o) l = record { orders = omega arith; says = refl }
  proper_event x (gone o) l = record { orders = omega arith; says = refl }
  proper_event x (withdrawn {i} {n} o) l =
      record { orders = omega arith; says = may_end r i n.0 Withdrawn (to_both _ _ (eq-eqb _ _ l.kind) (to_both _ _ (eq-eqb _ _ l.stream) (eq-eqb _ _ l.number))) }
  proper_event x (reset o) l = record { orders = omega arith; says = refl }
  proper_event x (confirmed o) l = record { orders = omega arith; says = refl }

  -- its record begins with an event's letter: I, A, D, W, R or S
  pub event_letter : {q : Input} {i : ℕ} {e : Event} → Brings t q i e → Letter r q → has (get_or r 0 0) event_letters ≡ true
  event_letter (arriving k h) l = ap (λ (b : ℕ). has b event_letters) l
  event_letter (accepted o) l = ap (λ (b : ℕ). has b event_letters) l
  event_letter (gone o) l = ap (λ (b : ℕ). has b event_letters) l
  event_letter (withdrawn o) l = ap (λ (b : ℕ). has b event_letters) l.kind
  event_letter (reset o) l = ap (λ (b : ℕ). has b event_letters) l
  event_letter (confirmed o) l = ap (λ (b : ℕ). has b event_letters) l

  -- ---- O

  of_opening : get_or r 0 0 ≡ 79 → lowest_free t < stream_total → Orderly t r input.Open (served_opening (with_slot (remembering t) (lowest_free t) just_opened) (lowest_free t))
  unfolding remembering with_slot
  of_opening e h = record {
    bare = λ e. absurd (false≢true e);
    small = omega arith;
    soundly = λ e. omega arith;
    held = λ z. absurd (omega arith);
    short = λ k. omega arith;
    right = λ k. omega arith;
    token = λ s. rw e;
    alone = λ z. refl;
    door = λ k s. rw e (at_slot (omega (arith, k.sixteen, h)) s (eqb (lowest_free t) s) refl);
  }
    where
      u : Table
      u = with_slot (remembering t) (lowest_free t) just_opened

      at_slot : lowest_free t < length t.slots → (s : ℕ) (b : Bool) → eqb (lowest_free t) s ≡ b → (slot u s).is_open ≡ either (eqb (suc (lowest_free t)) (suc s)) (slot t s).is_open
      at_slot k s true q =
          let w : lowest_free t ≡ s = eqb-true _ _ q in
          rw (eq-eqb (suc (lowest_free t)) (suc s) (ap suc w))
          (ap (λ (j : ℕ). (slot u j).is_open) (sym w) ∙ ap (λ (x : Slot). x.is_open) (get_or-set_same t.slots (lowest_free t) just_opened closed k))
      at_slot k s false q =
          let w : lowest_free t ≡ s → ⊥ = eqb-false _ _ q in
          rw (ne_eqb (suc (lowest_free t)) (suc s) (λ z. w (omega (arith, z))))
          (ap (λ (x : Slot). x.is_open) (get_or-set_other t.slots (lowest_free t) s just_opened closed (λ z. w (sym z))))

  -- ---- X

  module _ (i : ℕ) (l : Letter r (input.Close i)) where
    errors_goodbyes : (w : List ℕ) → errors_in (map (goodbye i) w) ≡ []
    errors_goodbyes [] = refl
    errors_goodbyes (n ∷ w) = errors_goodbyes w

    right_goodbyes : (w : List ℕ) → ((n : ℕ) → 0 < occ n w → has n (waiting t i) ≡ true) → AllRight t r (input.Close i) (map (goodbye i) w)
    right_goodbyes [] h = omega arith
    right_goodbyes (n ∷ w) h =
        let a : has n (waiting t i) ≡ true = h n (rw (eq-eqb n n refl) (omega arith)) in
        let d : may_be_said r (Went i n Dropped) ≡ true = to_both _ _ (eq-eqb _ _ l.kind) (eq-eqb _ _ l.stream) in
        (record { sized = refl; opened = either_right (eqb n 0) _ a; may = may_end r i n Dropped d }, right_goodbyes w (λ m o. h m (omega (arith, o))))

    of-closing : (slot t i).is_open ≡ true → Orderly t r (input.Close i) (served (with_slot t i closed) (goodbyes i (slot t i)))
    unfolding goodbyes with_slot
    of-closing h =
        chosen P _ _ _
        (λ e. ends _ (errors_goodbyes (waiting t i)) (λ k. omega (arith, goodbyes-long i (waiting t i), (k.each i).few, eight (ppa_numbers t) (slot t i) (k.each i)))
        (right_goodbyes (waiting t i) (λ n h. lt-ltb 0 (occ n (waiting t i)) h)))
        (λ e. chosen P _ _ _ (λ f. ends _ refl (λ k. omega arith) (record { sized = refl; opened = refl; may = refl }, omega arith)) (λ f. ends [] refl (λ k. omega arith) (omega arith)))
      where
        P : List Record → Type 0
        P rs = Orderly t r (input.Close i) (served (with_slot t i closed) rs)

        at_slot : (s : ℕ) (b : Bool) → eqb i s ≡ b → (slot (with_slot t i closed) s).is_open ≡ both (not b) (slot t s).is_open
        at_slot s true q =
            ap (λ (j : ℕ). (slot (with_slot t i closed) j).is_open) (sym (eqb-true i s q))
            ∙ ap (λ (x : Slot). x.is_open) (get_or-set_same t.slots i closed closed (within (λ (x : Slot). x.is_open) closed refl t.slots i h))
        at_slot s false q = ap (λ (x : Slot). x.is_open) (get_or-set_other t.slots i s closed closed (λ z. eqb-false i s q (sym z)))

        ends : (rs : List Record) → errors_in rs ≡ [] → (Sound t → size rs ≤ room_size) → AllRight t r (input.Close i) rs → P rs
        ends rs e b a =
            of-served t r (input.Close i) _ rs (λ z. absurd (omega (arith, z, ap length e))) b (λ k. a) (λ k s. rw (l.kind, l.stream) (at_slot s (eqb i s) refl))

  -- ---- f

  of_frame : (rows : List StateRow) (f : Frame) → get_or r 0 0 ≡ 102 → size_of kind.Frame ≤ length r → Orderly t r (input.Frame f) (served t (indications r f (shown_to rows t r f)))
  of_frame rows f e w =
      let streams : List ℕ = shown_to rows t r f in
      of-same_streams t r (input.Frame f) t (indications r f streams)
      (λ z. refl)
      (λ k. omega (arith, indications-long r f w streams, shown_few rows t f r))
      (λ k. frame_right t r (input.Frame f) r f w streams)
      (λ z. omega (arith, e, z)) (λ s. refl)

-- ---- every way that a call can go

module _ (rows : List StateRow) (t : Table) (r : List ℕ) where
  -- (a message of code 0x07 was read with its M)
  with_data : {i l n : ℕ} {q : Request} → input_of r ≡ input.Message i l n → Sent t i l n → asked_by (message_in r l) ≡ Ok q → (request_asks q).cause ≡ unitdata_req → pair_size ≤ length r
  with_data {l = l} e s a z = paired_long r e (record { coded = s.coded; whole = s.whole; asks = (asks (message_in r l) a).coded ∙ z })

  on-each_way : {q : Input} {o : Outcome} → Way rows t r q o → input_of r ≡ q → Letter r q → least_size q ≤ length r → Orderly t r q o
  unfolding with_ppa
  on-each_way {q} (refusing some few) e l w = of-refusal t r q some (omega (arith, few)) (λ e. few)
  on-each_way (adding {p} a) e l w =
      of-same_streams t r (input.AddPpa p) _ [] (λ z. absurd (omega arith)) (λ k. omega arith) (λ k. omega arith) (λ e. omega (arith, l, e)) (λ s. refl)
  on-each_way (opening h) e l w = of_opening t r l h
  on-each_way (closing {i} h) e l w = of-closing t r i l h
  on-each_way {q} (answering {i} s a (failing {w = x} f)) e k w = of_error t r q i _ x (no_close _ k.kind)
  on-each_way (answering {i} {l = l} {n = n} s a (serving {x = x} {c = c} {v = v} f h g)) e k w =
      of_silent t r (input.Message i l n) i c _ (service_fits x (token_of i) (stream t i) v) (service_silent x (token_of i) (stream t i) v)
      (proper_service t r i l n (to_both _ _ k.kind (eq-eqb _ _ k.stream)) w s.whole x (with_data e s a) g) (no_close _ k.kind)
  on-each_way {q} (bringing {i = i} {e = b} {x = x} y h d) e l w =
      of_silent t r q i i _ (event_fits x (stream t i) b) (event_silent x (stream t i) b) (proper_event t r x y l) (λ z. false≢true (sym (ap (λ (b : ℕ). has b event_letters) z) ∙ event_letter t r y l))
  on-each_way (showing {f} few y) e l w = of_frame t r rows f l.kind w

  pub orderly : (room : ℕ) → Orderly t r (input_of r) (step_by rows t r room)
  orderly room = any_walk rows t r room (Orderly t r (input_of r))
      (λ e. of-refusal t r (input_of r) (omega arith) (omega arith) (λ z. absurd (false≢true (sym e ∙ z)))) (λ o w. on-each_way w refl (letter r) (read-long r))
