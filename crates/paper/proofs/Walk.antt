-- The ways that a call can go, and what the tests on each have shown: the one walk of the call, by any list of state rows. What holds on
-- each way holds of every call.
use Rattle.std.proofs.Common.{Err, None, Ok, Option, Result, Some}
use Prim.Native.Nat.{ℕ, ◌≤◌, ◌<◌}
use native.Mathlib.Omega.{arith}
use mathlib.Core.Path.{◌≡◌, refl, sym, ap, subst, ◌∙◌}
use mathlib.Core.Bool.{Bool, true, false, not}
use mathlib.Core.List.{List, [], ◌∷◌}
use lib.ListN.{length}
use lib.Dec.{ltb}
use borrow.Author.Tests.{ltb-true, ltb-false, leb-false, le-ltb, not-false}
use Rattle.ledger.specs.Choice.{both, ◌⇒◌∣◌}
use Rattle.ledger.proofs.Tallies.{both_of, chosen, skip}
use Rattle.paper.specs.Base.{closed, just_opened, Table, slot, stream, lowest_free, token_of, knows, mac_at, with_slot, with_ppa, remembering, stream_total, most_ppas}
use Rattle.paper.specs.RecordsIn.{most_data, input_of, mac_in, message_in}
use Rattle.paper.specs.RecordsOut.{up, in_order}
use Rattle.paper.specs.Refusals.{little_room, not_open, all_open, no_code, over_long, unexpected, nobody_there, busy, no_new_ppa, not_a_record, not_sound, Outcome, refused, served, served_opening}
use Rattle.paper.specs.Saps.{listener, is_listened_for}
use Rattle.paper.specs.Correlations.{next_number}
use Rattle.paper.specs.Sound.{sound}
use Rattle.paper.specs.Messages.{code_in, asked_by}
use Rattle.paper.specs.Openings.{adds_ppa, opens, goodbyes, closes}
use Rattle.paper.specs.StateRows.{found}
use Rattle.paper.specs.Sight.{sends, brings, nothing, request_asks, letter_of, answer_to, sight_by}
use Rattle.paper.specs.ErrorCodes.{Complaint, error_ack, uderror_ind, complaint_of, reply_by}
use Rattle.paper.specs.ErrorOrder.{verdict_by, verdict_on}
use Rattle.paper.specs.Effects.{changed, carried, enacted, orders_in, behind_reply, ups_in, told, error_effect, effect_of, event_effect}
use Rattle.paper.specs.Decide.{Decision, effect_by, is_due, decide_by}
use Rattle.paper.specs.Step.{conclude, comes, of_open, message, arrives, serve_by, is_readable, step_by}
use Rattle.paper.specs.Room.{room_size, room_for}
use Rattle.paper.specs.Datagrams.{shown_to, indications, frames}
use Rattle.paper.specs.declared.PpaNumber.{PpaNumber}
use Rattle.paper.specs.declared.Correlation.{Correlation}
use Rattle.paper.specs.declared.Input.{Input}
use Rattle.paper.specs.declared.Input.TheVariants as input
use Rattle.paper.specs.declared.Request.{Request}
use Rattle.paper.specs.declared.Rule.{Rule}
use Rattle.paper.specs.declared.Service.{Service}
use Rattle.paper.specs.declared.StateRow.{StateRow}
use Rattle.paper.specs.declared.Event.{Event}
use Rattle.paper.specs.declared.Event.TheVariants as event
use Rattle.paper.specs.declared.Frame.{Frame}
use Rattle.paper.specs.declared.Effect.{Effect}
use Rattle.paper.proofs.Fair.{Asks, asks, Fair, Judged, fails, serves, judged_fairly}
use Rattle.octets.specs.Blocks.{block_size}

-- ---- what comes of a message, and of an event

-- an effect of record r on stream i, done, where stream c carries
abbrev pub done : Table → ℕ → ℕ → List ℕ → Effect → Outcome
done t i c r e = served (enacted t i c r e) (told i c (slot t i) (mac_at t i) r e)

-- an ERROR_ACK or a UDERROR_IND, and nothing else
abbrev pub erring : Table → ℕ → ℕ → Rule → Outcome
erring t i code w = served t (up i (reply_by code (complaint_of w)) [] ∷ [])

-- Message m of record r, which asks this, is answered with the error of the first rule that applies, or is served by its row.
pub data Replied (rows : List StateRow) (t : Table) (i : ℕ) (m r : List ℕ) : Result Request Rule → Outcome → Type 0 where
  failing : {a : Result Request Rule} {w : Rule} → verdict_on rows t i m a ≡ Err w → Replied rows t i m r a (erring t i (code_in m) w)
  serving : {q : Request} {x : StateRow} {c : ℕ} {v : Service} → verdict_on rows t i m (Ok q) ≡ Ok v
      → found rows (stream t i) (request_asks q).cause ≡ Some x → Fair t i m q c v
      → Replied rows t i m r (Ok q) (done t i c r (effect_of x (token_of i) (stream t i) v))

-- That record in brings that event to stream i, past the tests that stand before the event.
pub data Brings (t : Table) : Input → ℕ → Event → Type 0 where
  arriving : {p : PpaNumber} {sap : ℕ} → knows t p ≡ true → listener t p sap < stream_total
      → Brings t (input.CallArrives p sap) (listener t p sap) (event.Arrives (record { 0 = next_number t }))
  accepted : {i : ℕ} → (slot t i).is_open ≡ true → Brings t (input.PeerAccepted i) i event.Accepted
  gone : {i reason : ℕ} → (slot t i).is_open ≡ true → Brings t (input.PeerGone i reason) i (event.Gone reason)
  withdrawn : {i : ℕ} {n : Correlation} {reason : ℕ} → (slot t i).is_open ≡ true
      → Brings t (input.CallWithdrawn i n reason) i (event.Withdrawn n reason)
  reset : {i reason : ℕ} → (slot t i).is_open ≡ true → Brings t (input.PeerReset i reason) i (event.Resets reason)
  confirmed : {i : ℕ} → (slot t i).is_open ≡ true → Brings t (input.ResetConfirmed i) i event.Confirmed

-- ---- the ways of a call

-- a PPA that may be added
pub record MayAdd (t : Table) (p : PpaNumber) : Type 0 where
  pub never_opened : t.remembers ≡ false
  pub few : length t.ppas < most_ppas
  pub new : knows t p ≡ false

-- a message of l bytes to stream i, with n of data, where refusals 2, 5 and 4 do not apply
pub record Sent (t : Table) (i l n : ℕ) : Type 0 where
  pub is_open : (slot t i).is_open ≡ true
  pub coded : 4 ≤ l
  pub whole : l ≤ block_size
  pub few : n ≤ most_data

-- The call on record r, read as that input, comes to that outcome: by a refusal other than 16, by adding a PPA, by opening or closing a
-- stream, by answering a message, by bringing an event that is due, or by showing a frame.
pub data Way (rows : List StateRow) (t : Table) (r : List ℕ) : Input → Outcome → Type 0 where
  refusing : {q : Input} {n : ℕ} → 0 < n → n < 16 → Way rows t r q (refused t n)
  adding : {p : PpaNumber} → MayAdd t p → Way rows t r (input.AddPpa p) (served (with_ppa t (record { number = p; mac = mac_in r })) [])
  opening : lowest_free t < stream_total → Way rows t r input.Open (served_opening (with_slot (remembering t) (lowest_free t) just_opened) (lowest_free t))
  closing : {i : ℕ} → (slot t i).is_open ≡ true → Way rows t r (input.Close i) (served (with_slot t i closed) (goodbyes i (slot t i)))
  answering : {i l n : ℕ} {a : Result Request Rule} {o : Outcome} → Sent t i l n → asked_by (message_in r l) ≡ a → Replied rows t i (message_in r l) r a o
      → Way rows t r (input.Message i l n) o
  bringing : {q : Input} {i : ℕ} {e : Event} {x : StateRow} → Brings t q i e → found rows (stream t i) (letter_of e) ≡ Some x
      → is_due (slot t i) e ≡ true → Way rows t r q (done t i i r (event_effect x (stream t i) e))
  showing : {f : Frame} → f.bytes ≤ most_data → knows t f.ppa ≡ true → Way rows t r (input.Frame f) (served t (indications r f (shown_to rows t r f)))

-- ---- the walk

-- A message that breaks a rule is answered and nothing else is done: behind the fields of what it is told stands nothing.
pub erred : (t : Table) (i c : ℕ) (r : List ℕ) (code : ℕ) (w : Rule) → erring t i code w ≡ done t i c r (error_effect code w)
unfolding enacted changed carried told orders_in ups_in behind_reply in_order
erred t i c r code w = ap (λ (tail : List ℕ). served t (up i (reply_by code (complaint_of w)) tail ∷ [])) (bare (complaint_of w))
  where
    bare : (x : Complaint) → [] ≡ behind_reply (mac_at t i) r (reply_by code x)
    bare (error_ack n) = refl
    bare (uderror_ind n) = refl

module _ (rows : List StateRow) (t : Table) where
  module _ (i : ℕ) (m r : List ℕ) where
    failed : {a : Result Request Rule} {w : Rule} (c : ℕ) → verdict_on rows t i m a ≡ Err w → Replied rows t i m r a (done t i c r (error_effect (code_in m) w))
    failed {a} {w} c e = subst (Replied rows t i m r a) (erred t i c r (code_in m) w) (failing e)

    -- a request with a row, by the verdict on it
    answered_by_lem : (q : Request) (x : StateRow) (c : ℕ) (v : Result Service Rule) → found rows (stream t i) (request_asks q).cause ≡ Some x
        → verdict_on rows t i m (Ok q) ≡ v → Judged t i m q c v
        → Replied rows t i m r (Ok q) (done t i c r (effect_by (Some x) (token_of i) (code_in m) (stream t i) v))
    unfolding effect_by
    answered_by_lem q x c (Err w) h e (fails f) = failed c e
    answered_by_lem q x c (Ok v) h e (serves f) = serving e h f

    -- a request, by the row found
    by_found : (q : Request) → Asks m q → (f : Option StateRow) → found rows (stream t i) (request_asks q).cause ≡ f
        → verdict_by (sight_by t i f (request_asks q).question) (Ok q) f ≡ verdict_on rows t i m (Ok q)
        → Replied rows t i m r (Ok q)
        (conclude t i r (sight_by t i f (request_asks q).question) (decide_by (sight_by t i f (request_asks q).question) (sends (code_in m) (Ok q)) f))
    unfolding conclude decide_by effect_by
    by_found q s None h e = failed _ (sym e)
    by_found q s (Some x) h e = answered_by_lem q x _ _ h (sym e) (judged_fairly t i m x q s)

    -- what message m asks, decided and enacted
    pub answered : (a : Result Request Rule) → asked_by m ≡ a → Replied rows t i m r a (comes rows t i r (sends (code_in m) a))
    unfolding comes conclude decide_by effect_by
    answered (Err w) e = failed _ refl
    answered (Ok q) e = by_found q (asks m e) _ refl refl

  -- a refusal other than 16
  no : {r : List ℕ} {q : Input} (n : ℕ) → both (ltb 0 n) (ltb n 16) ≡ true → Way rows t r q (refused t n)
  no n h = let b : (ltb 0 n ≡ true) × (ltb n 16 ≡ true) = both_of _ _ h in refusing (ltb-true _ _ b.0) (ltb-true _ _ b.1)

  -- what the line brings to stream i, in record r: refused, or done by its row
  module _ (r : List ℕ) {q : Input} {i : ℕ} {e : Event} (b : Brings t q i e) (n : ℕ) (h : both (ltb 0 n) (ltb n 16) ≡ true) where
    by_row : (f : Option StateRow) → found rows (stream t i) (letter_of e) ≡ f
        → Way rows t r q (conclude t i r (sight_by t i f nothing) (decide_by (sight_by t i f nothing) (brings n e) f))
    unfolding conclude decide_by answer_to
    by_row None f = no n h
    by_row (Some x) f =
        chosen (λ (d : Decision). Way rows t r q (conclude t i r (sight_by t i (Some x) nothing) d)) _ _ _ (λ _. no n h) (λ d. bringing b f (not-false _ d))

    brought : Way rows t r q (comes rows t i r (brings n e))
    unfolding comes
    brought = by_row _ refl

  module _ (r : List ℕ) where
    -- an order of tests, of which each answer is such a way
    infixr 5 ◌⟹◌∣◌
    ◌⟹◌∣◌ : {q : Input} (b : Bool) {o p : Outcome} → Way rows t r q o → (b ≡ false → Way rows t r q p) → Way rows t r q (b ⇒ o ∣ p)
    ◌⟹◌∣◌ {q} b h g = chosen (Way rows t r q) b _ _ (λ _. h) g

    -- of an open stream
    of_open_lem : {q : Input} (i : ℕ) (o : Outcome) → ((slot t i).is_open ≡ true → Way rows t r q o) → Way rows t r q (of_open t i o)
    unfolding of_open
    of_open_lem i o h = _ ⟹ no not_open refl ∣ (λ e. h (not-false _ e))

    -- an event that names its stream
    event_of : {q : Input} {e : Event} (i : ℕ) → ((slot t i).is_open ≡ true → Brings t q i e)
        → Way rows t r q (of_open t i (comes rows t i r (brings unexpected e)))
    event_of i h = of_open_lem i _ (λ o. brought r (h o) unexpected refl)

    -- each kind of record in, as `serve_by` reads
    pub walk : (q : Input) → Way rows t r q (serve_by rows t r q)
    unfolding adds_ppa opens closes message arrives is_listened_for frames
    walk input.Unreadable = no not_a_record refl
    walk input.Malformed = no not_a_record refl
    walk (input.AddPpa p) = _ ⟹ no no_new_ppa refl ∣ (λ n. _ ⟹ no no_new_ppa refl ∣ (λ f. _ ⟹ no no_new_ppa refl ∣ (λ w.
        adding (record { never_opened = n; few = leb-false _ _ f; new = w }))))
    walk input.Open = chosen (Way rows t r input.Open) _ _ _ (λ f. opening (ltb-true _ _ f)) (λ _. no all_open refl)
    walk (input.Close i) = of_open_lem i _ closing
    walk (input.Message i l n) = of_open_lem i _ (λ o. _ ⟹ no over_long refl ∣ (λ w. _ ⟹ no over_long refl ∣ (λ f. _ ⟹ no no_code refl ∣ (λ c.
        answering (record { is_open = o; coded = ltb-false _ _ c; whole = ltb-false _ _ w; few = ltb-false _ _ f }) refl (answered i (message_in r l) r _ refl)))))
    walk (input.CallArrives p sap) = _ ⟹ no nobody_there refl ∣ (λ k. _ ⟹ no nobody_there refl ∣ (λ _. _ ⟹ no nobody_there refl ∣ (λ l.
        brought r (arriving (not-false _ k) (ltb-true _ _ (not-false _ l))) busy refl)))
    walk (input.PeerAccepted i) = event_of i accepted
    walk (input.PeerGone i reason) = event_of i gone
    walk (input.CallWithdrawn i n reason) = event_of i withdrawn
    walk (input.PeerReset i reason) = event_of i reset
    walk (input.ResetConfirmed i) = event_of i confirmed
    walk (input.Frame f) = _ ⟹ no over_long refl ∣ (λ b. _ ⟹ no nobody_there refl ∣ (λ k. showing (ltb-false _ _ b) (not-false _ k)))

    -- ---- the whole call

    module _ (room : ℕ) where
      -- An unsound table is refused with 16.
      pub unsound : sound t ≡ false → step_by rows t r room ≡ refused t not_sound
      unfolding step_by ◌⇒◌∣◌
      unsound e = rw e

      -- On a sound table refusals 10 and 1 come before the record is served.
      pub step_by_lem : (P : Outcome → Type 0) → sound t ≡ true → ((n : ℕ) → 0 < n → n < 16 → P (refused t n))
          → (is_readable (input_of r) ≡ true → room_for (input_of r) ≤ room → P (serve_by rows t r (input_of r))) → P (step_by rows t r room)
      unfolding step_by ◌⇒◌∣◌
      step_by_lem P e f g =
          rw e (chosen P _ _ _ (λ _. f not_a_record (omega arith) (omega arith))
          (λ a. chosen P _ _ _ (λ _. f little_room (omega arith) (omega arith)) (λ b. g (not-false _ a) (ltb-false _ _ b))))

      -- Every call on a sound table goes one of the ways.
      pub step_walk : sound t ≡ true → Way rows t r (input_of r) (step_by rows t r room)
      step_walk e = step_by_lem (Way rows t r (input_of r)) e (λ n some small. refusing some small) (λ _ _. walk (input_of r))

      -- What holds on each way, and of refusal 16, holds of every call, whatever the table.
      pub any_walk : (P : Outcome → Type 0) → (sound t ≡ false → P (refused t not_sound)) → ((o : Outcome) → Way rows t r (input_of r) o → P o) → P (step_by rows t r room)
      any_walk P f g = go (sound t) refl
        where
          go : (b : Bool) → sound t ≡ b → P (step_by rows t r room)
          go true e = g _ (step_walk e)
          go false e = subst P (sym (unsound e)) (f e)

      -- ---- a message that no refusal stands before: it comes to its stream, and is answered

      module _ {i l n : ℕ} {a : Result Request Rule} (e : sound t ≡ true) (roomy : room_size ≤ room) (read : input_of r ≡ input.Message i l n) (s : Sent t i l n)
          (asked : asked_by (message_in r l) ≡ a) where
        pub message-comes : step_by rows t r room ≡ comes rows t i r (sends (code_in (message_in r l)) a)
        unfolding step_by of_open message
        message-comes =
            skip (not (sound t)) _ _ (ap not e)
            ∙ skip (not (is_readable (input_of r))) _ _ (ap (λ (p : Input). not (is_readable p)) read)
            ∙ skip (ltb room (room_for (input_of r))) _ _ (ap (λ (p : Input). ltb room (room_for p)) read ∙ le-ltb _ _ roomy)
            ∙ ap (serve_by rows t r) read
            ∙ skip (not (slot t i).is_open) _ _ (ap not s.is_open)
            ∙ skip (ltb block_size l) _ _ (le-ltb _ _ s.whole)
            ∙ skip (ltb most_data n) _ _ (le-ltb _ _ s.few)
            ∙ skip (ltb l 4) _ _ (le-ltb _ _ s.coded)
            ∙ ap (λ (w : Result Request Rule). comes rows t i r (sends (code_in (message_in r l)) w)) asked

        pub answers : Replied rows t i (message_in r l) r a (step_by rows t r room)
        answers = subst (Replied rows t i (message_in r l) r a) (sym message-comes) (answered i (message_in r l) r a asked)
