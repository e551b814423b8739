-- Connectionless traffic (document 02), of the call for C: a datagram and a frame change nothing, since the datagram's row leads to its
-- own state and a frame's is not followed. What is written is what one walk of the call leaves: u and its M, or for each stream that the
-- frame comes to, in order, UNITDATA_IND and its M.
use Rattle.std.proofs.Common.{None, Ok, Some}
use Prim.Native.Nat.{ℕ, ◌+◌, ◌*◌, ◌≤◌, ◌<◌}
use native.Mathlib.Omega.{arith}
use mathlib.Core.Path.{◌≡◌, refl, sym, ap, subst, ◌∙◌}
use mathlib.Core.Bool.{Bool, true, false, false≢true}
use mathlib.Core.List.{List, [], ◌∷◌, ◌++◌, append-nil, append_assoc}
use lib.ListN.{length, get_or, take, drop}
use lib.Seq.{take-take}
use lib.Dec.{eqb, ltb, leb}
use borrow.Author.Tests.{eqb-true, eq-eqb, lt-ltb}
use Rattle.ledger.specs.Choice.{pick, both, asks}
use Rattle.ledger.specs.Tally.{occ, has, ascending}
use Rattle.ledger.specs.Lists.{joined}
use Rattle.ledger.proofs.Tallies.{both_of, to_both, of_either, same_test, has_if, one_most, within}
use Rattle.ledger.proofs.Sums.{of-asks}
use Rattle.octets.specs.Numbers.{be32_at}
use Rattle.octets.specs.Runs.{part, same_bytes}
use Rattle.octets.specs.Blocks.{block_size, flat, pad_to, pad}
use Rattle.paper.specs.Base.{mac_size, most_address, stream_total, length_of, form_of, number, is_in, Slot, closed, Table, slot, stream, token_of, mac_of}
use Rattle.paper.specs.RecordsIn.{head_size, pair_size, size_of, is_message, stream_in, size_in, sap_at, wants_data, has_data}
use Rattle.paper.specs.RecordsIn.{block_in, message_in, data_in, frame_called_in, frame_calling_in, frame_data_in, input_of}
use Rattle.paper.specs.RecordsOut.{order, unitdata, datum, bytes_of, all_bytes, in_order}
use Rattle.paper.specs.Replies.{unitdata_fields}
use Rattle.paper.specs.Refusals.{Outcome, refused, served}
use Rattle.paper.specs.Datagrams.{is_for, is_shown, shown_to, indications}
use Rattle.paper.specs.Effects.{changed, carried, enacted, orders_in, ups_in, told, effect_of}
use Rattle.paper.specs.Messages.{code_in, asked_by}
use Rattle.paper.specs.Sight.{request_asks}
use Rattle.paper.specs.StateRows.{unitdata_req, frame_arrives, seat, stays, state_rows, found, is_found}
use Rattle.paper.specs.Step.{step}
use Rattle.paper.specs.declared.Form.{Form}
use Rattle.paper.specs.declared.Form.TheVariants.{WithSap, WithType}
use Rattle.paper.specs.declared.Frame.{Frame}
use Rattle.paper.specs.declared.Input.{Input}
use Rattle.paper.specs.declared.Input.TheVariants as input
use Rattle.paper.specs.declared.Kind.TheVariants as kind
use Rattle.paper.specs.declared.LineOrder.TheVariants as line_order
use Rattle.paper.specs.declared.Request.{Request}
use Rattle.paper.specs.declared.Rule.{Rule}
use Rattle.paper.specs.declared.Service.{Service}
use Rattle.paper.specs.declared.StateRow.{StateRow}
use Rattle.paper.specs.declared.Stream.{Stream}
use Rattle.paper.proofs.Effects.{errors_in}
use Rattle.paper.proofs.Fair as fair
use Rattle.paper.proofs.Fair.{Fair, informs, tells_token, attaches, detaches, binds, unbinds, connects, accepts_here, accepts_on, denies, disconnects, resets, answers_reset, sends_data}
use Rattle.paper.proofs.Frames.{shown_by, shown_count, shown_ascending, shown_few, indication-long, indications-long}
use Rattle.paper.proofs.Letters.{Letter, LetterOfFrame, letter}
use Rattle.paper.proofs.Pairs.{code_in_lem, paired, data_lent, datagram_offset}
use Rattle.paper.proofs.Records.{least_size, read-long}
use Rattle.paper.proofs.RowFound.{row-cause, has_all}
use Rattle.paper.proofs.Tails.{form_least}
use Rattle.paper.proofs.Walk.{done, erring, failing, serving, Way, refusing, adding, opening, closing, answering, bringing, showing, step_walk, any_walk}
use Rattle.table_image.specs.Layout.{table_of, sound_image}
use Rattle.call_outcomes.specs.Leaving.{call_of}
use Rattle.keeping.proofs.Images.{table-sound}
use Rattle.keeping.proofs.Tested.{sound_test}
use Rattle.promises.specs.Answers.{errors_told}
use Rattle.promises.specs.Datagrams.{own_length, sent_bytes, comes_to, shown_with, shown_bytes}
use Rattle.promises.specs.Harness.{Lending, left_on, came_back}
use Rattle.promises.specs.History.{Answered}
use Rattle.promises.proofs.Demand2.{errors_of_the_call}
use Rattle.promises.proofs.ErrorAck.{still_leaves_image}
use Rattle.promises.proofs.Harness.{outcome, sound-call}
use Rattle.promises.proofs.Orderly.{event_letters, event_letter}
use Rattle.promises.proofs.Verdicts.{erring_tells}

-- ---- a datagram

-- The call on a message of code 0x07 comes to a refusal, an error, or u with its M.
data Sending (t : Table) (r : List ℕ) : Outcome → Type 0 where
  refuses : {n : ℕ} → 0 < n → Sending t r (refused t n)
  errs : (i code : ℕ) (w : Rule) → Sending t r (erring t i code w)
  sends : {i at : ℕ} → stream_in r ≡ i → be32_at r (head_size + 8) ≡ at → has_data r ≡ true
      → Sending t r (served t (order i (line_order.Unitdata at (form_of (stream t i).sap)) (pad_to most_address (part (block_in r) at (own_length (stream t i)))) ∷ datum i (data_in r) ∷ []))

module _ (t : Table) (r : List ℕ) where
  -- the datagram's row leads to its own state
  row_stays : (s : Stream) {x : StateRow} → found state_rows s unitdata_req ≡ Some x → eqb x.to x.from ≡ true
  row_stays s h = of-asks _ _ (has_all state_rows s unitdata_req h (λ (x : StateRow). asks (eqb x.cause unitdata_req) (eqb x.to x.from)) refl) (eq-eqb _ _ (row-cause state_rows s unitdata_req h))

  -- no other request has its code
  served-sends : (i l : ℕ) (x : StateRow) {q : Request} {c : ℕ} {v : Service} → stream_in r ≡ i → has_data r ≡ true → code_in (message_in r l) ≡ unitdata_req
      → asked_by (message_in r l) ≡ Ok q → found state_rows (stream t i) (request_asks q).cause ≡ Some x → (request_asks q).cause ≡ unitdata_req
      → Fair t i (message_in r l) q c v → Sending t r (done t i c r (effect_of x (token_of i) (stream t i) v))
  unfolding enacted changed carried told orders_in ups_in in_order effect_of
  served-sends i l x s d k a h z informs = absurd (omega (arith, z))
  served-sends i l x s d k a h z tells_token = absurd (omega (arith, z))
  served-sends i l x s d k a h z (attaches y) = absurd (omega (arith, z))
  served-sends i l x s d k a h z detaches = absurd (omega (arith, z))
  served-sends i l x s d k a h z (binds y) = absurd (omega (arith, z))
  served-sends i l x s d k a h z unbinds = absurd (omega (arith, z))
  served-sends i l x s d k a h z (connects y) = absurd (omega (arith, z))
  served-sends i l x s d k a h z (accepts_here y w) = absurd (omega (arith, z))
  served-sends i l x s d k a h z (accepts_on y w) = absurd (omega (arith, z))
  served-sends i l x s d k a h z (denies y w) = absurd (omega (arith, z))
  served-sends i l x s d k a h z (disconnects y w) = absurd (omega (arith, z))
  served-sends i l x s d k a h z resets = absurd (omega (arith, z))
  served-sends i l x s d k a h z answers_reset = absurd (omega (arith, z))
  served-sends i l x s d k a h z (sends_data y) = rw (row_stays (stream t i) h) (sends s (datagram_offset r l k a) d)

  -- no other record begins so
  not-message : {P : Type 0} {b : ℕ} → get_or r 0 0 ≡ b → is_message b ≡ false → is_message (get_or r 0 0) ≡ true → P
  not-message e f h = absurd (false≢true (sym f ∙ sym (ap is_message e) ∙ h))

  no_event : {P : Type 0} → has (get_or r 0 0) event_letters ≡ true → is_message (get_or r 0 0) ≡ true → P
  no_event l h = of_either (eqb (get_or r 0 0) 80) (eqb (get_or r 0 0) 67) h
      (λ e. other 80 (eqb-true _ _ e) refl) (λ e. other 67 (eqb-true _ _ e) refl)
    where
      other : {P : Type 0} (b : ℕ) → get_or r 0 0 ≡ b → has b event_letters ≡ false → P
      other b e f = absurd (false≢true (sym f ∙ ap (λ (n : ℕ). has n event_letters) (sym e) ∙ l))

  wants_code : wants_data r ≡ true → be32_at r head_size ≡ unitdata_req
  unfolding wants_data
  wants_code w = eqb-true _ _ (both_of (both (leb 4 (size_in r)) (leb (size_in r) block_size)) _ w).1

  on-each_way : {q : Input} {o : Outcome} → Way state_rows t r q o → input_of r ≡ q → Letter r q → is_message (get_or r 0 0) ≡ true → wants_data r ≡ true → Sending t r o
  on-each_way (refusing some few) e k m w = refuses some
  on-each_way (adding a) e k m w = not-message k refl m
  on-each_way (opening h) e k m w = not-message k refl m
  on-each_way (closing h) e k m w = not-message k.kind refl m
  on-each_way (answering {i} {l} s a (failing {w = x} f)) e k m w = errs i (code_in (message_in r l)) x
  on-each_way (answering {i} {l} s a (serving {x = x} f h g)) e k m w =
      let c : code_in (message_in r l) ≡ unitdata_req = code_in_lem r l s.coded ∙ wants_code w in
      served-sends i l x k.stream (paired r e (record { coded = s.coded; whole = s.whole; asks = c })) c a h (sym (fair.asks (message_in r l) a).coded ∙ c) g
  on-each_way (bringing y h d) e k m w = no_event (event_letter t r y k) m
  on-each_way (showing few y) e k m w = not-message k.kind refl m

  sending : (room : ℕ) → is_message (get_or r 0 0) ≡ true → wants_data r ≡ true → Sending t r (step t r room)
  sending room m w = any_walk state_rows t r room (Sending t r) (λ _. refuses (omega arith)) (λ o y. on-each_way y refl (letter r) m w)

  still : {o : Outcome} → Sending t r o → o.table ≡ t
  still (refuses some) = refl
  still (errs i code w) = refl
  still (sends s o d) = refl

  sent_bytes_lem : {o : Outcome} → Sending t r o → o.refusal ≡ 0 → errors_in o.records ≡ [] → all_bytes o.records ≡ sent_bytes (stream t (stream_in r)) r
  sent_bytes_lem (refuses some) z e = absurd (omega (arith, some, z))
  sent_bytes_lem (errs i code w) z e = erring_tells t i code w e
  sent_bytes_lem (sends s o d) z e = rw (data_lent r d, s, o, append-nil (data_in r))

-- A datagram, served, wrong or refused, changes no stream, nor any byte of the image, whatever image is lent.
pub datagram_leaves_image : (img r room : List ℕ) → is_message (get_or r 0 0) ≡ true → wants_data r ≡ true → (call_of img r room).image ≡ img
datagram_leaves_image img r room m w = still_leaves_image img r room (still (table_of img) r (sending (table_of img) r (length room) m w))

-- One that is not refused and tells no error writes u, with the address as it stands in the block, and the M as it was lent, and nothing
-- else.
pub datagram_sent : (img : List ℕ) (c : Lending) → sound_image img ≡ true → is_message (get_or c.bytes 0 0) ≡ true → wants_data c.bytes ≡ true
    → (came_back c (left_on img c)).refusal ≡ 0 → errors_told (came_back c (left_on img c)).written ≡ []
    → (came_back c (left_on img c)).written ≡ sent_bytes (stream (table_of img) (stream_in c.bytes)) c.bytes
datagram_sent img c s m w z e =
    ap (λ (a : Answered). a.written) (sound-call img s c).answer
    ∙ sent_bytes_lem (table_of img) c.bytes (sending (table_of img) c.bytes (length c.room) m w)
    (sym (ap (λ (a : Answered). a.refusal) (sound-call img s c).answer) ∙ z) (sym (errors_of_the_call img c s) ∙ e)

-- ---- a frame

module _ (t : Table) (r : List ℕ) where
  frame_still : {q : Input} {o : Outcome} → Way state_rows t r q o → Letter r q → get_or r 0 0 ≡ 102 → o.table ≡ t
  frame_still (refusing some few) k h = refl
  frame_still (adding a) k h = absurd (omega (arith, k, h))
  frame_still (opening a) k h = absurd (omega (arith, k, h))
  frame_still (closing a) k h = absurd (omega (arith, k.kind, h))
  frame_still (answering s e a) k h = absurd (false≢true (sym (ap is_message h) ∙ k.kind))
  frame_still (bringing y x d) k h = absurd (false≢true (sym (ap (λ (b : ℕ). has b event_letters) h) ∙ event_letter t r y k))
  frame_still (showing few y) k h = refl

-- Whatever becomes of a frame, it changes no stream, nor any byte of the image, whatever image is lent.
pub frame_leaves_image : (img r room : List ℕ) → get_or r 0 0 ≡ 102 → (call_of img r room).image ≡ img
frame_leaves_image img r room h =
    let t : Table = table_of img in
    still_leaves_image img r room (any_walk state_rows t r (length room) (λ (o : Outcome). o.table ≡ t) (λ _. refl) (λ o y. frame_still t r y (letter r) h))

frame_records : (t : Table) (r : List ℕ) (f : Frame) {o : Outcome} → Way state_rows t r (input.Frame f) o → o.refusal ≡ 0 → o.records ≡ indications r f (shown_to state_rows t r f)
frame_records t r f (refusing some few) z = absurd (omega (arith, some, z))
frame_records t r f (bringing {i = i} {e = e} y _ _) z = elim y [ ]
frame_records t r f (showing few y) z = refl

-- A frame that is not refused is shown, by one UNITDATA_IND and its M each, to the streams of one list, in its order, and nothing else is
-- written;
pub frame_shown : (img : List ℕ) (c : Lending) (f : Frame) → sound_image img ≡ true → input_of c.bytes ≡ input.Frame f → (came_back c (left_on img c)).refusal ≡ 0
    → (came_back c (left_on img c)).written ≡ all_bytes (indications c.bytes f (shown_to state_rows (table_of img) c.bytes f))
frame_shown img c f s e z =
    let t : Table = table_of img in
    ap (λ (a : Answered). a.written) (sound-call img s c).answer
    ∙ ap all_bytes (frame_records t c.bytes f
    (subst (λ (q : Input). Way state_rows t c.bytes q (outcome t c)) e (step_walk state_rows t c.bytes (length c.room) (sound_test t (table-sound img s))))
    (sym (ap (λ (a : Answered). a.refusal) (sound-call img s c).answer) ∙ z))

-- what each is shown of the frame stands in its bytes.
module _ (r : List ℕ) (f : Frame) (k : LetterOfFrame r f) (w : size_of kind.Frame ≤ length r) where
  one_shown : (i : ℕ) (rest : List ℕ)
      → bytes_of (unitdata i f.form (frame_called_in r f.form ++ frame_calling_in r f.form)) ++ (bytes_of (datum i (frame_data_in r)) ++ rest) ≡ shown_with r (length_of f.form) i ++ rest
  one_shown i rest =
      let n : ℕ = length_of f.form in
      let addresses : List ℕ = frame_called_in r f.form ++ frame_calling_in r f.form in
      let content : List ℕ = flat (unitdata_fields f.form) ++ addresses in
      ap (λ (m : ℕ). 80 ∷ i ∷ m ∷ (pad content ++ (bytes_of (datum i (frame_data_in r)) ++ rest))) (indication-long r f w)
      ∙ ap (λ (b : List ℕ). 80 ∷ i ∷ (24 + n + n) ∷ b) (sym (append_assoc (pad content) (bytes_of (datum i (frame_data_in r))) rest))

  all_shown : (streams : List ℕ) → all_bytes (indications r f streams) ≡ joined (shown_bytes r) streams
  all_shown [] = refl
  all_shown (i ∷ streams) =
      one_shown i (all_bytes (indications r f streams))
      ∙ ap (λ (n : ℕ). shown_with r n i ++ all_bytes (indications r f streams)) (sym k.address)
      ∙ ap (λ (b : List ℕ). shown_bytes r i ++ b) (all_shown streams)

module _ (r : List ℕ) (f : Frame) (e : input_of r ≡ input.Frame f) where
  -- it was read from these bytes, and whole
  frame_letter : LetterOfFrame r f
  frame_letter = subst (Letter r) e (letter r)

  frame_long : size_of kind.Frame ≤ length r
  frame_long = subst (λ (q : Input). least_size q ≤ length r) e (read-long r)

  pub shown_bytes_lem : (streams : List ℕ) → all_bytes (indications r f streams) ≡ joined (shown_bytes r) streams
  shown_bytes_lem = all_shown r f frame_letter frame_long

-- They are 16 pairs at most, 2,656 bytes of the 4,096 that a frame needs.
pub frame_fits : (img : List ℕ) (c : Lending) (f : Frame) → sound_image img ≡ true → input_of c.bytes ≡ input.Frame f → (came_back c (left_on img c)).refusal ≡ 0
    → length (came_back c (left_on img c)).written ≤ stream_total * pair_size
frame_fits img c f s e z = omega (
  arith,
  ap length (frame_shown img c f s e z),
  indications-long c.bytes f (frame_long c.bytes f e) (shown_to state_rows (table_of img) c.bytes f),
  shown_few state_rows (table_of img) f c.bytes,
)

-- ---- the streams of the list

-- the row for frames is that of state 6 in mode 2
frame_row : (s : Stream) → is_found (found state_rows s frame_arrives) ≡ both (is_in 6 s) (eqb s.mode 2)
unfolding found
frame_row s = go (eqb 6 (number s)) (eqb 2 s.mode) ∙ ap (λ (b : Bool). both b (eqb 2 s.mode)) (eqb_swap 6 (number s)) ∙ ap (both (is_in 6 s)) (eqb_swap 2 s.mode)
  where
    eqb_swap : (m n : ℕ) → eqb m n ≡ eqb n m
    eqb_swap m n = same_test (eqb m n) (eqb n m) (λ e. eq-eqb n m (sym (eqb-true m n e))) (λ e. eq-eqb m n (sym (eqb-true n m e)))

    go : (a b : Bool) → is_found (pick (both a b) (Some (stays frame_arrives (seat 6 2))) None) ≡ both a b
    go true true = refl
    go true false = refl
    go false b = refl

-- the form is told by its length
same_form : (a b : Form) → length_of a ≡ length_of b → a ≡ b
same_form WithSap WithSap e = refl
same_form WithSap WithType e = absurd (omega (arith, e))
same_form WithType WithSap e = absurd (omega (arith, e))
same_form WithType WithType e = refl

module _ (t : Table) (full : length t.slots ≡ stream_total) (r : List ℕ) (f : Frame) (k : LetterOfFrame r f) (i : ℕ) where
  -- the called MAC begins the address in either form, and the PPA of the frame is the stream's
  same-mac : (stream t i).ppa.0 ≡ f.ppa.0
      → same_bytes (take mac_size (frame_called_in r f.form)) (mac_of t f.ppa) ≡ same_bytes (part r 6 mac_size) (mac_of t (stream t i).ppa)
  same-mac e =
      ap (λ (m : List ℕ). same_bytes m (mac_of t f.ppa)) (take-take mac_size (length_of f.form) (drop 6 r) (form_least f.form))
      ∙ ap (λ (n : ℕ). same_bytes (part r 6 mac_size) (mac_of t (record { 0 = n }))) (sym e)

  shown_comes : shown_by state_rows t r f i ≡ true → comes_to t r i ≡ true
  unfolding is_shown is_for
  shown_comes h =
      let x : Stream = stream t i in
      let a = both_of (same_bytes (take mac_size (frame_called_in r f.form)) (mac_of t f.ppa)) _ h in
      let b = both_of (slot t i).is_open _ (both_of (ltb i stream_total) _ a.1).1 in
      let c = both_of (is_found (found state_rows x frame_arrives)) _ b.1 in
      let d = both_of (eqb x.ppa.0 f.ppa.0) _ c.1 in
      let e = both_of (eqb x.sap f.sap) _ d.1 in
      let row = both_of (is_in 6 x) (eqb x.mode 2) (sym (frame_row x) ∙ c.0) in
      let p : x.ppa.0 ≡ f.ppa.0 = eqb-true _ _ d.0 in
      let n : own_length x ≡ length_of f.form = eqb-true _ _ e.1 in
      let sap : x.sap ≡ sap_at r (form_of x.sap) 12 = eqb-true _ _ e.0 ∙ sym k.sap ∙ ap (λ (form : Form). sap_at r form 12) (sym (same_form (form_of x.sap) f.form n)) in
      to_both _ _ b.0 (to_both _ _ row.0 (to_both _ _ row.1 (to_both _ _ (eq-eqb _ _ (p ∙ sym k.ppa))
      (to_both _ _ (sym (same-mac p) ∙ a.0) (to_both _ _ (eq-eqb _ _ (n ∙ sym k.address)) (eq-eqb _ _ sap))))))

  comes_shown : comes_to t r i ≡ true → shown_by state_rows t r f i ≡ true
  unfolding is_shown is_for
  comes_shown h =
      let x : Stream = stream t i in
      let a = both_of (slot t i).is_open _ h in
      let b = both_of (is_in 6 x) _ a.1 in
      let c = both_of (eqb x.mode 2) _ b.1 in
      let d = both_of (eqb x.ppa.0 (be32_at r 1)) _ c.1 in
      let e = both_of (same_bytes (part r 6 mac_size) (mac_of t x.ppa)) _ d.1 in
      let g = both_of (eqb (own_length x) (get_or r 5 0)) _ e.1 in
      let p : x.ppa.0 ≡ f.ppa.0 = eqb-true _ _ d.0 ∙ k.ppa in
      let n : own_length x ≡ length_of f.form = eqb-true _ _ g.0 ∙ k.address in
      let sap : x.sap ≡ f.sap = eqb-true _ _ g.1 ∙ ap (λ (form : Form). sap_at r form 12) (same_form (form_of x.sap) f.form n) ∙ k.sap in
      let small : i < stream_total = omega (arith, within (λ (x : Slot). x.is_open) closed refl t.slots i a.0, full) in
      to_both _ _ (same-mac p ∙ e.0) (to_both _ _ (lt-ltb i stream_total small) (to_both _ _ a.0 (to_both _ _ (frame_row x ∙ to_both _ _ b.0 c.0)
      (to_both _ _ (eq-eqb _ _ p) (to_both _ _ (eq-eqb _ _ sap) (eq-eqb _ _ n))))))

-- The streams of the list are exactly those that the frame comes to,
pub shown_exactly : (img r : List ℕ) (f : Frame) → sound_image img ≡ true → input_of r ≡ input.Frame f → (i : ℕ)
    → has i (shown_to state_rows (table_of img) r f) ≡ comes_to (table_of img) r i
shown_exactly img r f s e i =
    let t : Table = table_of img in
    let full : length t.slots ≡ stream_total = (table-sound img s).sixteen in
    let k : LetterOfFrame r f = frame_letter r f e in
    has_if i (shown_to state_rows t r f) _ (shown_count state_rows t f r i)
    ∙ same_test (shown_by state_rows t r f i) (comes_to t r i) (shown_comes t full r f k i) (comes_shown t full r f k i)

-- each once,
pub shown_once : (t : Table) (r : List ℕ) (f : Frame) (i : ℕ) → occ i (shown_to state_rows t r f) ≤ 1
shown_once t r f i = rw (shown_count state_rows t f r i) (one_most (shown_by state_rows t r f i))

-- in stream order.
pub shown_in_order : (t : Table) (r : List ℕ) (f : Frame) → ascending (shown_to state_rows t r f) ≡ true
shown_in_order t r f = shown_ascending state_rows t f r
