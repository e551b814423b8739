-- Which fate is which: a served accept says 'accepted' of its number and nothing else, a denial 'denied', a W 'withdrawn', a close
-- 'dropped' of each open one. Each follows from the records that its row writes.
use Rattle.std.proofs.Common.{Ok}
use Prim.Native.Nat.{ℕ, ◌+◌, ◌*◌, ◌<◌}
use mathlib.Core.Path.{◌≡◌, refl, sym, ap, subst, ◌∙◌}
use mathlib.Core.Bool.{Bool, true, false, not}
use mathlib.Core.List.{List, [], ◌∷◌, map, ◌++◌}
use lib.ListN.{length, get_or, set}
use lib.Dec.{eqb}
use native.Mathlib.Omega.{arith}
use borrow.Author.Tests.{eq-eqb, ne_eqb, lt-ltb}
use Rattle.ledger.specs.Choice.{pick}
use Rattle.ledger.specs.Tally.{one_if, occ, all_of}
use Rattle.ledger.proofs.Tallies.{chosen, empty}
use Rattle.paper.specs.Base.{Table, slot, waiting, ppa_numbers}
use Rattle.paper.specs.Correlations.{next_number}
use Rattle.paper.specs.Effects.{orders_in, ups_in, told, effect_of, event_effect}
use Rattle.paper.specs.Openings.{goodbye, goodbyes}
use Rattle.paper.specs.Messages.{code_in}
use Rattle.paper.specs.RecordsIn.{input_of, message_in}
use Rattle.paper.specs.RecordsOut.{Record, in_order}
use Rattle.paper.specs.Refusals.{Outcome, refused}
use Rattle.paper.specs.Saps.{listener}
use Rattle.paper.specs.StateRows.{state_rows}
use Rattle.paper.specs.declared.Correlation.{Correlation}
use Rattle.paper.specs.declared.ConnectResponse.{ConnectResponse}
use Rattle.paper.specs.declared.DisconnectRequest.{DisconnectRequest}
use Rattle.paper.specs.declared.Input.{Input}
use Rattle.paper.specs.declared.Input.TheVariants as input
use Rattle.paper.specs.declared.PpaNumber.{PpaNumber}
use Rattle.paper.specs.declared.Request.{Request}
use Rattle.paper.specs.declared.Request.TheVariants as request
use Rattle.paper.proofs.Fair.{accepts_here, accepts_on, denies, disconnects}
use Rattle.paper.proofs.Walk.{Replied, failing, serving, arriving, Way, refusing, closing, bringing, step_walk}
use Rattle.paper.proofs.Walk as walk
use Rattle.paper.proofs.Effects.{errors_in}
use Rattle.fates_book.specs.declared.End.{End}
use Rattle.fates_book.specs.declared.End.TheVariants.{Accepted, Denied, Withdrawn, Dropped}
use Rattle.fates_book.specs.declared.Line.{Line}
use Rattle.fates_book.specs.declared.Line.TheVariants.{Came, Went, Given}
use Rattle.fates_book.specs.Lines.{telling}
use Rattle.fates_book.specs.Book.{count_of, tallies, still_open, met, Opening, no_indication, mark, newest, on_newest, posts, noted}
use Rattle.fates_book.proofs.Counts.{ends-counted, ring_counted}
use Rattle.fates_book.proofs.Marks.{marked}
use Rattle.fates_book.proofs.Said.{line_of, said}
use Rattle.fates_book.proofs.Telling.{posts-telling, tally_telling, concerns, others_post, others_tally, none_ends, none_comes}
use Rattle.promises.specs.History.{said_by, lines, fates, open_by, counted, accepted, denied, withdrawn, dropped}
use Rattle.promises.specs.Harness.{Lending, Harness, table_in, heard_in, next_in, and_then, CompleteIn, errors_heard}
use Rattle.keeping.specs.Soundness.{Sound}
use Rattle.keeping.proofs.Changes.{quiet}
use Rattle.promises.proofs.Demand3.{once-on_a_stream}
use Rattle.promises.proofs.Harness.{outcome, agreed, errors_heard_lem, lines-heard, refusal-heard, fates-more, counts_more}
use Rattle.promises.proofs.Refused.{refusal-is_all}
use Rattle.keeping.proofs.Closes.{open_nonzero}
use Rattle.keeping.proofs.Tested.{sound_test}
use Rattle.promises.proofs.Verdicts.{erring_tells, complete_answered}

-- ---- of a message that is answered without an error

-- the lines that a message of l bytes to stream i, with n of data, says, where it tells no error
abbrev pub AnswerTells : ℕ → ℕ → ℕ → List Line → Outcome → Type 0
AnswerTells i l n ys o = errors_in o.records ≡ [] → telling (said (input.Message i l n) o.opened o.records) ≡ ys

module _ (t : Table) (i l n : ℕ) (m r : List ℕ) where
  tells_accept : {a : ConnectResponse} {o : Outcome} → Replied state_rows t i m r (Ok (request.ConnectRes a)) o → AnswerTells i l n (Went i a.correlation.0 Accepted ∷ []) o
  unfolding told in_order orders_in ups_in effect_of
  tells_accept (failing {w = w} v) e = erring_tells t i (code_in m) w e
  tells_accept (serving v h (accepts_here w k)) e = refl
  tells_accept (serving v h (accepts_on w k)) e = refl

  tells_denial : {d : DisconnectRequest} {o : Outcome} → 0 < d.correlation.0 → Replied state_rows t i m r (Ok (request.Disconnect d)) o
      → AnswerTells i l n (Went i d.correlation.0 Denied ∷ []) o
  unfolding told in_order orders_in ups_in effect_of
  tells_denial some (failing {w = w} v) e = erring_tells t i (code_in m) w e
  tells_denial {d} some (serving v h (denies n w)) e = rw (ne_eqb d.correlation.0 0 (λ z. omega (arith, z)))
  tells_denial some (serving v h (disconnects n z)) e = absurd (omega (arith, some, z))

pub heard_answered : (x : Harness) (c : Lending) (s : ℕ) (q : Request) (m : CompleteIn x c s q)
    → Replied state_rows (table_in x) s (message_in c.bytes m.size) c.bytes (Ok q) (outcome (table_in x) c)
heard_answered x c = complete_answered state_rows (table_in x) (sound_test (table_in x) (agreed x 0).sound) c.bytes (length c.room)

-- what a complete message says where no error is told
pub message_says : (x : Harness) (c : Lending) (s : ℕ) (q : Request) (ys : List Line) → (m : CompleteIn x c s q)
    → AnswerTells s m.size m.data_length ys (outcome (table_in x) c) → errors_heard x c ≡ [] → telling (said_by (next_in x c)) ≡ ys
message_says x c s q ys m h e =
    ap telling (lines-heard x c ∙ ap (λ (p : Input). said p (outcome (table_in x) c).opened (outcome (table_in x) c).records) m.read)
    ∙ h (sym (errors_heard_lem x c) ∙ e)

-- ---- of an event and of a close that are served

abbrev CallSays : Input → List Line → Outcome → Type 0
CallSays q ys o = o.refusal ≡ 0 → telling (said q o.opened o.records) ≡ ys

module _ (t : Table) (k : Sound t) (r : List ℕ) where
  says_arrives : {p : PpaNumber} {sap : ℕ} {o : Outcome} → Way state_rows t r (input.CallArrives p sap) o
      → CallSays (input.CallArrives p sap) (Came (listener t p sap) (next_number t) ∷ []) o
  unfolding told in_order orders_in ups_in event_effect
  says_arrives (refusing some few) z = absurd (omega (arith, some, z))
  says_arrives (bringing (arriving n h) f d) z = refl

  says_withdrawn : {i : ℕ} {n : Correlation} {reason : ℕ} {o : Outcome} → Way state_rows t r (input.CallWithdrawn i n reason) o
      → CallSays (input.CallWithdrawn i n reason) (Went i n.0 Withdrawn ∷ []) o
  unfolding told in_order orders_in ups_in event_effect
  says_withdrawn (refusing some few) z = absurd (omega (arith, some, z))
  says_withdrawn {i} {n} (bringing (walk.withdrawn u) f d) z = rw (open_nonzero t k i n.0 d)

  module _ (i : ℕ) where
    drops : (w : List ℕ) → ((n : ℕ) → 0 < occ n w → eqb n 0 ≡ false) → telling (map (line_of (input.Close i)) (map (goodbye i) w)) ≡ map (λ (n : ℕ). Went i n Dropped) w
    drops [] h = refl
    drops (n ∷ w) h = rw (h n (rw (eq-eqb n n refl) (omega arith))) (ap (λ (ys : List Line). Went i n Dropped ∷ ys) (drops w (λ m o. h m (omega (arith, o)))))

    says_closes : {o : Outcome} → Way state_rows t r (input.Close i) o → CallSays (input.Close i) (map (λ (n : ℕ). Went i n Dropped) (waiting t i)) o
    unfolding goodbyes
    says_closes (refusing some few) z = absurd (omega (arith, some, z))
    says_closes (bringing {e = e} y _ _) z = elim y [ ]
    says_closes (closing u) z =
        chosen Drops _ _ _ (λ e. drops (waiting t i) (λ n o. open_nonzero t k i n (lt-ltb 0 (occ n (waiting t i)) o)))
        (λ e. rw (empty (waiting t i) (quiet (ppa_numbers t) (slot t i) (k.each i) e))
        (chosen (λ (rs : List Record). telling (map (line_of (input.Close i)) rs) ≡ []) _ _ _ (λ f. refl) (λ f. refl)))
      where
        Drops : List Record → Type 0
        Drops rs = telling (map (line_of (input.Close i)) rs) ≡ map (λ (n : ℕ). Went i n Dropped) (waiting t i)

heard_way : (x : Harness) (c : Lending) (q : Input) → input_of c.bytes ≡ q → Way state_rows (table_in x) c.bytes q (outcome (table_in x) c)
heard_way x c q e =
    subst (λ (p : Input). Way state_rows (table_in x) c.bytes p (outcome (table_in x) c)) e
    (step_walk state_rows (table_in x) c.bytes (length c.room) (sound_test (table_in x) (agreed x 0).sound))

input_says : (x : Harness) (c : Lending) (q : Input) (ys : List Line) → input_of c.bytes ≡ q → CallSays q ys (outcome (table_in x) c)
    → (next_in x c).refusal ≡ 0 → telling (said_by (next_in x c)) ≡ ys
input_says x c q ys e h z =
    ap telling (lines-heard x c ∙ ap (λ (p : Input). said p (outcome (table_in x) c).opened (outcome (table_in x) c).records) e) ∙ h (sym (refusal-heard x c) ∙ z)

-- ---- the laws: what is heard of one call more

-- A served I says that one indication came, to the stream that listens and with the next number, and nothing else.
pub arrival_says : (x : Harness) (c : Lending) (p : PpaNumber) (sap : ℕ) → input_of c.bytes ≡ input.CallArrives p sap
    → (next_in x c).refusal ≡ 0 → telling (said_by (next_in x c)) ≡ Came (listener (table_in x) p sap) (next_number (table_in x)) ∷ []
arrival_says x c p sap e = input_says x c _ _ e (says_arrives (table_in x) (agreed x 0).sound c.bytes (heard_way x c _ e))

-- A refused call says nothing.
pub refused_says_nothing : (x : Harness) (c : Lending) → 0 < (next_in x c).refusal → said_by (next_in x c) ≡ []
refused_says_nothing x c h =
    let o : outcome (table_in x) c ≡ refused (table_in x) (outcome (table_in x) c).refusal
    = refusal-is_all (table_in x) c.bytes (length c.room) (lt-ltb 0 (outcome (table_in x) c).refusal (omega (arith, h, refusal-heard x c))) in
    lines-heard x c ∙ ap (λ (o : Outcome). said (input_of c.bytes) o.opened o.records) o

-- A served accept of number n says 'accepted' of n and nothing else,
pub accept_says : (x : Harness) (c : Lending) (s : ℕ) (a : ConnectResponse) → CompleteIn x c s (request.ConnectRes a)
    → errors_heard x c ≡ [] → telling (said_by (next_in x c)) ≡ Went s a.correlation.0 Accepted ∷ []
accept_says x c s a m = message_says x c s (request.ConnectRes a) _ m (tells_accept (table_in x) s m.size m.data_length _ _ (heard_answered x c s _ m))

-- a denial of n 'denied' of n,
pub denial_says : (x : Harness) (c : Lending) (s : ℕ) (d : DisconnectRequest) → CompleteIn x c s (request.Disconnect d) → 0 < d.correlation.0
    → errors_heard x c ≡ [] → telling (said_by (next_in x c)) ≡ Went s d.correlation.0 Denied ∷ []
denial_says x c s d m h = message_says x c s (request.Disconnect d) _ m (tells_denial (table_in x) s m.size m.data_length _ _ h (heard_answered x c s _ m))

-- a W of n 'withdrawn' of n,
pub withdrawal_says : (x : Harness) (c : Lending) (s : ℕ) (n : Correlation) (reason : ℕ) → input_of c.bytes ≡ input.CallWithdrawn s n reason
    → (next_in x c).refusal ≡ 0 → telling (said_by (next_in x c)) ≡ Went s n.0 Withdrawn ∷ []
withdrawal_says x c s n reason e = input_says x c _ _ e (says_withdrawn (table_in x) (agreed x s).sound c.bytes (heard_way x c _ e))

-- and a close 'dropped' of each open one, oldest first.
pub close_says : (x : Harness) (c : Lending) (s : ℕ) → input_of c.bytes ≡ input.Close s
    → (next_in x c).refusal ≡ 0 → telling (said_by (next_in x c)) ≡ map (λ (n : ℕ). Went s n Dropped) (open_by s (heard_in x))
close_says x c s e z =
    input_says x c _ _ e (says_closes (table_in x) (agreed x s).sound c.bytes s (heard_way x c _ e)) z
    ∙ ap (map (λ (n : ℕ). Went s n Dropped)) (sym (agreed x s).now)

-- ---- and so each is counted under its own name, and under no other, in the stream's newest opening

counts_by : (x : Harness) (c : Lending) (k s : ℕ) (e : End) (w : List ℕ) → telling (said_by (next_in x c)) ≡ map (λ (n : ℕ). Went s n e) w
    → counted k s 0 (heard_in (and_then x c)) ≡ counted k s 0 (heard_in x) + one_if (eqb k (count_of e)) * length w
counts_by x c k s e w h =
    ap (λ (l : List ℕ). get_or l 0 0) (counts_more x c k s)
    ∙ ends-counted k s e w (said_by (next_in x c)) (tallies k s (lines (heard_in x)) []) h

pub accept_counts : (x : Harness) (c : Lending) (k s : ℕ) (a : ConnectResponse) → CompleteIn x c s (request.ConnectRes a)
    → errors_heard x c ≡ [] → counted k s 0 (heard_in (and_then x c)) ≡ counted k s 0 (heard_in x) + one_if (eqb k (count_of Accepted))
accept_counts x c k s a m e = counts_by x c k s Accepted (a.correlation.0 ∷ []) (accept_says x c s a m e) ∙ omega arith

pub denial_counts : (x : Harness) (c : Lending) (k s : ℕ) (d : DisconnectRequest) → CompleteIn x c s (request.Disconnect d) → 0 < d.correlation.0
    → errors_heard x c ≡ [] → counted k s 0 (heard_in (and_then x c)) ≡ counted k s 0 (heard_in x) + one_if (eqb k (count_of Denied))
denial_counts x c k s d m h e = counts_by x c k s Denied (d.correlation.0 ∷ []) (denial_says x c s d m h e) ∙ omega arith

pub withdrawal_counts : (x : Harness) (c : Lending) (k s : ℕ) (n : Correlation) (reason : ℕ) → input_of c.bytes ≡ input.CallWithdrawn s n reason
    → (next_in x c).refusal ≡ 0 → counted k s 0 (heard_in (and_then x c)) ≡ counted k s 0 (heard_in x) + one_if (eqb k (count_of Withdrawn))
withdrawal_counts x c k s n reason e z = counts_by x c k s Withdrawn (n.0 ∷ []) (withdrawal_says x c s n reason e z) ∙ omega arith

pub close_counts : (x : Harness) (c : Lending) (k s : ℕ) → input_of c.bytes ≡ input.Close s
    → (next_in x c).refusal ≡ 0 → counted k s 0 (heard_in (and_then x c)) ≡ counted k s 0 (heard_in x) + one_if (eqb k (count_of Dropped)) * length (open_by s (heard_in x))
close_counts x c k s e z = counts_by x c k s Dropped (open_by s (heard_in x)) (close_says x c s e z)

pub arrival_counts : (x : Harness) (c : Lending) (k : ℕ) (p : PpaNumber) (sap : ℕ) → input_of c.bytes ≡ input.CallArrives p sap → (next_in x c).refusal ≡ 0
    → counted k (listener (table_in x) p sap) 0 (heard_in (and_then x c)) ≡ counted k (listener (table_in x) p sap) 0 (heard_in x) + one_if (eqb k 0)
arrival_counts x c k p sap e z =
    let s : ℕ = listener (table_in x) p sap in
    ap (λ (l : List ℕ). get_or l 0 0) (counts_more x c k s)
    ∙ ring_counted k s (next_number (table_in x)) (said_by (next_in x c)) (tallies k s (lines (heard_in x)) []) (arrival_says x c p sap e z)

-- by name:
pub accept_raises : (x : Harness) (c : Lending) (s : ℕ) (a : ConnectResponse) → CompleteIn x c s (request.ConnectRes a)
    → errors_heard x c ≡ [] → accepted s 0 (heard_in (and_then x c)) ≡ accepted s 0 (heard_in x) + 1
accept_raises x c = accept_counts x c (count_of Accepted)

pub denial_raises : (x : Harness) (c : Lending) (s : ℕ) (d : DisconnectRequest) → CompleteIn x c s (request.Disconnect d) → 0 < d.correlation.0
    → errors_heard x c ≡ [] → denied s 0 (heard_in (and_then x c)) ≡ denied s 0 (heard_in x) + 1
denial_raises x c = denial_counts x c (count_of Denied)

pub withdrawal_raises : (x : Harness) (c : Lending) (s : ℕ) (n : Correlation) (reason : ℕ) → input_of c.bytes ≡ input.CallWithdrawn s n reason
    → (next_in x c).refusal ≡ 0 → withdrawn s 0 (heard_in (and_then x c)) ≡ withdrawn s 0 (heard_in x) + 1
withdrawal_raises x c = withdrawal_counts x c (count_of Withdrawn)

pub close_raises : (x : Harness) (c : Lending) (s : ℕ) → input_of c.bytes ≡ input.Close s
    → (next_in x c).refusal ≡ 0 → dropped s 0 (heard_in (and_then x c)) ≡ dropped s 0 (heard_in x) + length (open_by s (heard_in x))
close_raises x c s e z = close_counts x c (count_of Dropped) s e z ∙ omega arith

-- ---- and is entered at its own indication: where a call says one end of n, the still open indication of the newest opening that
-- bears n meets it, and nothing else of that opening changes

pub ends_in_the_book : (x : Harness) (c : Lending) (s n k : ℕ) (e : End) → telling (said_by (next_in x c)) ≡ Went s n e ∷ []
    → k < length (newest (fates s (heard_in x))) → get_or (newest (fates s (heard_in x))) k no_indication ≡ record { number = n; fate = still_open }
    → newest (fates s (heard_in (and_then x c))) ≡ set (newest (fates s (heard_in x))) k (record { number = n; fate = met e })
unfolding posts
ends_in_the_book x c s n k e t l h =
    ap newest (fates-more x c s ∙ sym (posts-telling s (said_by (next_in x c)) (fates s (heard_in x))) ∙ ap (λ (ys : List Line). posts s ys (fates s (heard_in x))) t)
    ∙ ap (λ (b : Bool). newest (pick b (on_newest (mark n e) (fates s (heard_in x))) (fates s (heard_in x)))) (eq-eqb s s refl)
    ∙ front (fates s (heard_in x))
    ∙ marked n e (newest (fates s (heard_in x))) k l h (once-on_a_stream x s n)
  where
    front : (b : List Opening) → newest (on_newest (mark n e) b) ≡ mark n e (newest b)
    front [] = refl
    front (o ∷ b) = refl

-- one that rings in is entered as the youngest, still open,
pub arrival_in_the_book : (x : Harness) (c : Lending) (p : PpaNumber) (sap : ℕ) → input_of c.bytes ≡ input.CallArrives p sap → (next_in x c).refusal ≡ 0
    → newest (fates (listener (table_in x) p sap) (heard_in (and_then x c)))
    ≡ newest (fates (listener (table_in x) p sap) (heard_in x)) ++ (record { number = next_number (table_in x); fate = still_open } ∷ [])
unfolding posts
arrival_in_the_book x c p sap e z =
    let s : ℕ = listener (table_in x) p sap in
    let n : ℕ = next_number (table_in x) in
    ap newest (fates-more x c s ∙ sym (posts-telling s (said_by (next_in x c)) (fates s (heard_in x))) ∙ ap (λ (ys : List Line). posts s ys (fates s (heard_in x))) (arrival_says x c p sap e z))
    ∙ ap (λ (b : Bool). newest (pick b (on_newest (noted n) (fates s (heard_in x))) (fates s (heard_in x)))) (eq-eqb s s refl)
    ∙ front n (fates s (heard_in x))
  where
    front : (n : ℕ) (b : List Opening) → newest (on_newest (noted n) b) ≡ noted n (newest b)
    front n [] = refl
    front n (o ∷ b) = refl

-- ---- and nothing else changes, in fates or counts

abbrev Untouched : Harness → Lending → ℕ → Type 0
Untouched x c i = (fates i (heard_in (and_then x c)) ≡ fates i (heard_in x)) × ((k : ℕ) → tallies k i (lines (heard_in (and_then x c))) [] ≡ tallies k i (lines (heard_in x)) [])

untouched : (x : Harness) (c : Lending) (i : ℕ) (ys : List Line) → telling (said_by (next_in x c)) ≡ ys → all_of (λ (y : Line). not (concerns i y)) ys ≡ true → Untouched x c i
untouched x c i ys e h = (
  fates-more x c i
      ∙ sym (posts-telling i (said_by (next_in x c)) (fates i (heard_in x)))
      ∙ ap (λ (zs : List Line). posts i zs (fates i (heard_in x))) e
      ∙ others_post i ys (fates i (heard_in x)) h,
  λ k. let n : List ℕ = tallies k i (lines (heard_in x)) [] in
      counts_more x c k i ∙ sym (tally_telling k i (said_by (next_in x c)) n) ∙ ap (λ (zs : List Line). tallies k i zs n) e ∙ others_tally k i ys n h,
)

-- of another stream than the one whose indications end,
pub ends-alone : (x : Harness) (c : Lending) (i s : ℕ) (e : End) (w : List ℕ) → telling (said_by (next_in x c)) ≡ map (λ (n : ℕ). Went s n e) w → (i ≡ s → ⊥)
    → (fates i (heard_in (and_then x c)) ≡ fates i (heard_in x)) × ((k : ℕ) → tallies k i (lines (heard_in (and_then x c))) [] ≡ tallies k i (lines (heard_in x)) [])
ends-alone x c i s e w h d = untouched x c i _ h (none_ends i s e w d)

-- or than the one to which an indication comes,
pub arrives-alone : (x : Harness) (c : Lending) (i s n : ℕ) → telling (said_by (next_in x c)) ≡ Came s n ∷ [] → (i ≡ s → ⊥)
    → (fates i (heard_in (and_then x c)) ≡ fates i (heard_in x)) × ((k : ℕ) → tallies k i (lines (heard_in (and_then x c))) [] ≡ tallies k i (lines (heard_in x)) [])
arrives-alone x c i s n h d = untouched x c i _ h (none_comes i s n d)

-- and of any stream where only a grant is said, or nothing.
pub grant_ends_none : (x : Harness) (c : Lending) (i s g : ℕ) → telling (said_by (next_in x c)) ≡ Given s g ∷ []
    → (fates i (heard_in (and_then x c)) ≡ fates i (heard_in x)) × ((k : ℕ) → tallies k i (lines (heard_in (and_then x c))) [] ≡ tallies k i (lines (heard_in x)) [])
grant_ends_none x c i s g h = untouched x c i _ h refl

pub silence_ends_none : (x : Harness) (c : Lending) (i : ℕ) → telling (said_by (next_in x c)) ≡ []
    → (fates i (heard_in (and_then x c)) ≡ fates i (heard_in x)) × ((k : ℕ) → tallies k i (lines (heard_in (and_then x c))) [] ≡ tallies k i (lines (heard_in x)) [])
silence_ends_none x c i h = untouched x c i _ h refl
