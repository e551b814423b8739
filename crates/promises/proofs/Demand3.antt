-- Demand 3, sentence by sentence. "Start from a fresh table and make calls in any sequence, refused ones included": `x` is any
-- harness, `heard_in x` what came back of its calls, `image_in x` the image that it then holds and `table_in x` the table in that.
use Rattle.std.proofs.Common.{Ok}
use Prim.Native.Nat.{ℕ, suc, ◌+◌, ◌≤◌, ◌<◌}
use mathlib.Core.Path.{◌≡◌, refl, sym, ap, ◌∙◌}
use mathlib.Core.Bool.{Bool, true, false, not}
use mathlib.Core.List.{List, [], map, ◌∷◌, ◌++◌}
use lib.ListN.{length, get_or}
use native.Mathlib.Omega.{arith}
use borrow.Author.Tests.{eqb-true, ne_eqb, not-true, lt-ltb}
use Rattle.ledger.proofs.Tallies.{empty, to_both, has_some}
use Rattle.paper.specs.StateRows.{state_rows}
use Rattle.paper.specs.Step.{step}
use Rattle.paper.specs.ErrorOrder.{verdict_on}
use Rattle.fates_book.specs.Book.{Opening, open_count, tallies, count_in, open_of, newest, posts, count_of, how_many}
use Rattle.paper.proofs.Fair.{asks}
use Rattle.promises.proofs.Named.{names_accept, names_denial, open_denied}
use Rattle.fates_book.specs.declared.End.TheVariants.{Accepted, Denied, Withdrawn, Dropped}
use Rattle.fates_book.proofs.Counts.{count_at, indications-counted, met-counted, sums, none_left}
use Rattle.ledger.specs.Tally.{occ, has, all_of}
use Rattle.paper.specs.Base.{number, is_in, bound_states, Slot, closed, fresh, slot, stream, waiting, ppa_numbers, Table}
use Rattle.paper.specs.Correlations.{occurrences}
use Rattle.paper.specs.ErrorCodes.{bad_corr}
use Rattle.paper.specs.RecordsIn.{message_in}
use Rattle.paper.specs.Refusals.{not_sound}
use Rattle.paper.specs.Sound.{sound}
use Rattle.paper.specs.declared.ConnectResponse.{ConnectResponse}
use Rattle.paper.specs.declared.DisconnectRequest.{DisconnectRequest}
use Rattle.paper.specs.declared.Request.{Request}
use Rattle.paper.specs.declared.Request.TheVariants as request
use Rattle.ledger.proofs.Sums.{sum_at, sum_two}
use Rattle.promises.proofs.Refused.{sound-not-sixteen}
use Rattle.promises.proofs.Verdicts.{errors_by, complete_tells}
use Rattle.promises.specs.History.{lines, fates, open_by, granted_by, counted, indicated, accepted, denied, withdrawn, dropped, left_open_in, Answered}
use Rattle.promises.proofs.Runs.{Call, run, history}
use Rattle.promises.proofs.Agreement.{agrees, kept}
use Rattle.keeping.proofs.Changes.{quiet}
use Rattle.keeping.proofs.Kept.{fresh-sound}
use Rattle.keeping.proofs.Tested.{sound_test}
use lib.Dec.{eqb}
use Rattle.table_image.specs.Layout.{sound_image}
use Rattle.fates_book.specs.declared.End.{End}
use Rattle.fates_book.specs.declared.Line.{Line}
use Rattle.fates_book.specs.declared.Line.TheVariants.{Went}
use Rattle.fates_book.proofs.Shades.{fairs, open_posts, went_open}
use Rattle.promises.specs.Harness.{Lending, Harness, image_in, table_in, heard_in, CompleteIn, errors_heard}
use Rattle.keeping.specs.Soundness.{Sound}
use Rattle.promises.proofs.Harness.{fair_heard, calls_of, image-is, history_is, agreed, errors_heard_lem}
use Rattle.keeping.proofs.Images.{image-sound}

-- ---- no call gives 16

-- Calls in any sequence leave a sound table,
stays-sound : (x : Harness) → sound (table_in x) ≡ true
stays-sound x = sound_test (table_in x) (agreed x 0).sound

-- in an image that is tidy too: what a harness holds is always lent soundly,
pub stays_lent : (x : Harness) → sound_image (image_in x) ≡ true
stays_lent x = ap sound_image (image-is x) ∙ image-sound (run fresh (calls_of x)) (agrees 0 (calls_of x)).sound

-- and so no number that came back is refusal 16, whatever could give it.
pub never_sixteen : (x : Harness) → all_of (λ (a : Answered). not (eqb a.refusal not_sound)) (heard_in x) ≡ true
unfolding history
never_sixteen x = ap (all_of (λ (a : Answered). not (eqb a.refusal not_sound))) (history_is x) ∙ none fresh fresh-sound (calls_of x)
  where
    none : (t : Table) → Sound t → (cs : List Call) → all_of (λ (a : Answered). not (eqb a.refusal not_sound)) (history t cs) ≡ true
    none t k [] = refl
    none t k (c ∷ cs) =
        to_both _ _ (ap not (ne_eqb (step t c.bytes c.room).refusal 16 (λ e. omega (arith, e, sound-not-sixteen t c.bytes c.room (sound_test t k)))))
        (none (step t c.bytes c.room).table (kept t k c) cs)

-- ---- exactly one fate

-- "For each opening of a stream, every connection indication written to it is exactly one of: accepted, denied, withdrawn by
-- the line, dropped at close, still open."
pub one_fate-each : (x : Harness) (s j : ℕ)
    → indicated s j (heard_in x)
    ≡ accepted s j (heard_in x) + denied s j (heard_in x) + withdrawn s j (heard_in x) + dropped s j (heard_in x) + left_open_in s j (heard_in x)
one_fate-each x s j =
    let at : (k : ℕ) → counted k s j (heard_in x) ≡ get_or (map (count_in k) (fates s (heard_in x))) j 0 = λ k. ap (λ (l : List ℕ). get_or l j 0) ((agreed x s).counts k) in
    omega (arith, at 0, at 1, at 2, at 3, at 4, sums (fates s (heard_in x)) j)

-- "Those fates are counted from the records written and received, never from a stored sum": each count, by its own rule from
-- the records, is that of the fates, opening by opening.
pub counted_from_records : (x : Harness) (s k : ℕ) → tallies k s (lines (heard_in x)) [] ≡ map (count_in k) (fates s (heard_in x))
counted_from_records x s k = (agreed x s).counts k

-- A count is of the indications themselves: `indicated` of all, each of the others of those with its fate.
counted_are : (x : Harness) (k s j : ℕ) → counted k s j (heard_in x) ≡ count_in k (get_or (fates s (heard_in x)) j [])
counted_are x k s j = ap (λ (l : List ℕ). get_or l j 0) ((agreed x s).counts k) ∙ count_at k (fates s (heard_in x)) j

pub indicated_are : (x : Harness) (s j : ℕ) → indicated s j (heard_in x) ≡ length (get_or (fates s (heard_in x)) j [])
indicated_are x s j = counted_are x 0 s j ∙ indications-counted (get_or (fates s (heard_in x)) j [])

pub accepted_are : (x : Harness) (s j : ℕ) → accepted s j (heard_in x) ≡ how_many Accepted (get_or (fates s (heard_in x)) j [])
accepted_are x s j = counted_are x (count_of Accepted) s j ∙ met-counted Accepted (get_or (fates s (heard_in x)) j [])

pub denied_are : (x : Harness) (s j : ℕ) → denied s j (heard_in x) ≡ how_many Denied (get_or (fates s (heard_in x)) j [])
denied_are x s j = counted_are x (count_of Denied) s j ∙ met-counted Denied (get_or (fates s (heard_in x)) j [])

pub withdrawn_are : (x : Harness) (s j : ℕ) → withdrawn s j (heard_in x) ≡ how_many Withdrawn (get_or (fates s (heard_in x)) j [])
withdrawn_are x s j = counted_are x (count_of Withdrawn) s j ∙ met-counted Withdrawn (get_or (fates s (heard_in x)) j [])

pub dropped_are : (x : Harness) (s j : ℕ) → dropped s j (heard_in x) ≡ how_many Dropped (get_or (fates s (heard_in x)) j [])
dropped_are x s j = counted_are x (count_of Dropped) s j ∙ met-counted Dropped (get_or (fates s (heard_in x)) j [])

-- An opening before the newest has no indication still open (of a newest one that is closed: `closed-has_none`).
pub none_open_at_close : (x : Harness) (s j : ℕ) → left_open_in s (suc j) (heard_in x) ≡ 0
none_open_at_close x s j = none_left (fates s (heard_in x)) (agreed x s).left j

-- ---- the open ones

-- The still open ones by what was heard are the open numbers that the table holds, in order.
pub open_in_the_table : (x : Harness) (s : ℕ) → open_by s (heard_in x) ≡ waiting (table_in x) s
open_in_the_table x s = (agreed x s).now

-- As many are open as the count says.
pub open_count_lem : (x : Harness) (s : ℕ) → left_open_in s 0 (heard_in x) ≡ length (open_by s (heard_in x))
open_count_lem x s = go (fates s (heard_in x))
  where
    go : (b : List Opening) → open_count (get_or b 0 []) ≡ length (open_of (newest b))
    go [] = refl
    go (o ∷ b) = refl

-- Only in state 9 is one open.
pub none_outside_nine : (x : Harness) (s : ℕ) → is_in 9 (stream (table_in x) s) ≡ false → open_by s (heard_in x) ≡ []
none_outside_nine x s e = (agreed x s).now ∙ empty (waiting (table_in x) s) (quiet (ppa_numbers (table_in x)) (slot (table_in x) s) ((agreed x s).sound.each s) e)

-- The errors told are those of the order of errors.
errors_told_lem : (x : Harness) (c : Lending) (s : ℕ) (q : Request) → (m : CompleteIn x c s q)
    → errors_heard x c ≡ errors_by (verdict_on state_rows (table_in x) s (message_in c.bytes m.size) (Ok q))
errors_told_lem x c s q m = errors_heard_lem x c ∙ complete_tells state_rows (table_in x) (stays-sound x) c.bytes (length c.room) s q m

-- "The open ones are exactly those that an accept or a denial may name": while some are open, any other number gets BADCORR,
in_nine_by : (x : Harness) (s : ℕ) → 0 < length (open_by s (heard_in x)) → is_in 9 (stream (table_in x) s) ≡ true
in_nine_by x s h = ((agreed x s).sound.each s).nine ∙ lt-ltb 0 (length (waiting (table_in x) s)) (omega (arith, h, ap length (agreed x s).now))

pub accept_may_name : (x : Harness) (c : Lending) (s : ℕ) (a : ConnectResponse)
    → CompleteIn x c s (request.ConnectRes a) → 0 < length (open_by s (heard_in x))
    → not (has bad_corr (errors_heard x c)) ≡ has a.correlation.0 (open_by s (heard_in x))
accept_may_name x c s a m h =
    ap (λ (l : List ℕ). not (has bad_corr l)) (errors_told_lem x c s (request.ConnectRes a) m)
    ∙ names_accept (table_in x) s (agreed x s).sound (in_nine_by x s h) (message_in c.bytes m.size) a (asks _ m.asks)
    ∙ ap (has a.correlation.0) (sym (agreed x s).now)

pub denial_may_name : (x : Harness) (c : Lending) (s : ℕ) (d : DisconnectRequest)
    → CompleteIn x c s (request.Disconnect d) → 0 < length (open_by s (heard_in x))
    → not (has bad_corr (errors_heard x c)) ≡ has d.correlation.0 (open_by s (heard_in x))
denial_may_name x c s d m h =
    ap (λ (l : List ℕ). not (has bad_corr l)) (errors_told_lem x c s (request.Disconnect d) m)
    ∙ names_denial (table_in x) s (agreed x s).sound (in_nine_by x s h) (message_in c.bytes m.size) d (asks _ m.asks)
    ∙ ap (has d.correlation.0) (sym (agreed x s).now)

pub open_may_be_accepted : (x : Harness) (c : Lending) (s : ℕ) (a : ConnectResponse)
    → CompleteIn x c s (request.ConnectRes a) → has a.correlation.0 (open_by s (heard_in x)) ≡ true
    → has bad_corr (errors_heard x c) ≡ false
open_may_be_accepted x c s a m h = not-true _ (accept_may_name x c s a m (has_some a.correlation.0 (open_by s (heard_in x)) h) ∙ h)

-- and a denial of an open one gets no error at all.
pub open_is-denied : (x : Harness) (c : Lending) (s : ℕ) (d : DisconnectRequest)
    → CompleteIn x c s (request.Disconnect d) → has d.correlation.0 (open_by s (heard_in x)) ≡ true
    → errors_heard x c ≡ []
open_is-denied x c s d m h =
    let n : is_in 9 (stream (table_in x) s) ≡ true = in_nine_by x s (has_some d.correlation.0 (open_by s (heard_in x)) h) in
    errors_told_lem x c s (request.Disconnect d) m
    ∙ open_denied (table_in x) s (agreed x s).sound n (message_in c.bytes m.size) d (asks _ m.asks) (ap (has d.correlation.0) (sym (agreed x s).now) ∙ h)

-- And no other one is ever named: where a record ends an indication, an `a`, a `d` with a number or a DISCONNECT_IND with one, it
-- was open on that stream by the records before it.
pub only_open_ones-end : (x : Harness) (s n : ℕ) (e : End) (before after : List Line) → lines (heard_in x) ≡ before ++ (Went s n e ∷ after)
    → has n (open_of (newest (posts s before []))) ≡ true
only_open_ones-end x s n e before after z =
    ap (has n) (open_posts s before [])
    ∙ went_open s n e before after [] (ap (λ (ys : List Line). fairs s ys []) (sym z) ∙ (fair_heard x s).0)

-- "No two open ones in the table bear one number": not on one stream,
pub once-on_a_stream : (x : Harness) (s n : ℕ) → occ n (open_by s (heard_in x)) ≤ 1
unfolding occurrences
once-on_a_stream x s n =
    let a = agreed x s in
    rw a.now (omega (arith, a.sound.once n, sum_at (λ (y : Slot). occ n y.waiting) closed refl (table_in x).slots s))

-- and not on two.
pub once_in_the_table : (x : Harness) (s i n : ℕ) → (s ≡ i → ⊥) → occ n (open_by s (heard_in x)) + occ n (open_by i (heard_in x)) ≤ 1
unfolding occurrences
once_in_the_table x s i n d =
    let a = agreed x s in
    rw (a.now, (agreed x i).now) (omega (arith, a.sound.once n, sum_two (λ (y : Slot). occ n y.waiting) closed refl (table_in x).slots s i d))

-- "They never exceed the count granted at the bind": that of the last BIND_ACK since the stream was opened.
pub within_the_grant : (x : Harness) (s : ℕ) → length (open_by s (heard_in x)) ≤ granted_by s (heard_in x)
within_the_grant x s = rw (agreed x s).now (few (is_in 9 (stream (table_in x) s)) refl)
  where
    few : (b : Bool) → is_in 9 (stream (table_in x) s) ≡ b → length (waiting (table_in x) s) ≤ granted_by s (heard_in x)
    few true e = omega (arith, ((agreed x s).sound.each s).few, (agreed x s).grants (ap (λ (n : ℕ). has n bound_states) (eqb-true (number (stream (table_in x) s)) 9 e)))
    few false e = omega (arith, quiet (ppa_numbers (table_in x)) (slot (table_in x) s) ((agreed x s).sound.each s) e)
