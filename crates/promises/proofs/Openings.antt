-- Which calls open and close a stream: a served O alone gives a token, and it and a served X alone change which streams are open
-- (`Orderly`); of the lines of a call only that of its token begins an opening.
use Prim.Native.Nat.{ℕ, zero, suc, ◌+◌}
use mathlib.Core.Path.{◌≡◌, refl, sym, ap, ◌∙◌}
use mathlib.Core.Bool.{Bool, true, false}
use mathlib.Core.List.{List, [], ◌∷◌, map}
use lib.ListN.{length}
use lib.Dec.{eqb}
use native.Mathlib.Omega.{arith}
use borrow.Author.Tests.{eqb-true, eqb-false, eq-eqb, ne_eqb}
use Rattle.ledger.specs.Choice.{pick}
use Rattle.ledger.specs.Tally.{one_if}
use Rattle.ledger.proofs.Tallies.{picked}
use Rattle.ledger.proofs.Lists.{replicate-at}
use Rattle.fates_book.specs.declared.End.TheVariants.{Withdrawn}
use Rattle.fates_book.specs.declared.Line.{Line}
use Rattle.fates_book.specs.declared.Line.TheVariants.{Began, Went, Nothing}
use Rattle.fates_book.specs.Book.{earlier, posts, tallies}
use Rattle.fates_book.specs.Lines.{parting, opening_lines}
use Rattle.fates_book.proofs.Said.{order_line, reply_line, line_of}
use Rattle.fates_book.proofs.Shades.{openings, openings_in, openings_append, length-posts, earlier-posts}
use Rattle.paper.specs.Base.{Slot, Table, fresh, slot, closed, stream_total}
use Rattle.paper.specs.RecordsIn.{input_of}
use Rattle.paper.specs.RecordsOut.{Record, order, flush, up, unitdata, datum}
use Rattle.paper.specs.Refusals.{Outcome}
use Rattle.paper.specs.StateRows.{state_rows}
use Rattle.paper.specs.Step.{step}
use Rattle.paper.specs.declared.Input.{Input}
use Rattle.paper.specs.declared.LineOrder.{LineOrder}
use Rattle.paper.specs.declared.LineOrder.TheVariants as line_order
use Rattle.paper.specs.declared.Reply.{Reply}
use Rattle.paper.specs.declared.Reply.TheVariants as reply
use Rattle.promises.specs.History.{Answered, said_by, lines, fates, open_by, opens_stream, opens_of, is_open_by}
use Rattle.promises.specs.Harness.{Lending, Harness, table_in, heard_in, next_in, and_then}
use Rattle.keeping.specs.Soundness.{Sound}
use Rattle.promises.proofs.Runs.{Call, answered_by, run, history}
use Rattle.promises.proofs.Agreement.{lines_from, kept}
use Rattle.promises.proofs.Harness.{outcome, as_call, next-is, lines-heard, fates-more, counts_more, calls_of, history_is, table_is, agreed, fair_heard}
use Rattle.promises.proofs.Orderly.{Orderly, orderly}
use Rattle.keeping.proofs.Kept.{fresh-sound}
use Rattle.promises.proofs.Whole.{read_step}

-- ---- the lines of a call begin an opening where it gives a token, and there alone

no_opening_order : (q : Input) (i : ℕ) (o : LineOrder) (s k : ℕ) → openings s (order_line q i o) k ≡ k
no_opening_order q i (line_order.Connect at) s k = refl
no_opening_order q i (line_order.Accept n) s k = refl
no_opening_order q i (line_order.Disconnect n reason) s k = picked (λ (y : Line). openings s y k ≡ k) (eqb n.0 0) Nothing (Went i n.0 (parting q)) (λ e. refl) (λ e. refl)
no_opening_order q i line_order.Reset s k = refl
no_opening_order q i line_order.ResetAnswer s k = refl
no_opening_order q i (line_order.Unitdata at form) s k = refl

no_opening_reply : (i : ℕ) (r : Reply) (s k : ℕ) → openings s (reply_line i r) k ≡ k
no_opening_reply i (reply.InfoAck x) s k = refl
no_opening_reply i (reply.BindAck sap granted) s k = refl
no_opening_reply i (reply.ErrorAck code error) s k = refl
no_opening_reply i (reply.OkAck code) s k = refl
no_opening_reply i (reply.ConnectInd n) s k = refl
no_opening_reply i reply.ConnectCon s k = refl
no_opening_reply i (reply.TokenAck x) s k = refl
no_opening_reply i (reply.DisconnectInd reason n) s k = picked (λ (y : Line). openings s y k ≡ k) (eqb n.0 0) Nothing (Went i n.0 Withdrawn) (λ e. refl) (λ e. refl)
no_opening_reply i (reply.ResetInd reason) s k = refl
no_opening_reply i reply.ResetCon s k = refl
no_opening_reply i (reply.UderrorInd error) s k = refl

no_openings : (q : Input) (rs : List Record) (s k : ℕ) → openings_in s (map (line_of q) rs) k ≡ k
no_openings q [] s k = refl
no_openings q (order i o called ∷ rs) s k = ap (openings_in s (map (line_of q) rs)) (no_opening_order q i o s k) ∙ no_openings q rs s k
no_openings q (flush i ∷ rs) s k = no_openings q rs s k
no_openings q (up i r tail ∷ rs) s k = ap (openings_in s (map (line_of q) rs)) (no_opening_reply i r s k) ∙ no_openings q rs s k
no_openings q (unitdata i form addresses ∷ rs) s k = no_openings q rs s k
no_openings q (datum i body ∷ rs) s k = no_openings q rs s k

token-opens : (s opened k : ℕ) → openings_in s (opening_lines opened) k ≡ k + one_if (eqb opened (suc s))
token-opens s zero k = rw (ne_eqb 0 (suc s) (λ e. omega (arith, e))) (omega arith)
token-opens s (suc i) k = go (eqb s i) refl
  where
    go : (b : Bool) → eqb s i ≡ b → pick b (suc k) k ≡ k + one_if (eqb (suc i) (suc s))
    go true e = rw (eq-eqb (suc i) (suc s) (ap suc (sym (eqb-true s i e)))) (omega arith)
    go false e = let d : s ≡ i → ⊥ = eqb-false s i e in rw (ne_eqb (suc i) (suc s) (λ z. d (omega (arith, z)))) (omega arith)

-- ---- histories

module _ (s : ℕ) where
  opens-call : (t : Table) → Sound t → (c : Call) (k : ℕ) → openings_in s (lines_from t c) k ≡ k + one_if (opens_stream s (answered_by c.bytes (step t c.bytes c.room)))
  opens-call t z c k =
      let o : Outcome = step t c.bytes c.room in
      ap (λ (ys : List Line). openings_in s ys k) (read_step t z c.bytes c.room)
      ∙ openings_append s (opening_lines o.opened) (map (line_of (input_of c.bytes)) o.records) k
      ∙ no_openings (input_of c.bytes) o.records s (openings_in s (opening_lines o.opened) k)
      ∙ token-opens s o.opened k
      ∙ ap (λ (b : Bool). k + one_if b) (sym ((orderly state_rows t c.bytes c.room).token s))

  opens_run : (cs : List Call) (t : Table) → Sound t → (k : ℕ) → openings_in s (lines (history t cs)) k ≡ k + opens_of s (history t cs)
  unfolding history lines
  opens_run [] t z k = omega arith
  opens_run (c ∷ cs) t z k =
      let u : Table = (step t c.bytes c.room).table in
      openings_append s (lines_from t c) (lines (history u cs)) k
      ∙ ap (openings_in s (lines (history u cs))) (opens-call t z c k)
      ∙ opens_run cs u (kept t z c) _
      ∙ omega arith

  open_run : (cs : List Call) (t : Table) → Sound t → is_open_by s (history t cs) (slot t s).is_open ≡ (slot (run t cs) s).is_open
  unfolding history run is_open_by
  open_run [] t z = refl
  open_run (c ∷ cs) t z =
      let u : Table = (step t c.bytes c.room).table in
      ap (is_open_by s (history u cs)) (sym ((orderly state_rows t c.bytes c.room).door z s))
      ∙ open_run cs u (kept t z c)

-- ---- of a harness

-- Only a served O gives a token.
pub token-of_an_open : (x : Harness) (c : Lending) (s : ℕ) → (next_in x c).opened ≡ suc s → opens_stream s (next_in x c) ≡ true
token-of_an_open x c s h =
    ap (opens_stream s) (next-is x c).answer
    ∙ (orderly state_rows (table_in x) c.bytes (length c.room)).token s
    ∙ eq-eqb (outcome (table_in x) c).opened (suc s) (sym (ap (λ (a : Answered). a.opened) (next-is x c).answer) ∙ h)

pub opening_says : (x : Harness) (c : Lending) (s : ℕ) → opens_stream s (next_in x c) ≡ true → said_by (next_in x c) ≡ Began s ∷ []
opening_says x c s h =
    let o : Outcome = outcome (table_in x) c in
    let d : Orderly (table_in x) c.bytes (input_of c.bytes) o = orderly state_rows (table_in x) c.bytes (length c.room) in
    let z : o.opened ≡ suc s = eqb-true o.opened (suc s) (sym (d.token s) ∙ sym (ap (opens_stream s) (next-is x c).answer) ∙ h) in
    lines-heard x c ∙ rw (z, d.alone (omega (arith, z)))

-- It begins a new opening of its stream, with no indication, before those that there were;
pub opening_begins : (x : Harness) (c : Lending) (s : ℕ) → opens_stream s (next_in x c) ≡ true → fates s (heard_in (and_then x c)) ≡ [] ∷ fates s (heard_in x)
unfolding posts
opening_begins x c s h = fates-more x c s ∙ ap (λ (ys : List Line). posts s ys (fates s (heard_in x))) (opening_says x c s h) ∙ rw (eq-eqb s s refl)

-- each count of it begins at 0;
pub opening_counts_anew : (x : Harness) (c : Lending) (k s : ℕ) → opens_stream s (next_in x c) ≡ true
    → tallies k s (lines (heard_in (and_then x c))) [] ≡ 0 ∷ tallies k s (lines (heard_in x)) []
unfolding tallies
opening_counts_anew x c k s h = counts_more x c k s ∙ ap (λ (ys : List Line). tallies k s ys (tallies k s (lines (heard_in x)) [])) (opening_says x c s h) ∙ rw (eq-eqb s s refl)

-- and any other call leaves the openings before the newest as they are.
pub earlier_stay : (x : Harness) (c : Lending) (s : ℕ) → opens_stream s (next_in x c) ≡ false
    → earlier (fates s (heard_in (and_then x c))) ≡ earlier (fates s (heard_in x))
earlier_stay x c s h =
    ap earlier (fates-more x c s)
    ∙ earlier-posts s (said_by (next_in x c)) (fates s (heard_in x))
    (ap (λ (a : Answered). openings_in s (said_by a) 0) (next-is x c).answer
    ∙ opens-call s (table_in x) (agreed x 0).sound (as_call c) 0
    ∙ ap (λ (a : Answered). 0 + one_if (opens_stream s a)) (sym (next-is x c).answer) ∙ ap (λ (b : Bool). 0 + one_if b) h)

-- So the openings of a stream in what was heard are as many as its served opens.
pub openings_are_opens : (x : Harness) (s : ℕ) → length (fates s (heard_in x)) ≡ opens_of s (heard_in x)
openings_are_opens x s =
    let z : openings_in s (lines (history fresh (calls_of x))) 0 ≡ opens_of s (history fresh (calls_of x)) = omega (arith, opens_run s (calls_of x) fresh fresh-sound 0) in
    length-posts s (lines (heard_in x)) [] (fair_heard x s).0 (fair_heard x s).1
    ∙ ap (λ (h : List Answered). openings_in s (lines h) 0) (history_is x)
    ∙ z
    ∙ ap (opens_of s) (sym (history_is x))

-- A stream is open, by the served opens and closes of it, exactly if it is open in the table,
pub open_by_the_calls : (x : Harness) (s : ℕ) → is_open_by s (heard_in x) false ≡ (slot (table_in x) s).is_open
open_by_the_calls x s =
    ap (λ (h : List Answered). is_open_by s h false) (history_is x)
    ∙ ap (is_open_by s (history fresh (calls_of x))) (sym (ap (λ (y : Slot). y.is_open) (replicate-at stream_total closed s)))
    ∙ open_run s (calls_of x) fresh fresh-sound
    ∙ ap (λ (t : Table). (slot t s).is_open) (sym (table_is x))

-- and one that is closed has none open.
pub closed-has_none : (x : Harness) (s : ℕ) → is_open_by s (heard_in x) false ≡ false → open_by s (heard_in x) ≡ []
closed-has_none x s e = (agreed x s).now ∙ ap (λ (y : Slot). y.waiting) (((agreed x s).sound.each s).shut (sym (open_by_the_calls x s) ∙ e))
