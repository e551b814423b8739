-- Every call keeps a sound table sound, and its lines say what the table shows, since each way that a call can go does.
use Rattle.std.proofs.Common.{Some}
use Prim.Native.Nat.{ℕ, zero, suc, ◌+◌, ◌<◌, ◌%◌, ◌^◌}
use native.Mathlib.Omega.{arith}
use mathlib.Core.Path.{◌≡◌, refl, ap}
use mathlib.Core.Bool.{Bool, true, not}
use mathlib.Core.List.{List, [], ◌∷◌}
use lib.ListN.{length}
use borrow.Author.Tests.{not-true}
use Rattle.octets.specs.Runs.{Bytes}
use Rattle.octets.proofs.Runs.{part_length, part_bytes, zero-bytes}
use Rattle.ledger.specs.Tally.{has, all_of, first_of, free, next_from}
use Rattle.ledger.proofs.Tallies.{both_of, to_both, picked, first_holds}
use Rattle.fates_book.specs.declared.End.TheVariants.{Denied, Withdrawn}
use Rattle.fates_book.specs.declared.Line.TheVariants.{Nothing}
use Rattle.ledger.proofs.Sums.{of-asks}
use Rattle.ledger.proofs.Lists.{replicate-at}
use Rattle.paper.specs.Base.{number, Slot, closed, Table, fresh, slot, stream, waiting, lowest_free, token_of, ppa_numbers, knows, with_ppa, mac_size, stream_total}
use Rattle.paper.specs.Saps.{listens}
use Rattle.paper.specs.RecordsIn.{input_of}
use Rattle.paper.specs.Refusals.{Outcome}
use Rattle.paper.specs.Correlations.{occurrences, next_number, most_passed}
use Rattle.paper.specs.ErrorCodes.{complaint_of}
use Rattle.paper.specs.StateRows.{connect_res, disconnect_req, call_withdrawn, state_rows, found}
use Rattle.paper.specs.Sight.{request_asks, letter_of}
use Rattle.paper.specs.Effects.{effect_of, event_effect}
use Rattle.paper.specs.Datagrams.{shown_to}
use Rattle.paper.specs.Decide.{is_due}
use Rattle.paper.specs.Step.{step_by, step}
use Rattle.paper.specs.declared.Input.{Input}
use Rattle.paper.specs.declared.Input.TheVariants as input
use Rattle.paper.specs.declared.Request.{Request}
use Rattle.paper.specs.declared.Service.{Service}
use Rattle.paper.specs.declared.StateRow.{StateRow}
use Rattle.paper.specs.declared.Event.{Event}
use Rattle.paper.proofs.RowFound.{row_from}
use Rattle.paper.proofs.Fair.{Fair, informs, tells_token, attaches, detaches, binds, unbinds, connects, accepts_here, accepts_on, denies, disconnects, resets, answers_reset, sends_data}
use Rattle.paper.proofs.Walk.{done, failing, serving, Brings, arriving, accepted, gone, withdrawn, reset, confirmed, Way, refusing, adding, opening, closing, answering, bringing, showing, step_walk}
use Rattle.paper.proofs.StateNumbers.{bound-attached}
use Rattle.paper.proofs.Records.{AddsWhole, adds_whole}
use Rattle.keeping.specs.Soundness.{Sound}
use Rattle.keeping.specs.RowsFit.{to_state, last_state, may_take, may_lose, enders, fits_staying, fits_moving, fits_disconnecting, fits_attaching, fits_binding, fits_taking, fits_losing, RowsFit}
use Rattle.keeping.proofs.Changes.{opened, in_nine, ok-closed}
use Rattle.keeping.proofs.Leaves.{open_sound, ppa-sound}
use Rattle.keeping.proofs.Traces.{shows_still, shows_opens}
use Rattle.keeping.proofs.Rows.{state_rows_fit, row_of, passes}
use Rattle.keeping.proofs.Effects.{Good, onward_good, unchanged_good, attach_good, bind_good}
use Rattle.keeping.proofs.Lines.{quiet_complaint, quiet_frame}
use Rattle.keeping.proofs.Listeners.{takes_good, less_good, accept_on, accept_here}
use Rattle.keeping.proofs.Closes.{open_nonzero, close_good}
use Rattle.keeping.proofs.Lent.{shaped}
use Rattle.keeping.proofs.Tested.{sound_test}
use Rattle.keeping.proofs.NextNumber.{next-free}

-- the next number has four bytes
next_below : (j : ℕ) (count : ℕ → ℕ) (c : ℕ) → c < 2 ^ 32 → next_from j count c < 2 ^ 32
next_below zero count c h = h
next_below (suc j) count c h = picked (λ (n : ℕ). n < 2 ^ 32) (free count c) _ _ (λ e. h) (λ e. next_below j count ((c + 1) % 2 ^ 32) (omega arith))

-- a free stream has no open numbers
free_empty : (t : Table) → Sound t → lowest_free t < stream_total → length (waiting t (lowest_free t)) ≡ 0
unfolding lowest_free
free_empty t k h =
    let is_free : Slot → Bool = λ (x : Slot). not x.is_open in
    ap (λ (x : Slot). length x.waiting) ((k.each (first_of is_free t.slots)).shut (not-true _ (first_holds is_free closed t.slots (omega (arith, k.sixteen)))))

module _ (rows : List StateRow) (f : RowsFit rows) (t : Table) (k : Sound t) where
  -- a test that the rows pass, of a stream's row
  passing : (i : ℕ) {cause : ℕ} {x : StateRow} → found rows (stream t i) cause ≡ Some x → (p : StateRow → Bool) → all_of p rows ≡ true → p (row_of (stream t i) cause x) ≡ true
  passing i {cause} h = passes rows (stream t i) cause h

  -- where an open number goes, its row is from 9
  loses-row : (i cause n : ℕ) {x : StateRow} → found rows (stream t i) cause ≡ Some x → has cause enders ≡ true → has n (waiting t i) ≡ true
      → may_lose (to_state x) (last_state x) ≡ true
  loses-row i cause n h c w = of-asks _ _ (passes rows (stream t i) cause h fits_losing f.losing) (to_both _ _ c (in_nine (ppa_numbers t) (slot t i) n (k.each i) w))

  -- ---- what a row serves
  served_good : (i : ℕ) (x : StateRow) (r : List ℕ) {l n : ℕ} {m : List ℕ} {q : Request} {c : ℕ} {v : Service} → (slot t i).is_open ≡ true → found rows (stream t i) (request_asks q).cause ≡ Some x
      → Fair t i m q c v → Good t (input.Message i l n) (done t i c r (effect_of x (token_of i) (stream t i) v))
  unfolding effect_of
  served_good i x r u h informs = unchanged_good t i _ i _ k u x _ _ _ (passing i h fits_staying f.staying) (row_from rows (stream t i) _ h) refl
  served_good i x r u h tells_token = unchanged_good t i _ i _ k u x _ _ _ (passing i h fits_staying f.staying) (row_from rows (stream t i) _ h) refl
  served_good i x r u h (attaches y) = attach_good t i _ i _ k u x _ _ _ _ (passing i h fits_attaching f.attaching) y refl
  served_good i x r u h detaches = onward_good t i _ i _ k u x _ _ _ (passing i h fits_moving f.moving) refl
  served_good i x r u h (binds y) = bind_good t i _ i _ k u x _ _ _ _ (passing i h fits_binding f.binding) y refl
  served_good i x r u h unbinds = onward_good t i _ i _ k u x _ _ _ (passing i h fits_moving f.moving) refl
  served_good i x r u h (connects a) = onward_good t i _ i _ k u x _ _ _ (passing i h fits_moving f.moving) refl
  served_good i x r u h (accepts_here w y) = accept_here t k i u x _ w.number_open (loses-row i connect_res _ h refl w.number_open) _ i _ (Nothing ∷ []) refl refl refl y
  served_good i x r u h (accepts_on w y) = accept_on t k i u x _ w.number_open (loses-row i connect_res _ h refl w.number_open) _ _ _ (Nothing ∷ []) refl refl y
  served_good i x r u h (denies e w) = less_good t k i u x _ w (loses-row i disconnect_req _ h refl w) _ i _ _ _ _ Denied (Nothing ∷ []) (rw (open_nonzero t k i _ w)) refl
  served_good i x r u h (disconnects e z) = onward_good t i _ i _ k u x _ _ _ (of-asks _ _ (passing i h fits_disconnecting f.disconnecting) (ap not e)) refl
  served_good i x r u h resets = onward_good t i _ i _ k u x _ _ _ (passing i h fits_moving f.moving) refl
  served_good i x r u h answers_reset = onward_good t i _ i _ k u x _ _ _ (passing i h fits_moving f.moving) refl
  served_good i x r u h (sends_data y) = unchanged_good t i _ i _ k u x _ _ _ (passing i h fits_staying f.staying) (row_from rows (stream t i) _ h) refl

  -- ---- what the line brings
  brought_good : (i : ℕ) (x : StateRow) (r : List ℕ) {q : Input} {e : Event} → Brings t q i e → found rows (stream t i) (letter_of e) ≡ Some x → is_due (slot t i) e ≡ true
      → Good t q (done t i i r (event_effect x (stream t i) e))
  unfolding event_effect next_number
  brought_good i x r {q} (arriving y b) h d =
      let p : may_take (number (stream t i)) (to_state x) ≡ true = passing i h fits_taking f.taking in
      takes_good t k i (opened (ppa_numbers t) (slot t i) (k.each i) (bound-attached (number (stream t i)) (both_of _ _ p).0)) x _ q i r _ _ _ p d
      (next-free t (shaped t k) k.small) (next_below most_passed (occurrences t) t.counter k.small) refl
  brought_good i x r (accepted u) h d = onward_good t i _ i _ k u x _ _ _ (passing i h fits_moving f.moving) refl
  brought_good i x r (gone u) h d = onward_good t i _ i _ k u x _ _ _ (passing i h fits_moving f.moving) refl
  brought_good i x r (withdrawn u) h d = less_good t k i u x _ d (loses-row i call_withdrawn _ h refl d) _ i _ _ _ _ Withdrawn [] (rw (open_nonzero t k i _ d)) refl
  brought_good i x r (reset u) h d = onward_good t i _ i _ k u x _ _ _ (passing i h fits_moving f.moving) refl
  brought_good i x r (confirmed u) h d = onward_good t i _ i _ k u x _ _ _ (passing i h fits_moving f.moving) refl

  -- ---- every way
  ways_good : {r : List ℕ} {q : Input} {o : Outcome} → Bytes r → AddsWhole r q → Way rows t r q o → Good t q o
  unfolding knows with_ppa
  ways_good b w (refusing some small) = record { kept = k; seen = shows_still t [] refl }
  ways_good {r} b w (adding {p} a) = record {
    kept = ppa-sound t k _ a.few a.new (w p refl).small (record { six = part_length r 5 mac_size (w p refl).long; bytes = part_bytes r 5 mac_size b });
    seen = λ s. record { shaded = refl; fairly = refl; granted = λ g f. f; rootedly = λ m f. refl; opens = λ m f. f };
  }
  ways_good b w (opening l) = record { kept = open_sound t k (lowest_free t); seen = shows_opens t (lowest_free t) (omega (arith, k.sixteen)) (free_empty t k l) }
  ways_good b w (closing {i} u) = close_good t k _ i u
  ways_good {q = q} b w (answering {i} s e (failing {w = x} v)) = record { kept = k; seen = shows_still t _ (quiet_complaint q i _ (complaint_of x)) }
  ways_good {r} b w (answering {i} s e (serving {x = x} v h y)) = served_good i x r s.is_open h y
  ways_good {r} b w (bringing {i = i} {x = x} y h d) = brought_good i x r y h d
  ways_good {r} {q} b w (showing {f} few y) = record { kept = k; seen = shows_still t _ (quiet_frame q r f (shown_to rows t r f)) }

-- Every call, by any list of state rows that fits.
pub good : (rows : List StateRow) → RowsFit rows → (t : Table) → Sound t → (r : List ℕ) → Bytes r → (room : ℕ) → Good t (input_of r) (step_by rows t r room)
good rows f t k r b room = ways_good rows f t k b (adds_whole r b) (step_walk rows t r room (sound_test t k))

pub keeps : (t : Table) → Sound t → (r : List ℕ) → Bytes r → (room : ℕ) → Sound (step t r room).table
keeps t k r b room = (good state_rows state_rows_fit t k r b room).kept

-- ---- a fresh table

pub fresh-sound : Sound fresh
unfolding occurrences listens
fresh-sound = record {
  sixteen = refl;
  small = omega arith;
  each = λ i. rw (replicate-at stream_total closed i) (ok-closed []);
  once = λ n. omega arith;
  alone = λ p q. omega arith;
  differ = λ p. omega arith;
  most = omega arith;
  macs = λ j. record { six = refl; bytes = zero-bytes mac_size };
  recalls = λ e i. rw (replicate-at stream_total closed i);
}
