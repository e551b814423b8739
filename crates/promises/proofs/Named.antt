-- What an accept or a denial may name in state 9: exactly the open numbers. Both have a row there, and the first rule on each is that its
-- number is open; no later rule has its error.
use Rattle.std.proofs.Common.{None, Ok, Option, Result, Some}
use Prim.Native.Nat.{ℕ}
use mathlib.Core.Path.{◌≡◌, refl, sym, ap, ◌∙◌}
use mathlib.Core.Bool.{true, not, false≢true}
use mathlib.Core.List.{List, []}
use borrow.Author.Tests.{eqb-true}
use Rattle.ledger.specs.Tally.{has}
use Rattle.paper.specs.Base.{number, is_in, connection_states, Table, stream, waiting}
use Rattle.paper.specs.ErrorCodes.{bad_corr}
use Rattle.paper.specs.ErrorOrder.{verdict_by, verdict_on}
use Rattle.paper.specs.Sight.{request_asks, sight_by}
use Rattle.paper.specs.StateRows.{state_rows, found_in, found, is_found}
use Rattle.paper.specs.declared.ConnectResponse.{ConnectResponse}
use Rattle.paper.specs.declared.DisconnectRequest.{DisconnectRequest}
use Rattle.paper.specs.declared.Request.{Request}
use Rattle.paper.specs.declared.Request.TheVariants as request
use Rattle.paper.proofs.Fair.{Asks, accepts_here, accepts_on, denies, disconnects, not_open, accept_qos, others_open, of_none}
use Rattle.paper.proofs.Fair.{not_idle, other_ppa, connectionless, denial_not_open, not_zero, Judged, fails, serves, judged_fairly}
use Rattle.keeping.specs.Soundness.{Sound}
use Rattle.promises.proofs.Verdicts.{errors_by}
use Rattle.paper.specs.declared.Rule.{Rule}
use Rattle.paper.specs.declared.Service.{Service}
use Rattle.paper.specs.declared.StateRow.{StateRow}

module _ (t : Table) (s : ℕ) (k : Sound t) (e : is_in 9 (stream t s) ≡ true) (m : List ℕ) where
  -- the row of a request in state 9
  found_in_nine : (cause : ℕ) → found state_rows (stream t s) cause ≡ found_in state_rows 9 1 cause
  unfolding found
  found_in_nine cause =
      let n : number (stream t s) ≡ 9 = eqb-true _ _ e in
      ap (λ (a : ℕ). found_in state_rows a (stream t s).mode cause) n
      ∙ ap (λ (a : ℕ). found_in state_rows 9 a cause) ((k.each s).connected (ap (λ (a : ℕ). has a connection_states) n))

  -- a request with a row there goes by the order of errors
  judged : (q : Request) → Asks m q → is_found (found_in state_rows 9 1 (request_asks q).cause) ≡ true
      → (c : ℕ) × Judged t s m q c (verdict_on state_rows t s m (Ok q))
  judged q a h = go (found state_rows (stream t s) (request_asks q).cause) (ap is_found (found_in_nine (request_asks q).cause) ∙ h)
    where
      go : (f : Option StateRow) → is_found f ≡ true → (c : ℕ) × Judged t s m q c (verdict_by (sight_by t s f (request_asks q).question) (Ok q) f)
      go (Some x) h = (_, judged_fairly t s m x q a)
      go None h = absurd (false≢true h)

  -- ---- a denial

  denial_names : {d : DisconnectRequest} {c : ℕ} {v : Result Service Rule} → Judged t s m (request.Disconnect d) c v → not (has bad_corr (errors_by v)) ≡ has d.correlation.0 (waiting t s)
  denial_names (serves (denies n h)) = sym h
  denial_names (serves (disconnects n z)) = absurd (false≢true (sym n ∙ e))
  denial_names (fails (denial_not_open n h)) = sym h
  denial_names (fails (not_zero n z)) = absurd (false≢true (sym n ∙ e))

  pub names_denial : (d : DisconnectRequest) → Asks m (request.Disconnect d)
      → not (has bad_corr (errors_by (verdict_on state_rows t s m (Ok (request.Disconnect d))))) ≡ has d.correlation.0 (waiting t s)
  names_denial d a = denial_names (judged (request.Disconnect d) a refl).1

  -- of an open number it gets no error
  denial_served : {d : DisconnectRequest} {c : ℕ} {v : Result Service Rule} → Judged t s m (request.Disconnect d) c v → has d.correlation.0 (waiting t s) ≡ true → errors_by v ≡ []
  denial_served (serves f) g = refl
  denial_served (fails (denial_not_open n h)) g = absurd (false≢true (sym h ∙ g))
  denial_served (fails (not_zero n z)) g = absurd (false≢true (sym n ∙ e))

  pub open_denied : (d : DisconnectRequest) → Asks m (request.Disconnect d) → has d.correlation.0 (waiting t s) ≡ true
      → errors_by (verdict_on state_rows t s m (Ok (request.Disconnect d))) ≡ []
  open_denied d a = denial_served (judged (request.Disconnect d) a refl).1

  -- ---- an accept

  accept_names : {a : ConnectResponse} {c : ℕ} {v : Result Service Rule} → Judged t s m (request.ConnectRes a) c v → not (has bad_corr (errors_by v)) ≡ has a.correlation.0 (waiting t s)
  accept_names (serves (accepts_here f n)) = sym f.number_open
  accept_names (serves (accepts_on f k)) = sym f.number_open
  accept_names (fails (not_open h)) = sym h
  accept_names (fails (accept_qos h n)) = sym h
  accept_names (fails (others_open f n)) = sym f.number_open
  accept_names (fails (of_none f)) = sym f.number_open
  accept_names (fails (not_idle f n)) = sym f.number_open
  accept_names (fails (other_ppa f n p)) = sym f.number_open
  accept_names (fails (connectionless f n d)) = sym f.number_open

  pub names_accept : (a : ConnectResponse) → Asks m (request.ConnectRes a)
      → not (has bad_corr (errors_by (verdict_on state_rows t s m (Ok (request.ConnectRes a))))) ≡ has a.correlation.0 (waiting t s)
  names_accept a k = accept_names (judged (request.ConnectRes a) k refl).1
