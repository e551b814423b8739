-- Each effect on one stream keeps a sound table sound and tells what it changes of the open numbers and the grant, since its row
-- passes the test of what came and the order of errors has shown the rest.
use Rattle.std.proofs.Common.{Option}
use Prim.Native.Nat.{ℕ}
use native.Mathlib.Omega.{arith}
use mathlib.Core.Path.{◌≡◌, refl, sym, ap, subst, ◌∙◌}
use mathlib.Core.Bool.{Bool, true, false, not, false≢true}
use mathlib.Core.List.{List, [], ◌∷◌, map}
use lib.ListN.{length}
use lib.Dec.{eqb, ltb}
use borrow.Author.Tests.{ltb-false, not-true}
use Rattle.ledger.specs.Choice.{both, either}
use Rattle.ledger.specs.Tally.{has}
use Rattle.ledger.proofs.Tallies.{both_of, picked}
use Rattle.fates_book.specs.declared.Line.{Line}
use Rattle.fates_book.specs.declared.Line.TheVariants.{Given}
use Rattle.fates_book.proofs.Shades.{silent}
use Rattle.fates_book.proofs.Said.{line_of, said}
use Rattle.paper.specs.Base.{number_of, number, is_in, bound_states, connection_states, attached_in, settled, Table, slot, stream, waiting, ppa_numbers, knows, mac_at}
use Rattle.paper.specs.Saps.{grant_of}
use Rattle.paper.specs.Refusals.{Outcome}
use Rattle.paper.specs.Effects.{changed, carried, enacted, told, next, onward, unchanged, acting}
use Rattle.paper.specs.declared.State.{State}
use Rattle.paper.specs.declared.Stream.{Stream}
use Rattle.paper.specs.declared.PpaNumber.{PpaNumber}
use Rattle.paper.specs.declared.BindRequest.{BindRequest}
use Rattle.paper.specs.declared.StateRow.{StateRow}
use Rattle.paper.specs.declared.Change.{Change}
use Rattle.paper.specs.declared.Change.TheVariants.{Stays, Becomes}
use Rattle.paper.specs.declared.Effect.{Effect}
use Rattle.paper.specs.declared.Input.{Input}
use Rattle.paper.proofs.Fair.{MayBind, bind_allowed}
use Rattle.paper.proofs.Walk.{done}
use Rattle.keeping.specs.Soundness.{Sound}
use Rattle.keeping.specs.RowsFit.{to_state, may_lead, may_attach, may_bind}
use Rattle.keeping.proofs.Changes.{not-nine, Fits, ok-attached, ok-bound}
use Rattle.keeping.proofs.Leaves.{stream-sound, deaf, settle_sound}
use Rattle.keeping.proofs.Traces.{Shows, SameGrant, shows_still, shows_stream, shows_binds}
use Rattle.keeping.proofs.Lines.{order_lines, up_lines, effect_lines, told-lines, quiet_told}
use Rattle.keeping.proofs.Rows.{Moves, leads_moves}
use Rattle.keeping.proofs.Binds.{bound_by, bind_alone}
use Rattle.paper.specs.declared.LineOrder.{LineOrder}
use Rattle.paper.specs.declared.Reply.{Reply}

-- ---- what is shown of an outcome: its table is sound, and shows what its lines say
pub record Good (t : Table) (q : Input) (o : Outcome) : Type 0 where
  pub kept : Sound o.table
  pub seen : Shows t (said q o.opened o.records) o.table

-- A stream that goes to a state has the grant that it had, where it holds a binding there.
pub same_grant : (s : Stream) (q : State) → Fits s q → SameGrant s (settled q s)
same_grant s q f =
    picked (SameGrant s) (eqb (number_of q) 0) _ _ (λ e b. absurd (false≢true b))
    (λ e. picked (SameGrant s) (has (number_of q) bound_states) _ _ (λ h b. (f.bound h, refl)) (λ h b. absurd (false≢true (sym h ∙ b))))

-- ---- an effect of record r on stream i, where stream c carries
module _ (t : Table) (i : ℕ) (q : Input) (c : ℕ) (r : List ℕ) where
  -- what it says is said of the table
  abbrev ShowsBy : Effect → Table → Type 0
  ShowsBy e v = Shows t (map (line_of q) (told i c (slot t i) (mac_at t i) r e)) v

  pub shows_lines : (e : Effect) (ys : List Line) (v : Table) → effect_lines q i c e ≡ ys → Shows t ys v → ShowsBy e v
  shows_lines e ys v l h = subst (λ (zs : List Line). Shows t zs v) (sym (told-lines q i c (slot t i) (mac_at t i) r e ∙ l)) h

  -- its order and its message say nothing of indications
  abbrev Quiet : Effect → Type 0
  Quiet e = both (silent (order_lines q i c e.order)) (silent (up_lines i e.up)) ≡ true

  quietly : (e : Effect) → Quiet e → ShowsBy e t
  quietly e z = shows_still t _ (quiet_told q i c (slot t i) (mac_at t i) r e z)

  module _ (k : Sound t) (u : (slot t i).is_open ≡ true) (x : StateRow) (o : Option LineOrder) (f : Bool) (a : Option Reply) where
    abbrev makes : Change → Effect
    makes d = acting d o f a

    -- the stream goes to the row's next state
    pub onward_good : may_lead (number (stream t i)) (stream t i).mode (to_state x) ≡ true → Quiet (makes (onward x (stream t i))) → Good t q (done t i c r (makes (onward x (stream t i))))
    unfolding enacted carried changed
    onward_good h z =
        let v : Moves (stream t i) (next x) = leads_moves (stream t i) (next x) h in
        record {
          kept = settle_sound t k i (next x) u v.quiet v.calm v.fits;
          seen = shows_stream t t _ i (settled (next x) (stream t i)) (quietly (makes (onward x (stream t i))) z) (same_grant (stream t i) (next x) v.fits);
        }

    -- INFO_REQ, TOKEN_REQ, UNITDATA_REQ: nothing changes where the row leads to its own state
    pub unchanged_good : either (eqb x.to (number (stream t i))) (may_lead (number (stream t i)) (stream t i).mode (to_state x)) ≡ true → x.from ≡ number (stream t i)
        → Quiet (makes Stays) → Good t q (done t i c r (makes (unchanged x (stream t i))))
    unfolding enacted carried changed
    unchanged_good h e z =
        picked (λ (d : Change). Good t q (done t i c r (makes d))) (eqb x.to x.from) _ _ (λ _. record { kept = k; seen = quietly (makes Stays) z })
        (λ n. onward_good (second _ _ h (ap (eqb x.to) (sym e) ∙ n)) z)
      where
        second : (a b : Bool) → either a b ≡ true → a ≡ false → b ≡ true
        second true b h e = absurd (false≢true (sym e))
        second false b h e = h

    -- no number is open where the row is not from 9
    nobody : not (is_in 9 (stream t i)) ≡ true → ltb 0 (length (waiting t i)) ≡ false
    nobody h = sym (k.each i).nine ∙ not-true _ h

    -- ATTACH: the PPA is the table's
    pub attach_good : (p : PpaNumber) → may_attach (number (stream t i)) (to_state x) ≡ true → knows t p ≡ true
        → Quiet (makes (Becomes (attached_in (next x) p))) → Good t q (done t i c r (makes (Becomes (attached_in (next x) p))))
    unfolding enacted carried changed knows
    attach_good p h y z =
        let s : Stream = attached_in (next x) p in
        let d : (not (is_in 9 (stream t i)) ≡ true) × (both (not (eqb (to_state x) 0)) (not (has (to_state x) bound_states)) ≡ true) = both_of _ _ h in
        let e : (not (eqb (to_state x) 0) ≡ true) × (not (has (to_state x) bound_states) ≡ true) = both_of _ _ d.1 in
        let b : has (to_state x) bound_states ≡ false = not-true _ e.1 in
        record {
          kept = stream-sound t k i u s (ok-attached (ppa_numbers t) (next x) p (waiting t i) (not-true _ e.0) b y (nobody d.0)) (deaf t k i s refl);
          seen = shows_stream t t _ i s (quietly (makes (Becomes s)) z) (λ g. absurd (false≢true (sym b ∙ g)));
        }

    -- BIND: the grant is told
    pub bind_good : (b : BindRequest) → may_bind (number (stream t i)) (to_state x) ≡ true → MayBind t i b
        → effect_lines q i c (makes (Becomes (bound_by t i b (next x)))) ≡ Given i (grant_of b.mode b.most) ∷ []
        → Good t q (done t i c r (makes (Becomes (bound_by t i b (next x)))))
    unfolding enacted carried changed
    bind_good b h y l =
        let s : Stream = bound_by t i b (next x) in
        let d : (both (not (is_in 0 (stream t i))) (not (is_in 9 (stream t i))) ≡ true) × (both (has (to_state x) bound_states) (not (has (to_state x) connection_states)) ≡ true) = both_of _ _ h in
        let e : (not (is_in 0 (stream t i)) ≡ true) × (not (is_in 9 (stream t i)) ≡ true) = both_of _ _ d.0 in
        let g : (has (to_state x) bound_states ≡ true) × (not (has (to_state x) connection_states) ≡ true) = both_of _ _ d.1 in
        let j : has (to_state x) connection_states ≡ false = not-true _ g.1 in
        let n : ltb 0 (length (waiting t i)) ≡ false = nobody e.1 in
        record {
          kept = stream-sound t k i u s
              (ok-bound (ppa_numbers t) s (waiting t i) g.0 ((k.each i).attached (not-true _ e.0)) (bind_allowed y (next x) (stream t i).ppa) (λ w. absurd (false≢true (sym j ∙ w)))
              (not-nine (λ (m : ℕ). has m connection_states) (to_state x) refl j ∙ sym n) (omega (arith, ltb-false 0 (length (waiting t i)) n)))
              (λ p sap. omega (arith, bind_alone t k i b (next x) y p sap));
          seen = shows_lines (makes (Becomes s)) _ _ l (shows_binds t i u s);
        }
