-- A record that is not cut has a size, or is of no kind and has no values: so its values can be read by its kind.
use Prim.Native.Nat.{ℕ, ◌≤◌}
use native.Mathlib.Omega.{arith}
use mathlib.Core.Path.{◌≡◌, refl, sym, ◌∙◌}
use mathlib.Core.List.{List}
use lib.ListN.{length, get_or}
use lib.Dec.{eqb}
use borrow.Author.Tests.{eqb-true, ltb-false, le-ltb}
use Rattle.ledger.specs.Choice.{◌⇒◌∣◌}
use Rattle.ledger.proofs.Tallies.{chosen}
use Rattle.paper.specs.RecordsIn.{kind_of, size_of, is_pair, record_size, input_as, input_of}
use Rattle.paper.specs.declared.Kind.{Kind}
use Rattle.paper.specs.declared.Kind.TheVariants as kind
use Rattle.paper.specs.declared.Input.{Input}
use Rattle.paper.specs.declared.Input.TheVariants as input
use Rattle.wire_records.proofs.input_of.Goals as goal

sizeless : (k : Kind) (r : List ℕ) → size_of k ≡ 0 → input.Unreadable ≡ input_as k r
sizeless kind.AddPpa r h = absurd (omega arith)
sizeless kind.Open r h = absurd (omega arith)
sizeless kind.Close r h = absurd (omega arith)
sizeless kind.Message r h = absurd (omega arith)
sizeless kind.CallArrives r h = absurd (omega arith)
sizeless kind.PeerAccepted r h = absurd (omega arith)
sizeless kind.PeerGone r h = absurd (omega arith)
sizeless kind.CallWithdrawn r h = absurd (omega arith)
sizeless kind.PeerReset r h = absurd (omega arith)
sizeless kind.ResetConfirmed r h = absurd (omega arith)
sizeless kind.Data r h = absurd (omega arith)
sizeless kind.Frame r h = absurd (omega arith)
sizeless kind.Unknown r h = refl

-- a whole record with no size is of a kind with none
none : (r : List ℕ) → size_of (kind_of (get_or r 0 0)) ≤ length r → record_size r ≡ 0 → size_of (kind_of (get_or r 0 0)) ≡ 0
unfolding record_size ◌⇒◌∣◌
none r h =
    let size = size_of (kind_of (get_or r 0 0)) in
    rw (le-ltb _ _ h) (chosen (λ (n : ℕ). n ≡ 0 → size ≡ 0) (is_pair r) _ _ (λ e z. absurd (omega arith)) (λ e z. z))

read_whole : (r : List ℕ) → size_of (kind_of (get_or r 0 0)) ≤ length r → input_of r ≡ input_as (kind_of (get_or r 0 0)) r
unfolding input_of
read_whole r h =
    let k = kind_of (get_or r 0 0) in
    chosen (λ (q : Input). q ≡ input_as k r) (eqb (record_size r) 0) _ _ (λ e. sizeless k r (none r h (eqb-true _ _ e))) (λ e. refl)

pub returns-then-is_cut : goal.returns-then-is_cut
unfolding input_of record_size ◌⇒◌∣◌
returns-then-is_cut c =
    simp (← c.byte_at.ensures, ← c.from-k.ensures, ← c.is_cut.ensures, c.if-is_cut.true)

pub input_as-requires : goal.input_as-requires
input_as-requires c = ltb-false _ _ (sym c.is_cut.ensures ∙ c.if-is_cut.false)

pub returns : goal.returns
returns c =
    let r = c.args.r.now in
    let k : c.from-k.result ≡ kind_of (get_or r 0 0) = rw (← c.byte_at.ensures) c.from-k.ensures in
    c.input_as.ensures ∙ rw k (sym (read_whole r (rw (← k) (ltb-false _ _ (sym c.is_cut.ensures ∙ c.if-is_cut.false)))))
