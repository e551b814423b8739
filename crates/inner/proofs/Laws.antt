-- Laws of the run: a call reads a byte at least; what is ahead after one call more.
use Prim.Native.Nat.{ℕ, zero, suc, ◌+◌, ◌≤◌, ◌<◌}
use native.Mathlib.Omega.{arith}
use mathlib.Core.Path.{◌≡◌, sym, ◌∙◌}
use mathlib.Core.List.{List}
use lib.ListN.{length, drop, length-drop}
use borrow.Author.Tests.{eqb-false, eq-eqb, ne_eqb}
use Rattle.ledger.specs.Choice.{◌⇒◌∣◌}
use Rattle.ledger.specs.Tally.{one_if}
use Rattle.ledger.proofs.Tallies.{chosen, skip}
use Rattle.paper.specs.RecordsIn.{record_size}
use Rattle.call_outcomes.specs.Leaving.{call_made, is_refused}
use Rattle.inner.specs.Run.{Ran, ran, passed, run_from}

passed-some : (bytes : List ℕ) → 0 < length bytes → 0 < passed bytes
unfolding passed
passed-some bytes h = chosen (λ (n : ℕ). 0 < n) _ _ _ (λ e. h) (λ e. omega (arith, eqb-false (record_size bytes) 0 e))

-- What is still to come, on the bytes that are left, leads to this end, and the calls for it suffice.
pub record Ahead (rest img : List ℕ) (n : ℕ) (end : Ran) : Type 0 where
  pub calls : ℕ
  pub enough : length rest ≤ calls
  pub same : run_from calls img n rest ≡ end

pub ahead_more : (rest img : List ℕ) (n : ℕ) (end : Ran) → 0 < length rest → Ahead rest img n end
    → Ahead (drop (passed rest) rest) (call_made img rest).image (n + one_if (is_refused (call_made img rest))) end
unfolding run_from
ahead_more rest img n end h a = go a.calls a.enough a.same
  where
    go : (calls : ℕ) → length rest ≤ calls → run_from calls img n rest ≡ end
        → Ahead (drop (passed rest) rest) (call_made img rest).image (n + one_if (is_refused (call_made img rest))) end
    go zero k e = absurd (omega arith)
    go (suc calls) k e = record {
      calls = calls;
      enough = omega (arith, passed-some rest h, length-drop (passed rest) rest);
      same = sym (skip _ _ _ (ne_eqb (length rest) 0 (λ z. omega (arith, h)))) ∙ e;
    }

pub ahead_none : (rest img : List ℕ) (n : ℕ) (end : Ran) → length rest ≡ 0 → Ahead rest img n end → ran n img ≡ end
unfolding run_from ◌⇒◌∣◌
ahead_none rest img n end h a = go a.calls a.same
  where
    go : (calls : ℕ) → run_from calls img n rest ≡ end → ran n img ≡ end
    go zero e = e
    go (suc calls) e = rw (eq-eqb (length rest) 0 h) at e
