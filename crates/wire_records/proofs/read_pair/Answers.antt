-- The M is asked for and its padding tested as the paper has it, and an M that is there is whole.
use mathlib.Core.Path.{◌∙◌, sym, ◌≡◌}
use mathlib.Core.Bool.{true}
use mathlib.Core.List.{List}
use Prim.Native.Nat.{ℕ, ◌≤◌}
use lib.ListN.{length}
use borrow.Author.Tests.{leb-true}
use Rattle.ledger.specs.Choice.{◌⇒◌∣◌}
use Rattle.ledger.proofs.Tallies.{both_of}
use Rattle.paper.specs.RecordsIn.{pair_size, has_data, pair_as}
use Rattle.wire_records.proofs.read_pair.Goals as goal

data_long : (r : List ℕ) → has_data r ≡ true → pair_size ≤ length r
unfolding has_data
data_long r h = leb-true _ _ (both_of _ _ h).0

pub returns-then-not-has_data : goal.returns-then-not-has_data
unfolding pair_as ◌⇒◌∣◌
returns-then-not-has_data c = simp (← c.has_data.ensures, c.if-not-has_data.true)

pub has_nonzero_past-requires : goal.has_nonzero_past-requires
has_nonzero_past-requires c = data_long _ (sym c.has_data.ensures ∙ c.if-not-has_data.false)

pub returns-then-has_nonzero_past : goal.returns-then-has_nonzero_past
unfolding pair_as ◌⇒◌∣◌
returns-then-has_nonzero_past c =
    simp (
      ← c.has_data.ensures,
      c.if-not-has_data.false,
      ← c.byte_at-bytes.ensures,
      ← c.has_nonzero_past.ensures,
      c.if-has_nonzero_past.true,
    )

pub returns : goal.returns
unfolding pair_as ◌⇒◌∣◌
returns c =
    simp (
      ← c.has_data.ensures,
      c.if-not-has_data.false,
      ← c.byte_at-bytes.ensures,
      ← c.has_nonzero_past.ensures,
      c.if-has_nonzero_past.false,
      c.byte_at.ensures,
      c.byte_at-2.ensures,
    )
