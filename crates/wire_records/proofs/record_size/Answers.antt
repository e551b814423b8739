-- The size of the kind is compared with what is there, and a whole message looked at for its M, as the paper does.
use mathlib.Core.Path.{sym, ◌∙◌}
use borrow.Author.Tests.{ltb-false}
use Rattle.ledger.specs.Choice.{◌⇒◌∣◌}
use Rattle.paper.specs.RecordsIn.{record_size}
use Rattle.wire_records.proofs.record_size.Goals as goal

pub returns-then-is_cut : goal.returns-then-is_cut
unfolding record_size ◌⇒◌∣◌
returns-then-is_cut c =
    simp (← c.byte_at.ensures, ← c.from-k.ensures, ← c.is_cut.ensures, c.if-is_cut.true)

pub is_pair-requires : goal.is_pair-requires
is_pair-requires c =
    rw (← c.byte_at.ensures, ← c.from-k.ensures) (ltb-false _ _ (sym c.is_cut.ensures ∙ c.if-is_cut.false))

pub returns-then-is_pair : goal.returns-then-is_pair
unfolding record_size ◌⇒◌∣◌
returns-then-is_pair c =
    simp (
      ← c.byte_at.ensures,
      ← c.from-k.ensures,
      ← c.is_cut.ensures,
      c.if-is_cut.false,
      ← c.is_pair.ensures,
      c.if-is_pair.true,
    )

pub returns : goal.returns
unfolding record_size ◌⇒◌∣◌
returns c =
    simp (
      ← c.byte_at.ensures,
      ← c.from-k.ensures,
      ← c.is_cut.ensures,
      c.if-is_cut.false,
      ← c.is_pair.ensures,
      c.if-is_pair.false,
    ) c.size.ensures
