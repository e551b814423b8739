-- The three tests are the paper's; a whole record that is a message has a message's size.
use Prim.Native.Nat.{ℕ}
use mathlib.Core.Path.{◌∙◌, sym, ◌≡◌, ap}
use mathlib.Core.Bool.{true}
use native.Mathlib.Omega.{arith}
use borrow.Author.Tests.{eqb-true}
use Rattle.ledger.specs.Choice.{◌⇒◌∣◌}
use Rattle.ledger.proofs.Tallies.{of_either}
use Rattle.paper.specs.RecordsIn.{kind_of, message_size, size_of, is_message, is_pair}
use Rattle.wire_records.proofs.is_pair.Goals as goal

size_of_message : (b : ℕ) → is_message b ≡ true → size_of (kind_of b) ≡ message_size
unfolding kind_of ◌⇒◌∣◌
size_of_message b h =
    of_either _ _ h (λ e. ap (λ (l : ℕ). size_of (kind_of l)) (eqb-true b 80 e)) (λ e. ap (λ (l : ℕ). size_of (kind_of l)) (eqb-true b 67 e))

pub returns-then-not-is_message : goal.returns-then-not-is_message
unfolding is_pair
returns-then-not-is_message c = simp (← c.byte_at.ensures, sym c.is_message.ensures ∙ c.if-not-is_message.true)

pub wants_data-requires : goal.wants_data-requires
wants_data-requires c =
    let b = c.byte_at.result in
    let size : size_of (kind_of b) ≡ message_size = size_of_message b (sym c.is_message.ensures ∙ c.if-not-is_message.false) in
    omega (arith, rw c.byte_at.ensures at size, c.requires)

pub returns-then-not-wants_data : goal.returns-then-not-wants_data
unfolding is_pair
returns-then-not-wants_data c =
    simp (
      ← c.byte_at.ensures,
      sym c.is_message.ensures ∙ c.if-not-is_message.false,
      sym c.wants_data.ensures ∙ c.if-not-wants_data.true,
    )

pub returns : goal.returns
unfolding is_pair
returns c =
    simp (
      ← c.byte_at.ensures,
      sym c.is_message.ensures ∙ c.if-not-is_message.false,
      sym c.wants_data.ensures ∙ c.if-not-wants_data.false,
    ) c.has_data.ensures
