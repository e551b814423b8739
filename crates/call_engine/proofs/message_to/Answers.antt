-- Refusals 2, 5 and 4 in the definition's order; a message that passes them has its code, and is answered.
use Prim.Native.Nat.{ℕ, ◌≤◌}
use native.Mathlib.Omega.{arith}
use mathlib.Core.Path.{sym, ap, ◌∙◌}
use mathlib.Core.Bool.{not}
use mathlib.Core.List.{List}
use lib.ListN.{length}
use borrow.Author.Tests.{lt-ltb, le-ltb}
use Rattle.ledger.specs.Choice.{◌⇒◌∣◌}
use Rattle.octets.specs.Blocks.{block_size}
use Rattle.octets.proofs.Runs.{part_length}
use Rattle.paper.specs.RecordsIn.{head_size}
use Rattle.paper.specs.Messages.{code_in, asked_by}
use Rattle.paper.specs.StateRows.{state_rows}
use Rattle.paper.specs.Sight.{sends}
use Rattle.paper.specs.Step.{comes, of_open, message}
use Rattle.table_image.specs.Layout.{table_of}
use Rattle.table_image.proofs.Shapes.{open_within}
use Rattle.call_engine.proofs.message_to.Goals as goal

pub returns-then-not-is_open : goal.returns-then-not-is_open
unfolding of_open ◌⇒◌∣◌
returns-then-not-is_open c = record { comes = rw (ap not (sym c.is_open.ensures ∙ c.if-not-is_open.true)); fits = tt }

pub returns-then-l-gt-BLOCK_SIZE : goal.returns-then-l-gt-BLOCK_SIZE
unfolding of_open message ◌⇒◌∣◌
returns-then-l-gt-BLOCK_SIZE c =
    record { comes = rw (ap not (sym c.is_open.ensures ∙ c.if-not-is_open.false), lt-ltb _ _ c.if-l-gt-BLOCK_SIZE.true); fits = tt }

pub returns-then-n-gt-MOST_DATA : goal.returns-then-n-gt-MOST_DATA
unfolding of_open message ◌⇒◌∣◌
returns-then-n-gt-MOST_DATA c =
    record {
      comes = rw (ap not (sym c.is_open.ensures ∙ c.if-not-is_open.false), le-ltb _ _ c.if-l-gt-BLOCK_SIZE.false, lt-ltb _ _ c.if-n-gt-MOST_DATA.true);
      fits = tt;
    }

pub returns-then-l-lt4 : goal.returns-then-l-lt4
unfolding of_open message ◌⇒◌∣◌
returns-then-l-lt4 c =
    record {
      comes =
          rw (
            ap not (sym c.is_open.ensures ∙ c.if-not-is_open.false),
            le-ltb _ _ c.if-l-gt-BLOCK_SIZE.false,
            le-ltb _ _ c.if-n-gt-MOST_DATA.false,
            lt-ltb _ _ c.if-l-lt4.true,
          );
      fits = tt;
    }

pub answer_message-requires : goal.answer_message-requires
answer_message-requires c =
    let opened = sym c.is_open.ensures ∙ c.if-not-is_open.false in
    let fits : c.args.l ≤ block_size = c.if-l-gt-BLOCK_SIZE.false in
    let size = ap length c.message_in.ensures ∙ part_length c.args.r.now head_size c.args.l (omega (arith, c.requires, fits)) in
    record {
      within = open_within (table_of c.args.table.image.now) c.args.table.lent.shaped c.args.i opened;
      whole = record { coded = omega (arith, size, c.if-l-lt4.false); short = omega (arith, size, fits) };
    }

pub returns : goal.returns
unfolding of_open message ◌⇒◌∣◌
returns c =
    let a = c.args in
    let r = a.r.now in
    let answered = c.answer_message.ensures r in
    record {
      comes =
          answered.comes
          ∙ ap (λ (m : List ℕ). comes state_rows (table_of a.table.image.now) a.i r (sends (code_in m) (asked_by m))) c.message_in.ensures
          ∙ sym (rw (
            ap not (sym c.is_open.ensures ∙ c.if-not-is_open.false),
            le-ltb _ _ c.if-l-gt-BLOCK_SIZE.false,
            le-ltb _ _ c.if-n-gt-MOST_DATA.false,
            le-ltb _ _ c.if-l-lt4.false,
          ));
      fits = answered.fits;
    }
