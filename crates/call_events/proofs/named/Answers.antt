-- A stream that is not open is refusal 2; what is brought to an open one is for its row to say.
use mathlib.Core.Path.{sym, ap, ◌∙◌}
use mathlib.Core.Bool.{not}
use Rattle.ledger.specs.Choice.{◌⇒◌∣◌}
use Rattle.paper.specs.Step.{of_open}
use Rattle.table_image.specs.Layout.{table_of}
use Rattle.table_image.proofs.Shapes.{open_within}
use Rattle.call_events.proofs.named.Goals as goal

pub returns-then-not-is_open : goal.returns-then-not-is_open
unfolding of_open ◌⇒◌∣◌
returns-then-not-is_open c = λ r. record { comes = rw (ap not (sym c.is_open.ensures ∙ c.if-not-is_open.true)); fits = tt }

pub returns : goal.returns
unfolding of_open ◌⇒◌∣◌
returns c =
    let found = c.is_open.ensures in
    let within = open_within (table_of c.args.table.image.now) c.args.table.lent.shaped c.args.i (sym found ∙ c.if-not-is_open.false) in
    λ r. record { comes = rw (ap not (sym found ∙ c.if-not-is_open.false)); fits = within }
