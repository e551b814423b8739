-- The number leaves the stream's, and whether it was the last decides the state.
use Rattle.std.proofs.Common.{sym, ap, ◌∙◌}
use Rattle.ledger.specs.Tally.{without}
use Rattle.paper.specs.Base.{waiting, with_numbers}
use Rattle.paper.specs.Effects.{changed}
use Rattle.paper.specs.declared.Stream.{Stream}
use Rattle.table_image.specs.Layout.{table_of, image_of}
use Rattle.call_changes.proofs.Laws.{stands-last, stands_on}
use Rattle.call_changes.proofs.lose_indication.Goals as goal

pub returns-then-remaining-eq0 : goal.returns-then-remaining-eq0
unfolding changed
returns-then-remaining-eq0 c =
    let a = c.args in
    let t = table_of a.img.now in
    let w = without a.n.0 (waiting t a.i) in
    c.remove_number.ensures
    ∙ ap (λ (s : Stream). image_of (with_numbers t a.i s w))
    (c.settled.ensures
    ∙ stands-last a.last a.s w (sym c.remaining.ensures ∙ c.if-remaining-eq0.true))

pub returns : goal.returns
unfolding changed
returns c =
    let a = c.args in
    let t = table_of a.img.now in
    let w = without a.n.0 (waiting t a.i) in
    c.remove_number-2.ensures
    ∙ ap (λ (s : Stream). image_of (with_numbers t a.i s w))
    (stands_on a.last a.s w (λ z. c.if-remaining-eq0.false (c.remaining.ensures ∙ z)))
