-- Each refusal has the test that led there, in the definition's order; a PPA that passes them has a place.
use mathlib.Core.Path.{refl}
use mathlib.Core.List.{[]}
use borrow.Author.Tests.{le-leb, lt-leb}
use Rattle.ledger.specs.Choice.{◌⇒◌∣◌}
use Rattle.paper.specs.Base.{with_ppa}
use Rattle.paper.specs.Openings.{adds_ppa}
use Rattle.table_image.specs.Layout.{table_of}
use Rattle.call_outcomes.specs.Leaving.{leaving}
use Rattle.call_outcomes.proofs.Laws.{leaves_served}
use Rattle.call_openings.proofs.add_ppa.Goals as goal

pub returns-then-remembers : goal.returns-then-remembers
unfolding adds_ppa leaving ◌⇒◌∣◌
returns-then-remembers c = λ room. simp (← c.remembers.ensures, c.if-remembers.true)

pub returns-then-ppa_total-ge-MOST_PPAS : goal.returns-then-ppa_total-ge-MOST_PPAS
unfolding adds_ppa leaving ◌⇒◌∣◌
returns-then-ppa_total-ge-MOST_PPAS c =
    let ninth = le-leb _ _ c.if-ppa_total-ge-MOST_PPAS.true in
    λ room. simp (← c.remembers.ensures, c.if-remembers.false, ← c.ppa_total.ensures, ninth)

pub returns-then-knows : goal.returns-then-knows
unfolding adds_ppa leaving ◌⇒◌∣◌
returns-then-knows c =
    let few = lt-leb _ _ c.if-ppa_total-ge-MOST_PPAS.false in
    let known = c.knows.ensures in
    λ room. simp (← c.remembers.ensures, c.if-remembers.false, ← c.ppa_total.ensures, few, ← known, c.if-knows.true)

pub returns : goal.returns
unfolding adds_ppa ◌⇒◌∣◌
returns c =
    let a = c.args in
    let few = lt-leb _ _ c.if-ppa_total-ge-MOST_PPAS.false in
    λ room. simp (← c.remembers.ensures, c.if-remembers.false, ← c.ppa_total.ensures, few, ← c.knows.ensures, c.if-knows.false)
    (leaves_served a.img.now room (with_ppa (table_of a.img.now) (record { number = a.p; mac = a.mac.now })) [] 0 _ room
    (record { ends = refl; stands = refl }) c.store_ppa.ensures)
