-- The tests stand in the definition's order.
use mathlib.Core.Path.{sym, ◌∙◌}
use borrow.Author.Tests.{eq-eqb, ne_eqb}
use Rattle.paper.specs.Datagrams.{is_for}
use Rattle.call_frames.proofs.is_for.Goals as goal

pub returns-then-not-takes_frames : goal.returns-then-not-takes_frames
unfolding is_for
returns-then-not-takes_frames c = rw (sym c.takes_frames.ensures ∙ c.if-not-takes_frames.true)

pub returns-then-s-f : goal.returns-then-s-f
unfolding is_for
returns-then-s-f c =
    rw (sym c.takes_frames.ensures ∙ c.if-not-takes_frames.false, ne_eqb _ _ c.if-s-f.true)

pub returns-then-s-f-2 : goal.returns-then-s-f-2
unfolding is_for
returns-then-s-f-2 c =
    rw (sym c.takes_frames.ensures ∙ c.if-not-takes_frames.false, eq-eqb _ _ c.if-s-f.false, ne_eqb _ _ c.if-s-f-2.true)

pub returns : goal.returns
unfolding is_for
returns c =
    rw (
      sym c.takes_frames.ensures ∙ c.if-not-takes_frames.false,
      eq-eqb _ _ c.if-s-f.false,
      eq-eqb _ _ c.if-s-f-2.false,
      c.length-2.ensures,
      c.length.ensures,
      c.of_sap.ensures,
    )
