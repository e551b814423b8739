-- The three tests of refusal 7, in the definition's order; a call that passes them comes to the listener, with the next number.
use Prim.Native.Nat.{ℕ}
use native.Mathlib.Omega.{arith}
use mathlib.Core.Path.{sym, ap, ap₂, subst, ◌∙◌}
use mathlib.Core.Bool.{not}
use borrow.Author.Tests.{lt-ltb, le-ltb}
use Rattle.ledger.specs.Choice.{◌⇒◌∣◌}
use Rattle.ledger.specs.Place.{PlaceOf}
use Rattle.paper.specs.Saps.{listener, is_listened_for}
use Rattle.paper.specs.Refusals.{busy}
use Rattle.paper.specs.StateRows.{state_rows}
use Rattle.paper.specs.Sight.{brings}
use Rattle.paper.specs.Step.{comes, arrives}
use Rattle.paper.specs.declared.Event.TheVariants as event
use Rattle.table_image.specs.Layout.{table_of}
use Rattle.paper.specs.Base.{stream_total}
use Rattle.call_events.proofs.arrives.Goals as goal

pub returns-then-not-knows : goal.returns-then-not-knows
unfolding arrives ◌⇒◌∣◌
returns-then-not-knows c = record { comes = rw (ap not (sym c.knows.ensures ∙ c.if-not-knows.true)); fits = tt }

pub returns-then-not-is_called : goal.returns-then-not-is_called
unfolding arrives ◌⇒◌∣◌
returns-then-not-is_called c =
    record {
      comes = rw (ap not (sym c.knows.ensures ∙ c.if-not-knows.false), ap not (sym c.is_called.ensures ∙ c.if-not-is_called.true));
      fits = tt;
    }

pub returns-in_default : goal.returns-in_default
unfolding arrives is_listened_for ◌⇒◌∣◌
returns-in_default c =
    let t = table_of c.args.table.image.now in
    let who = ap (listener t c.args.p) c.from.ensures in
    let none = subst (PlaceOf stream_total (listener t c.args.p c.from.result)) c.in_default.is c.listener.ensures in
    record {
      comes =
          rw (
            ap not (sym c.knows.ensures ∙ c.if-not-knows.false),
            ap not (sym c.is_called.ensures ∙ c.if-not-is_called.false),
            ap not (le-ltb (listener t c.args.p c.args.sap) stream_total (omega (arith, who, none.is))),
          );
      fits = tt;
    }

pub returns : goal.returns
unfolding arrives is_listened_for ◌⇒◌∣◌
returns c =
    let t = table_of c.args.table.image.now in
    let who = ap (listener t c.args.p) c.from.ensures in
    let low = c.in-Some.ensures in
    let e = low.is ∙ who in
    record {
      comes =
          ap₂ (λ (j n : ℕ). comes state_rows t j c.args.r.now (brings busy (event.Arrives (record { 0 = n })))) e c.next_number-n.ensures
          ∙ rw (
            ap not (sym c.knows.ensures ∙ c.if-not-knows.false),
            ap not (sym c.is_called.ensures ∙ c.if-not-is_called.false),
            ap not (lt-ltb (listener t c.args.p c.args.sap) stream_total (omega (arith, who, low.is, low.within))),
          );
      fits = low.within;
    }
