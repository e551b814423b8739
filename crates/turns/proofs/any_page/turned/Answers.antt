-- The two tests are those of the definition, in their order: a turn that waits, one that is over, and one with a call.
use borrow.Author.Rules.{rules}
use Rattle.ledger.specs.Choice.{◌⇒◌∣◌}
use Rattle.turns.specs.Turns.{turn_after, after_turn}
use Rattle.turns.proofs.any_page.turned.Goals as goal

pub returns-then-waits : goal.returns-then-waits
unfolding turn_after after_turn ◌⇒◌∣◌
returns-then-waits g c =
    record {
      is = rw (← c.waits.ensures, c.if-waits.true);
      fine = search rules;
      prints = c.requires.prints.whole;
      holds = c.requires.holds;
      image = rw (← c.waits.ensures, c.if-waits.true);
      kept = rw (← c.waits.ensures, c.if-waits.true);
      stands = rw (← c.waits.ensures, c.if-waits.true);
    }

pub returns-then-is_over : goal.returns-then-is_over
unfolding turn_after after_turn ◌⇒◌∣◌
returns-then-is_over g c =
    record {
      is = rw (← c.waits.ensures, c.if-waits.false, ← c.is_over.ensures.is, c.if-is_over.true) c.stop.ensures.is;
      fine = c.stop.ensures.fine;
      prints = c.requires.prints.whole;
      holds = c.requires.holds;
      image = rw (← c.waits.ensures, c.if-waits.false, ← c.is_over.ensures.is, c.if-is_over.true);
      kept = rw (← c.waits.ensures, c.if-waits.false, ← c.is_over.ensures.is, c.if-is_over.true);
      stands = rw (← c.waits.ensures, c.if-waits.false, ← c.is_over.ensures.is, c.if-is_over.true);
    }

pub called-requires : goal.called-requires
called-requires g c = record { turn = c.requires; numbered = c.is_over.ensures.numbered c.if-is_over.false }

pub returns : goal.returns
unfolding turn_after after_turn ◌⇒◌∣◌
returns g c =
    let left = c.called.ensures in
    record {
      is = rw (← c.waits.ensures, c.if-waits.false, ← c.is_over.ensures.is, c.if-is_over.false) left.is;
      fine = left.fine;
      prints = left.prints;
      holds = left.holds;
      image = rw (← c.waits.ensures, c.if-waits.false, ← c.is_over.ensures.is, c.if-is_over.false) left.image;
      kept = rw (← c.waits.ensures, c.if-waits.false, ← c.is_over.ensures.is, c.if-is_over.false) left.kept;
      stands = rw (← c.waits.ensures, c.if-waits.false, ← c.is_over.ensures.is, c.if-is_over.false) left.stands;
    }
