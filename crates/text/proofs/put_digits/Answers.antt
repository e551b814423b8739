-- A number's digits are found from the last to the first: those still to come, and behind them those that stand from `from` on, are
-- its digits at every turn.
use Rattle.std.proofs.Common.{rules, arith, ◌≡◌, ◌∙◌}
use Rattle.text.specs.Digits.{digits}
use Rattle.text.proofs.Laws.{tenth, digits_none, digit-before, digit-first}
use Rattle.text.proofs.put_digits.Goals as goal

pub loop-from-init : goal.loop-from-init
loop-from-init c = record { small = omega arith; long = search rules; stand = digits_none c.args.n c.args.digits.now (search rules) }

pub loop-from-preserved : goal.loop-from-preserved
loop-from-preserved c =
    let l = c.loop-from in
    record {
      small = tenth l.from l.rest (search rules) l.invariant.small;
      long = search rules;
      stand = digit-before l.from l.rest l.digits c.if-rest-lt10.false (search rules) (search rules) ∙ l.invariant.stand;
    }

pub returns-then-rest-lt10 : goal.returns-then-rest-lt10
returns-then-rest-lt10 c =
    let l = c.loop-from in
    record {
      some = omega arith;
      long = search rules;
      stand = digit-first l.from l.rest l.digits c.if-rest-lt10.true (search rules) (search rules) ∙ l.invariant.stand;
    }

pub returns : goal.returns
unfolding digits
returns c =
    let none : c.loop-from.from ≡ 0 = omega arith in
    record { some = omega arith; long = c.loop-from.invariant.long; stand = rw none at c.loop-from.invariant.stand }
