-- The rules are tested in the order of step 4; what a bind is served with has its mode and SAP as they were asked for.
use Rattle.ledger.specs.Choice.{◌⇒◌∣◌}
use Rattle.paper.specs.ErrorOrder.{judge_listening}
use Rattle.paper_rules.proofs.order.judge_listening.Goals as goal

pub returns-then-connects_to_type : goal.returns-then-connects_to_type
unfolding judge_listening ◌⇒◌∣◌
returns-then-connects_to_type c = simp (← c.connects_to_type.ensures, c.if-connects_to_type.true)

pub returns-then-listens_too : goal.returns-then-listens_too
unfolding judge_listening ◌⇒◌∣◌
returns-then-listens_too c = simp (← c.connects_to_type.ensures, c.if-connects_to_type.false, ← c.listens_too.ensures, c.if-listens_too.true)

pub returns : goal.returns
unfolding judge_listening ◌⇒◌∣◌
returns c =
    simp (
      ← c.connects_to_type.ensures,
      c.if-connects_to_type.false,
      ← c.listens_too.ensures,
      c.if-listens_too.false,
      ← c.grant_of-granted.ensures,
    )
