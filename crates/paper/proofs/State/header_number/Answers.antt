-- With the state known, so is its number in the manual's table, and for that number document 02's list is computed.
use Rattle.ledger.specs.Choice.{◌⇒◌∣◌}
use Rattle.paper.specs.Base.{header_number}
use Rattle.paper.proofs.State.header_number.Goals as goal

pub returns-in-Unattached : goal.returns-in-Unattached
unfolding header_number ◌⇒◌∣◌
returns-in-Unattached c = rw c.in-Unattached.is

pub returns-in-Unbound : goal.returns-in-Unbound
unfolding header_number ◌⇒◌∣◌
returns-in-Unbound c = rw c.in-Unbound.is

pub returns-in-Idle : goal.returns-in-Idle
unfolding header_number ◌⇒◌∣◌
returns-in-Idle c = rw c.in-Idle.is

pub returns-in-OutconPending : goal.returns-in-OutconPending
unfolding header_number ◌⇒◌∣◌
returns-in-OutconPending c = rw c.in-OutconPending.is

pub returns-in-InconPending : goal.returns-in-InconPending
unfolding header_number ◌⇒◌∣◌
returns-in-InconPending c = rw c.in-InconPending.is

pub returns-in-DataXfer : goal.returns-in-DataXfer
unfolding header_number ◌⇒◌∣◌
returns-in-DataXfer c = rw c.in-DataXfer.is

pub returns-in-UserResetPending : goal.returns-in-UserResetPending
unfolding header_number ◌⇒◌∣◌
returns-in-UserResetPending c = rw c.in-UserResetPending.is

pub returns-in-ProvResetPending : goal.returns-in-ProvResetPending
unfolding header_number ◌⇒◌∣◌
returns-in-ProvResetPending c = rw c.in-ProvResetPending.is
