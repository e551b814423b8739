-- Each of the two messages has what ends it by the MAC found, and no other has any.
use native.Mathlib.Omega.{arith}
use mathlib.Core.Path.{refl}
use Rattle.paper.specs.Base.{mac_at}
use Rattle.table_image.specs.Layout.{table_of}
use Rattle.paper.specs.Effects.{behind_reply}
use Rattle.call_enacting.proofs.Laws.{not_own}
use Rattle.octets.proofs.Writing.{wrote-more}
use Rattle.call_enacting.proofs.put_own_address.Goals as goal

pub returns-in-InfoAck : goal.returns-in-InfoAck
unfolding behind_reply
returns-in-InfoAck c =
    let found = c.mac_at-mac in
    rw (c.in-InfoAck.is, ← found.ensures) c.put_info_tail.ensures

pub returns-in-BindAck : goal.returns-in-BindAck
unfolding behind_reply
returns-in-BindAck c =
    let found = c.mac_at-mac-in-BindAck in
    let w = c.put_address.ensures in
    rw (c.in-BindAck.is, ← found.ensures) (wrote-more (omega arith) w)

pub returns-in_default : goal.returns-in_default
returns-in_default c =
    let a = c.args in
    rw (not_own (mac_at (table_of a.table.image.now) a.i) a.reply c.in_default.not-InfoAck c.in_default.not-BindAck) (record { few = omega arith; ends = refl; stands = refl })
