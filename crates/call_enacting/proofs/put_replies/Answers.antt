-- No reply writes nothing, and one is written as a message up, which is a record's 99 bytes.
use Rattle.std.proofs.Common.{Option}
use native.Mathlib.Omega.{arith}
use Prim.Native.Nat.{◌≤◌}
use mathlib.Core.Path.{refl, subst}
use lib.ListN.{length}
use Rattle.paper.specs.Base.{mac_at}
use Rattle.paper.specs.RecordsOut.{up}
use Rattle.paper.specs.Effects.{behind_reply, ups_in}
use Rattle.paper.specs.Room.{most_said}
use Rattle.table_image.specs.Layout.{table_of}
use Rattle.paper.proofs.RecordsOut.{one_wrote}
use Rattle.call_enacting.proofs.put_replies.Goals as goal
use Rattle.paper.specs.declared.Reply.{Reply}

pub put_reply-requires : goal.put_reply-requires
put_reply-requires c =
    record { within = c.requires.within; roomy = subst (λ (u : Option Reply). most_said u ≤ length c.args.room.now) c.in-Some.is c.requires.roomy }

pub returns-in-None : goal.returns-in-None
unfolding ups_in
returns-in-None c = rw c.in-None.is (record { few = omega arith; ends = refl; stands = refl })

pub returns-in-Some : goal.returns-in-Some
unfolding ups_in
returns-in-Some c =
    let a = c.args in
    let r = c.in-Some.reply in
    let record_up = up a.i r (behind_reply (mac_at (table_of a.table.image.now) a.i) a.r.now r) in
    rw c.in-Some.is (one_wrote record_up record_up refl c.put_reply.ensures)
