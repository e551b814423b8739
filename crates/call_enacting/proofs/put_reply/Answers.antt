-- What the message up ends in is what stands behind its fields, which is never more than the addresses of CONNECT_IND.
use Prim.Native.Nat.{ℕ, ◌-◌}
use native.Mathlib.Omega.{arith}
use mathlib.Core.Path.{◌≡◌, ap, ◌∙◌}
use mathlib.Core.List.{List}
use lib.ListN.{replicate}
use Rattle.octets.specs.Runs.{part}
use Rattle.octets.proofs.Runs.{over_begins}
use Rattle.paper.specs.Base.{mac_at}
use Rattle.paper.specs.RecordsOut.{up, bytes_of}
use Rattle.paper.specs.Effects.{behind_reply}
use Rattle.paper.specs.declared.Reply.{Reply}
use Rattle.paper.proofs.Tails.{tail_most}
use Rattle.table_image.specs.Layout.{table_of}
use Rattle.table_image.proofs.Shapes.{mac-length}
use Rattle.call_enacting.specs.Behind.{own_behind, behind_by}
use Rattle.call_enacting.proofs.Laws.{behind_reply_lem}
use borrow.Author.Rules.{rules}
use Rattle.octets.specs.Writing.{WroteMost}
use Rattle.paper.specs.Replies.{most_tail}
use Rattle.octets.proofs.Writing.{wrote-same, wrote_of, wrote-over}
use Rattle.call_enacting.proofs.put_reply.Goals as goal

-- what is handed on: the first n bytes of x, which begins with the stream's own address, or addresses of the event's record
handed : (mac m l : List ℕ) (r : Reply) {n : ℕ} {x y : List ℕ} → WroteMost most_tail (own_behind mac r) 0 n l x
    → y ≡ behind_by (part x 0 (n - 0)) m r → y ≡ behind_reply mac m r
handed mac m l r {n} w e =
    e ∙ ap (λ (own : List ℕ). behind_by own m r) (over_begins (own_behind mac r) l (n - 0) (wrote-over (own_behind mac r) (wrote_of w)) (omega (arith, w.ends))) ∙ behind_reply_lem mac m r

pub put_up-requires : goal.put_up-requires
put_up-requires c =
    let mac = mac_at (table_of c.args.table.image.now) c.args.i in
    let m = c.args.r.now in
    let own = c.put_own_address-size.ensures in
    let tail = handed mac m (replicate most_tail 0) c.args.reply own c.behind-tail.ensures in
    record { short = rw tail (tail_most mac (mac-length _ c.args.table.lent.shaped _) m c.args.reply); roomy = search rules }

pub returns : goal.returns
returns c =
    let a = c.args in
    let mac = mac_at (table_of a.table.image.now) a.i in
    let own = c.put_own_address-size.ensures in
    let tail = handed mac a.r.now (replicate most_tail 0) a.reply own c.behind-tail.ensures in
    wrote-same (ap (λ (l : List ℕ). bytes_of (up a.i a.reply l)) tail) c.put_up.ensures
