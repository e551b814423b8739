-- The bytes that are handed on are those of the stream's slot.
use mathlib.Core.Path.{sym, ap}
use native.Mathlib.Nat.{add-sub_cancel_left}
use Rattle.paper.specs.Base.{Slot}
use Rattle.table_image.specs.Layout.{slot_at}
use Rattle.table_image.proofs.TableBack.{slot-at}
use Rattle.table_image.proofs.LentTable.load_stream.Goals as goal

pub returns : goal.returns
unfolding slot_at
returns c =
    rw (c.stream_from.ensures, add-sub_cancel_left) (sym (ap (λ (x : Slot). x.stream) (slot-at c.args.self.image.now c.args.i c.requires)))
