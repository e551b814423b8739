-- A stream is open exactly if its bit of the mask is 0, and past the table's end none is.
use Prim.Native.Nat.{ℕ}
use mathlib.Core.Path.{sym, ap, ◌∙◌}
use lib.Dec.{eqb}
use lib.ListN.{get_or-eq_default}
use Rattle.paper.specs.Base.{Slot, closed}
use Rattle.table_image.specs.Layout.{bit, slot_at, table_of}
use Rattle.table_image.proofs.TableBack.{slot-at}
use Rattle.table_image.proofs.LentTable.is_open.Goals as goal

pub returns-then-i-lt-STREAM_TOTAL : goal.returns-then-i-lt-STREAM_TOTAL
unfolding slot_at
returns-then-i-lt-STREAM_TOTAL c =
    let a = c.args in
    ap (λ (m : ℕ). eqb (bit m a.i) 0) c.mask_in-m.ensures
    ∙ sym (ap (λ (x : Slot). x.is_open) (slot-at a.self.image.now a.i c.if-i-lt-STREAM_TOTAL.true))

pub returns : goal.returns
unfolding table_of
returns c =
    sym (ap (λ (x : Slot). x.is_open) (get_or-eq_default (table_of c.args.self.image.now).slots closed c.if-i-lt-STREAM_TOTAL.false))
