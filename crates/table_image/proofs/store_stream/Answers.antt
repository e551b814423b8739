-- The stream's bytes go over those of its slot, and its open numbers stay behind them.
use Prim.Native.Nat.{ℕ}
use mathlib.Core.Path.{sym, ap₂, ◌∙◌}
use mathlib.Core.List.{List}
use Rattle.octets.specs.Runs.{paste}
use Rattle.table_image.specs.Layout.{slot_base, table_of}
use Rattle.table_image.proofs.Stored.{store_stream}
use Rattle.table_image.proofs.store_stream.Goals as goal

pub returns : goal.returns
returns c =
    let i = c.args.i in
    let l = c.requires.lent in
    c.put_bytes.ensures
    ∙ ap₂ (λ (img s : List ℕ). paste img (slot_base i) s) (sym l.same) c.stream_bytes-bytes.ensures
    ∙ store_stream (table_of c.args.img.now) l.shaped i c.requires.within c.args.s
