-- Four bytes over the counter's are the image with that counter.
use Prim.Native.Nat.{ℕ}
use mathlib.Core.Path.{sym, ap, ◌∙◌}
use mathlib.Core.List.{List}
use Rattle.octets.specs.Numbers.{be32}
use Rattle.octets.specs.Runs.{paste}
use Rattle.table_image.specs.Layout.{table_of, counter_offset}
use Rattle.table_image.proofs.Stored.{store_counter}
use Rattle.table_image.proofs.store_counter.Goals as goal

pub returns : goal.returns
returns c =
    let n = c.args.n in
    c.put_number.ensures
    ∙ ap (λ (r : List ℕ). paste r counter_offset (be32 n)) (sym c.requires.same)
    ∙ store_counter (table_of c.args.img.now) n
