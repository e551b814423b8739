-- Zeros with every bit of the mask set and the counter 1 are the image of the fresh table, by its definition.
use Prim.Native.Nat.{ℕ}
use mathlib.Core.Path.{ap, ◌∙◌}
use mathlib.Core.List.{List, ◌++◌}
use native.Mathlib.Omega.{arith}
use lib.ListN.{replicate, drop_of_length-le}
use Rattle.octets.specs.Numbers.{be16, be32}
use Rattle.octets.specs.Runs.{paste}
use Rattle.table_image.specs.Layout.{stream_bytes, waiting_bytes, header_bytes, image_of, mask_offset, counter_offset, image_size}
use Rattle.table_image.proofs.make_fresh.Goals as goal

pub returns : goal.returns
unfolding image_of header_bytes stream_bytes waiting_bytes
returns c =
    let zeros : List ℕ = replicate image_size 0 in
    c.put_number-2.ensures
    ∙ ap (λ (r : List ℕ). paste r counter_offset (be32 1))
    (c.put_number.ensures
    ∙ ap (λ (r : List ℕ). paste r mask_offset (be16 65535))
    (c.put_bytes.ensures ∙ ap (λ (r : List ℕ). zeros ++ r) (drop_of_length-le c.args.img.now {i = image_size} (omega arith))))
