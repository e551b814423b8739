-- Two runs, one behind the other, are one.
use mathlib.Core.Path.{sym}
use Rattle.std.proofs.Common.{◌≡◌, ◌+◌, length, sym, arith}
use Rattle.table_image.specs.Layout.{slot_base, stream_bytes, count_offset}
use Rattle.table_image.proofs.Shapes.{stream-length}
use Rattle.octets.proofs.Runs.{paste_join}
use Rattle.table_numbers.proofs.put_slot.Goals as goal

pub returns : goal.returns
returns c =
    let a = c.args in
    let e : slot_base a.i + count_offset ≡ slot_base a.i + length (stream_bytes a.s) = omega (arith, stream-length a.s) in
    rw (c.put_bytes-2.ensures, c.put_bytes.ensures, c.stream_bytes-fields.ensures, e)
    (sym (paste_join a.img.now (slot_base a.i) (stream_bytes a.s) a.bytes (omega arith)))
