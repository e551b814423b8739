-- The called MAC comes first in the record: the first bytes of the called address are those that are compared.
use Prim.Native.Nat.{ℕ}
use native.Mathlib.Omega.{arith}
use mathlib.Core.Path.{sym, ap, ◌∙◌}
use mathlib.Core.List.{List}
use lib.ListN.{drop}
use lib.Seq.{take-take}
use Rattle.octets.specs.Runs.{same_bytes}
use Rattle.paper.specs.Base.{mac_size, address_size, mac_of}
use Rattle.table_image.specs.Layout.{table_of}
use Rattle.call_events.proofs.is_called.Goals as goal

pub returns : goal.returns
returns c =
    let a = c.args in
    c.has_mac.ensures
    ∙ ap (λ (l : List ℕ). same_bytes l (mac_of (table_of a.table.image.now) a.p)) (c.part_at.ensures ∙ sym (take-take mac_size address_size (drop 5 a.r.now) (omega arith)))
