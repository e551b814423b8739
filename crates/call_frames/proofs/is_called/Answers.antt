-- The called address begins with the MAC, whatever its form.
use Prim.Native.Nat.{ℕ}
use mathlib.Core.Path.{sym, ap, ◌∙◌}
use mathlib.Core.List.{List}
use lib.ListN.{drop}
use lib.Seq.{take-take}
use Rattle.octets.specs.Runs.{same_bytes}
use Rattle.paper.specs.Base.{mac_size, length_of, mac_of}
use Rattle.table_image.specs.Layout.{table_of}
use Rattle.paper.proofs.Tails.{form_least}
use Rattle.call_frames.proofs.is_called.Goals as goal

pub returns : goal.returns
returns c =
    let a = c.args in
    c.has_mac.ensures
    ∙ ap (λ (l : List ℕ). same_bytes l (mac_of (table_of a.table.image.now) a.f.ppa))
    (c.part_at.ensures ∙ sym (take-take mac_size (length_of a.f.form) (drop 6 a.r.now) (form_least a.f.form)))
