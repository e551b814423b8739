-- Number and MAC go into the first unused place, and the count then tells of one more.
use Prim.Native.Nat.{ℕ, suc, ◌+◌}
use mathlib.Core.Path.{◌≡◌, sym, ap, ◌∙◌}
use mathlib.Core.List.{List, [], ◌∷◌}
use native.Mathlib.Omega.{arith}
use lib.ListN.{length}
use Rattle.octets.specs.Numbers.{be32}
use Rattle.octets.specs.Runs.{paste}
use Rattle.octets.proofs.Runs.{paste_join}
use Rattle.paper.specs.declared.Ppa.{Ppa}
use Rattle.table_image.specs.Layout.{ppa_base, ppa_bytes, table_of, ppa_count_offset}
use Rattle.table_image.proofs.Stored.{store_ppa}
use Rattle.table_image.proofs.store_ppa.Goals as goal

pub returns : goal.returns
returns c =
    let img = c.args.img.now in
    let p : Ppa = record { number = c.args.p; mac = c.args.mac.now } in
    let l = c.requires.given.lent in
    let n = c.ppa_total-n.result in
    let e : n ≡ length (table_of img).ppas = c.ppa_total-n.ensures in
    let o : n + 1 ≡ suc n = omega arith in
    c.put_bytes-2.ensures
    ∙ ap (λ (r : List ℕ). paste r ppa_count_offset ((n + 1) ∷ []))
    (c.put_bytes.ensures
    ∙ ap (λ (r : List ℕ). paste r (ppa_base n + 4) p.mac) c.put_number.ensures
    ∙ sym (paste_join img (ppa_base n) (be32 p.number.0) p.mac (omega arith)))
    ∙ (λ d. paste (paste (sym l.same d) (ppa_base (e d)) (ppa_bytes p)) ppa_count_offset ((o ∙ ap suc e) d ∷ []))
    ∙ store_ppa (table_of img) l.shaped p c.requires.place c.requires.given.six
