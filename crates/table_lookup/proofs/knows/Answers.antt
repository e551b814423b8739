-- A PPA is known exactly if it has a place.
use Prim.Native.Nat.{ℕ}
use mathlib.Core.Path.{sym}
use lib.Dec.{eqb}
use lib.ListN.{length-map}
use Rattle.ledger.proofs.Searches.{has_first, first-map}
use Rattle.paper.specs.Base.{ppa_numbers, knows}
use Rattle.paper.specs.declared.Ppa.{Ppa}
use Rattle.table_image.specs.Layout.{table_of}
use Rattle.ledger.proofs.Places.{is_there}
use Rattle.table_lookup.proofs.knows.Goals as goal

pub returns : goal.returns
unfolding knows
returns c =
    let a = c.args in
    let t = table_of a.table.image.now in
    let f : Ppa → ℕ = λ q. q.number.0 in
    rw (c.is_some.ensures, c.ppa_place.ensures, is_there (λ (q : Ppa). eqb q.number.0 a.p.0) t.ppas, ← first-map f a.p.0 t.ppas, ← length-map t.ppas f) (sym (has_first a.p.0 (ppa_numbers t)))
