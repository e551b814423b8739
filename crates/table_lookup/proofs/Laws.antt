-- Who listens, by whichever test comes first, and where an image has its PPAs: each in its own place.
use Prim.Native.Nat.{ℕ, ◌+◌, ◌<◌}
use native.Mathlib.Omega.{arith}
use mathlib.Core.Path.{◌≡◌, refl, ap, ◌∙◌}
use mathlib.Core.Bool.{Bool, true, false}
use mathlib.Core.List.{List}
use lib.ListN.{length, get_or}
use lib.Dec.{eqb, ltb}
use Rattle.ledger.specs.Choice.{both}
use Rattle.ledger.proofs.Lists.{listed-length, listed_at}
use Rattle.paper.specs.Base.{no_ppa}
use Rattle.paper.specs.Saps.{listens}
use Rattle.paper.specs.declared.PpaNumber.{PpaNumber}
use Rattle.paper.specs.declared.Stream.{Stream}
use Rattle.table_image.specs.Layout.{ppa_at, table_of}

-- ---- who listens

-- the SAP may be asked first
pub sap-first : (p : PpaNumber) (sap : ℕ) (s : Stream) → listens p sap s ≡ both (eqb s.sap sap) (both (ltb 0 s.granted) (eqb s.ppa.0 p.0))
unfolding listens
sap-first p sap s = go (ltb 0 s.granted) (eqb s.ppa.0 p.0) (eqb s.sap sap)
  where
    go : (a b c : Bool) → both a (both b c) ≡ both c (both a b)
    go true true true = refl
    go true true false = refl
    go true false true = refl
    go true false false = refl
    go false b true = refl
    go false b false = refl

-- a PPA of the table that an image holds
pub ppa-place : (img : List ℕ) (k : ℕ) → k < length (table_of img).ppas → get_or (table_of img).ppas k no_ppa ≡ ppa_at img k
unfolding table_of
ppa-place img k h =
    let z : 0 + k ≡ k = omega arith in
    listed_at (ppa_at img) 0 (get_or img 3 0) k no_ppa (omega (arith, listed-length (ppa_at img) 0 (get_or img 3 0))) ∙ ap (ppa_at img) z
