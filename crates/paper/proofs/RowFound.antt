-- What the row found says of itself, whatever the list: the search takes a row only if it is one for the stream's state and mode and for
-- what comes, and takes it from the list.
use Rattle.std.proofs.Common.{Some}
use Prim.Native.Nat.{ℕ}
use native.Mathlib.Omega.{arith}
use mathlib.Core.Path.{◌≡◌, refl, sym, ap, ◌∙◌}
use mathlib.Core.Bool.{Bool, true, false}
use mathlib.Core.List.{List, [], ◌∷◌}
use lib.Dec.{eqb}
use borrow.Author.Tests.{eqb-true}
use Rattle.ledger.specs.Choice.{pick}
use Rattle.ledger.specs.Tally.{all_of}
use Rattle.ledger.proofs.Tallies.{both_of}
use Rattle.paper.specs.Base.{number}
use Rattle.paper.specs.StateRows.{is_row, found_in, found}
use Rattle.paper.specs.declared.Stream.{Stream}
use Rattle.paper.specs.declared.StateRow.{StateRow}

record FoundRow (rows : List StateRow) (state mode cause : ℕ) (x : StateRow) : Type 0 where
  fits : is_row state mode cause x ≡ true
  listed : (p : StateRow → Bool) → all_of p rows ≡ true → p x ≡ true

taken : (rows : List StateRow) (state mode cause : ℕ) (x : StateRow) → found_in rows state mode cause ≡ Some x → FoundRow rows state mode cause x
taken [] state mode cause x h = absurd (let z : ◌≡◌ {A = ℕ} 0 1 = cc in omega arith)
taken (y ∷ rows) state mode cause x h = go (is_row state mode cause y) refl h (taken rows state mode cause x)
  where
    go : (b : Bool) → is_row state mode cause y ≡ b → pick b (Some y) (found_in rows state mode cause) ≡ Some x
        → (found_in rows state mode cause ≡ Some x → FoundRow rows state mode cause x) → FoundRow (y ∷ rows) state mode cause x
    go true e h r =
        let z : y ≡ x = cc in
        record { fits = ap (is_row state mode cause) (sym z) ∙ e; listed = λ p a. ap p (sym z) ∙ (both_of _ _ a).0 }
    go false e h r = record { fits = (r h).fits; listed = λ p a. (r h).listed p (both_of (p y) (all_of p rows) a).1 }

module _ (rows : List StateRow) (s : Stream) (cause : ℕ) {x : StateRow} (h : found rows s cause ≡ Some x) where
  row : FoundRow rows (number s) s.mode cause x
  unfolding found
  row = taken rows (number s) s.mode cause x h

  -- it is for what comes, for the stream's state and for its mode
  pub row-cause : x.cause ≡ cause
  row-cause = eqb-true _ _ (both_of (eqb x.cause cause) _ row.fits).0

  pub row_from : x.from ≡ number s
  row_from = eqb-true _ _ (both_of (eqb x.from (number s)) _ (both_of (eqb x.cause cause) _ row.fits).1).0

  pub row-mode : x.mode ≡ s.mode
  row-mode = eqb-true _ _ (both_of (eqb x.from (number s)) _ (both_of (eqb x.cause cause) _ row.fits).1).1

  -- what holds of every row of the list holds of it
  pub has_all : (p : StateRow → Bool) → all_of p rows ≡ true → p x ≡ true
  has_all = row.listed
