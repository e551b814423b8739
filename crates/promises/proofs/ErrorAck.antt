-- Demand 2: "A message answered with DL_ERROR_ACK changes no stream": the effect of an error has nothing in it but the ERROR_ACK, or of a
-- datagram's the UDERROR_IND, and no other effect says one.
use Prim.Native.Nat.{ℕ, ◌<◌}
use mathlib.Core.Path.{◌≡◌, refl, ap, ◌∙◌}
use mathlib.Core.List.{List}
use lib.ListN.{length}
use borrow.Author.Tests.{not-false}
use Rattle.ledger.proofs.Tallies.{chosen}
use Rattle.paper.specs.Base.{Table}
use Rattle.paper.specs.StateRows.{state_rows}
use Rattle.paper.specs.Step.{step}
use Rattle.paper.proofs.Effects.{errors_in}
use Rattle.table_image.specs.Layout.{table_of, image_of}
use Rattle.table_image.proofs.ImageBack.{image_back}
use Rattle.call_outcomes.specs.Leaving.{Left, leaving, call_of}
use Rattle.promises.proofs.Orderly.{orderly}

-- "A message answered with DL_ERROR_ACK changes no stream", nor anything else of the table.
pub error_holds : (t : Table) (r : List ℕ) (room : ℕ)
    → 0 < length (errors_in (step t r room).records) → (step t r room).table ≡ t
error_holds t r room = (orderly state_rows t r room).held

-- A call that changes nothing of the table leaves the very image that it was lent,
pub still_leaves_image : (img r room : List ℕ) → (step (table_of img) r (length room)).table ≡ table_of img → (call_of img r room).image ≡ img
unfolding call_of leaving
still_leaves_image img r room h =
    chosen Back _ _ _ (λ e. refl) (λ e. chosen Back _ _ _ (λ f. refl) (λ f. ap image_of h ∙ image_back img (not-false _ e)))
  where
    Back : Left → Type 0
    Back x = x.image ≡ img

-- so does one that answers with an error.
pub error_leaves_image : (img r room : List ℕ)
    → 0 < length (errors_in (step (table_of img) r (length room)).records) → (call_of img r room).image ≡ img
error_leaves_image img r room h = still_leaves_image img r room (error_holds (table_of img) r (length room) h)
