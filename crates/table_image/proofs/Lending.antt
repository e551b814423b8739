-- Which images are lent: tidy ones, and those of shaped tables, so that one change of an image follows another.
use Prim.Native.Nat.{ℕ, ◌<◌}
use native.Mathlib.Omega.{arith}
use mathlib.Core.Path.{◌≡◌, sym, ap, subst, ◌∙◌}
use mathlib.Core.Bool.{true, not}
use mathlib.Core.List.{List}
use Rattle.ledger.specs.Tally.{one_if}
use Rattle.ledger.proofs.Tallies.{both_of}
use Rattle.paper.specs.Base.{Table, slot, stream_total}
use Rattle.paper.specs.Sound.{sound}
use Rattle.table_image.specs.Layout.{bit, mask_in, table_of, mask_of, image_of, tidy, sound_image}
use Rattle.table_image.specs.Shape.{Shaped}
use Rattle.table_image.specs.Lent.{Lent}
use Rattle.table_image.proofs.Bits.{mask_bit}
use Rattle.table_image.proofs.Shapes.{image-length}
use Rattle.table_image.proofs.TableBack.{mask_back, table_back}
use Rattle.table_image.proofs.TidyImage.{tidy_parts, shaped-table}
use Rattle.table_image.proofs.ImageBack.{image_back}

pub lent-tidy : (img : List ℕ) → tidy img ≡ true → Lent img
lent-tidy img h = record { held = record { long = (tidy_parts img h).size }; same = image_back img h; shaped = shaped-table img h }

pub lent-image : (t : Table) → Shaped t → Lent (image_of t)
lent-image t s = record { held = record { long = image-length t s }; same = ap image_of (table_back t s); shaped = subst Shaped (sym (table_back t s)) s }

-- the mask of a lent image, and its bits
pub mask_lent : (img : List ℕ) → Lent img → mask_in img ≡ mask_of (table_of img).slots
mask_lent img l = ap mask_in (sym l.same) ∙ mask_back (table_of img) l.shaped

pub bit-lent : (img : List ℕ) → Lent img → (i : ℕ) → i < stream_total → bit (mask_in img) i ≡ one_if (not (slot (table_of img) i).is_open)
bit-lent img l i h = ap (λ (m : ℕ). bit m i) (mask_lent img l) ∙ mask_bit (table_of img).slots i (omega (arith, l.shaped.sixteen))

-- a sound image is lent
pub sound-lent : (img : List ℕ) → sound_image img ≡ true → Lent img
unfolding sound_image
sound-lent img h = lent-tidy img (both_of (tidy img) (sound (table_of img)) h).0

-- ---- one change of the image after another

-- an image that a change left is lent to the next one,
pub lent_after : (t : Table) → Shaped t → (img : List ℕ) → img ≡ image_of t → Lent img
lent_after t s img e = subst Lent (sym e) (lent-image t s)

-- which finds the table that the first one left,
pub table_after : (t : Table) → Shaped t → (img : List ℕ) → img ≡ image_of t → table_of img ≡ t
table_after t s img e = ap table_of e ∙ table_back t s

-- and changes that
pub change_after : (t : Table) → Shaped t → (f : Table → Table) (img : List ℕ) → img ≡ image_of t → image_of (f (table_of img)) ≡ image_of (f t)
change_after t s f img e = ap (λ (u : Table). image_of (f u)) (table_after t s img e)
