-- The stream's bit leaves the mask and the byte behind the mask is set; a closed stream is zero, as one just opened is.
use Prim.Native.Nat.{ℕ, ◌-◌, ◌^◌}
use mathlib.Core.Bool.{not}
use mathlib.Core.Path.{sym, ap, ap₂, ◌∙◌}
use mathlib.Core.List.{List, [], ◌∷◌, ◌++◌}
use Rattle.ledger.specs.Tally.{one_if}
use Rattle.octets.specs.Numbers.{be16}
use Rattle.octets.specs.Runs.{paste}
use Rattle.paper.specs.Base.{Slot}
use Rattle.table_image.specs.Layout.{bit, table_of, mask_offset}
use Rattle.table_image.proofs.Lending.{mask_lent, bit-lent}
use Rattle.table_image.proofs.Stored.{store_opening}
use Rattle.table_image.proofs.open_slot.Goals as goal

pub mask_without-m-requires : goal.mask_without-m-requires
mask_without-m-requires c =
    let i = c.args.i in
    record {
      within = c.requires.at.within;
      told = ap (λ (m : ℕ). bit m i) c.mask_in.ensures ∙ bit-lent c.args.img.now c.requires.at.lent i c.requires.at.within
          ∙ ap (λ (x : Slot). one_if (not x.is_open)) c.requires.shut;
    }

pub returns : goal.returns
returns c =
    let img = c.args.img.now in
    let i = c.args.i in
    let l = c.requires.at.lent in
    c.put_bytes.ensures
    ∙ ap₂ (λ (r : List ℕ) (m : ℕ). paste r mask_offset (be16 m ++ (1 ∷ []))) (sym l.same)
    (c.mask_without-m.ensures ∙ ap (λ (m : ℕ). m - 2 ^ i) (c.mask_in.ensures ∙ mask_lent img l))
    ∙ store_opening (table_of img) l.shaped i c.requires.at.within c.requires.shut
