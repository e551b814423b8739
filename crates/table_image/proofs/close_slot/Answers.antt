-- The stream's bit enters the mask, and its slot of zeros is that of a closed stream.
use Prim.Native.Nat.{ℕ, ◌+◌, ◌^◌}
use mathlib.Core.Bool.{Bool, not}
use mathlib.Core.Path.{sym, ap, ap₂, ◌∙◌}
use mathlib.Core.List.{List}
use lib.ListN.{replicate}
use Rattle.ledger.specs.Tally.{one_if}
use Rattle.octets.specs.Numbers.{be16}
use Rattle.octets.specs.Runs.{paste}
use Rattle.table_image.specs.Layout.{slot_base, bit, table_of, mask_offset, slot_size}
use Rattle.table_image.proofs.Lending.{mask_lent, bit-lent}
use Rattle.table_image.proofs.Stored.{store_closing}
use Rattle.table_image.proofs.close_slot.Goals as goal

pub mask_with-m-requires : goal.mask_with-m-requires
mask_with-m-requires c =
    let i = c.args.i in
    record {
      within = c.requires.at.within;
      told = ap (λ (m : ℕ). bit m i) c.mask_in.ensures ∙ bit-lent c.args.img.now c.requires.at.lent i c.requires.at.within
          ∙ ap (λ (b : Bool). one_if (not b)) c.requires.opened;
    }

pub returns : goal.returns
returns c =
    let img = c.args.img.now in
    let i = c.args.i in
    let l = c.requires.at.lent in
    c.put_bytes.ensures
    ∙ ap (λ (r : List ℕ). paste r (slot_base i) (replicate slot_size 0))
    (c.put_number.ensures
    ∙ ap₂ (λ (r : List ℕ) (m : ℕ). paste r mask_offset (be16 m)) (sym l.same)
    (c.mask_with-m.ensures ∙ ap (λ (m : ℕ). m + 2 ^ i) (c.mask_in.ensures ∙ mask_lent img l)))
    ∙ store_closing (table_of img) l.shaped i c.requires.at.within c.requires.opened
