-- A stream has at most 8 open numbers, so the place is one of its slot.
use Rattle.std.proofs.Common.{ℕ, ap, ◌∙◌}
use Rattle.table_numbers.proofs.Laws.{number_at}
use Rattle.table_numbers.proofs.number_at.Goals as goal

pub returns : goal.returns
returns c =
    let a = c.args in
    ap (λ (v : ℕ). record { 0 = v }) (c.number_inside.ensures ∙ number_at a.table.image.now c.args.table.lent a.i c.requires.within a.k c.requires.placed)
