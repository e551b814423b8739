-- A state row but for its cause.
use Rattle.std.specs.Prelude.{ℕ, [], ◌∷◌, Option}
use Rattle.paper.specs.StateRows.{leads, loses, found_in}
use Rattle.paper_rows.specs.declared.Course.{Course}
use Rattle.paper_rows.specs.declared.Course.TheVariants.{Leads, Loses}
use Rattle.paper.specs.declared.StateRow.{StateRow}

-- The row with a cause, found or not in a state and a mode.
abbrev pub along : Course → ℕ → ℕ → ℕ → Option StateRow
along (Leads mode from to) n m cause = found_in (leads cause mode from to ∷ []) n m cause
along (Loses mode from to last) n m cause = found_in (loses cause mode from to last ∷ []) n m cause
