-- 'An indication takes the counter's number, passing over 0 and numbers still open': the search ends on such a number, since a table has
-- at most 128 open numbers and 129 are tried.
use Prim.Native.Nat.{ℕ, ◌+◌, ◌^◌, ◌≤◌, ◌<◌}
use native.Mathlib.Omega.{arith}
use mathlib.Core.Path.{◌≡◌}
use mathlib.Core.Bool.{true}
use mathlib.Core.List.{List}
use lib.ListN.{length}
use Rattle.ledger.specs.Tally.{sum_of, free}
use Rattle.ledger.proofs.Tallies.{sum_most}
use Rattle.ledger.proofs.Found.{finds}
use Rattle.paper.specs.Base.{Slot, Table, closed}
use Rattle.paper.specs.Correlations.{occurrences, next_number, most_passed}
use Rattle.paper.specs.Saps.{most_open}
use Rattle.table_image.specs.Layout.{table_of, tidy}
use Rattle.table_image.specs.Shape.{Shaped}
use Rattle.table_image.proofs.TidyImage.{Tidy, tidy_parts, shaped-table}

-- At most 16 times 8 numbers are open.
pub next-free : (t : Table) → Shaped t → t.counter < 2 ^ 32 → free (occurrences t) (next_number t) ≡ true
unfolding occurrences next_number
next-free t s h =
    let most : 1 + sum_of (λ (x : Slot). length x.waiting) t.slots ≤ most_passed =
    omega (arith, sum_most (λ (x : Slot). length x.waiting) closed most_open t.slots s.eight, s.sixteen) in
    finds (λ (x : Slot). x.waiting) t.slots most_passed t.counter h most (omega arith)

-- the counter has four bytes
pub counter-small : (img : List ℕ) → tidy img ≡ true → (table_of img).counter < 2 ^ 32
unfolding table_of
counter-small img h =
    let b : Tidy img = tidy_parts img h in
    omega (arith, b.bytes 4, b.bytes 5, b.bytes 6, b.bytes 7)

-- The search ends on a number that is free: not 0, and open on no stream of the table.
pub next-is-free : (img : List ℕ) → tidy img ≡ true → free (occurrences (table_of img)) (next_number (table_of img)) ≡ true
next-is-free img h = next-free (table_of img) (shaped-table img h) (counter-small img h)
