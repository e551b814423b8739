-- Each number adds one where it is the one that is looked for.
use Prim.Native.Nat.{ℕ}
use mathlib.Core.Path.{◌≡◌, ◌∙◌, sym, refl}
use lib.Dec.{eqb}
use borrow.Author.Rules.{rules}
use Rattle.std.specs.List.{sum_by}
use Rattle.std.proofs.lemmas.List.Recursion.{is_sum_by}
use Rattle.ledger.specs.Tally.{one_if, occ}
use Rattle.table_soundness.proofs.occurs_in.Goals as goal

pub returns : goal.returns
returns c =
    let n = c.args.n in
    let l = c.args.numbers.now in
    let s : c.sum.result ≡ sum_by (λ (x : ℕ). one_if (eqb n x)) l = search rules in
    s ∙ sym (is_sum_by (occ n) (λ (x : ℕ). one_if (eqb n x)) refl (λ _ _. refl) l)
