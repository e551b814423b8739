-- The numbers are tested place by place.
use mathlib.Core.Path.{◌∙◌}
use Prim.Native.Nat.{◌-◌}
use lib.ListN.{length, get_or}
use Rattle.octets.specs.Runs.{part}
use borrow.Author.Tests.{tests}
use borrow.Author.Rules.{rules}
use native.Mathlib.Omega.{arith}
use Rattle.std.proofs.lemmas.Iterator.{YieldsList-from_range}
use Rattle.std.proofs.lemmas.Iterator.Search.{all_from_yields_List}
use Rattle.table_soundness.specs.Groups.{is_single_in}
use Rattle.table_soundness.proofs.Singles.{all_single}
use Rattle.table_soundness.proofs.are_single.Goals as goal

pub returns : goal.returns
returns c =
    let l = c.args.numbers.now in
    all_from_yields_List (λ k. is_single_in (part l k (length l - k)) (get_or l k 0)) _ _ _ c.all.ensures.ran (YieldsList-from_range 0 (length l) (length l) (cc) (omega arith)) (λ x b q k. search (rules, tests))
    ∙ all_single l
