-- The sum is that of the streams, one behind the other.
use native.Mathlib.Omega.{arith}
use mathlib.Core.Path.{◌∙◌, refl}
use borrow.Author.Rules.{rules}
use Prim.Native.Nat.{ℕ}
use Rattle.std.proofs.lemmas.Iterator.{YieldsList-from_range, YieldsList-from_map}
use Rattle.std.proofs.lemmas.Iterator.Consumers.{YieldsList-at, sum_from_yields_List, fits_from_yields_list}
use Rattle.paper.specs.Base.{stream_total}
use Rattle.fates_register.specs.Register.{open_on}
use borrow.Author.Tests.{tests}
use Rattle.fates_report.proofs.Laws.{all_open, open-most}
use Rattle.fates_report.proofs.open_on_all.Goals as goal

pub sum-requires-clause-fits : goal.sum-requires-clause-fits
sum-requires-clause-fits c =
    let g = c.args.register.now in
    let all = all_open stream_total 0 g in
    fits_from_yields_list c.map.result 18446744073709551616
    (YieldsList-from_map _ (λ (i : ℕ). open_on i g) (YieldsList-at c.map.ensures.source (YieldsList-from_range 0 stream_total stream_total refl refl)) c.map.ensures.closure (λ x r q k. search (rules, tests))) (omega (arith, all, open-most stream_total 0 g))

pub returns : goal.returns
returns c =
    let g = c.args.register.now in
    sum_from_yields_List c.map.result c.sum.result c.sum.ensures.ran
    (YieldsList-from_map _ (λ (i : ℕ). open_on i g) (YieldsList-at c.map.ensures.source (YieldsList-from_range 0 stream_total stream_total refl refl)) c.map.ensures.closure (λ x r q k. search (rules, tests)))
    ∙ all_open stream_total 0 g
