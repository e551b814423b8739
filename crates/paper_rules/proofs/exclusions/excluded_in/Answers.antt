-- What was passed over does not hold, so the search goes on in what is left of the list.
use Prim.Native.Nat.{◌≤◌}
use native.Mathlib.Omega.{arith}
use native.Mathlib.Numerals.{add-one}
use mathlib.Core.Path.{◌≡◌, sym, ap, ◌∙◌}
use mathlib.Core.Bool.{true, false}
use mathlib.Core.List.{List}
use lib.ListN.{length, get_or, drop_of_length-le}
use borrow.Author.Rules.{rules}
use Rattle.ledger.proofs.Tallies.{hold, skip}
use Rattle.paper.specs.Exclusions.{excludes, excluded_in}
use Rattle.paper.specs.declared.Exclusion.{Exclusion}
use Rattle.paper.specs.declared.Ground.TheVariants.{OddSap}
use Rattle.paper.specs.declared.Which.TheVariants.{Odd}
use Rattle.paper.specs.declared.Place.TheVariants.{Binding}
use Rattle.paper.proofs.Exclusions.{excluded_from}
use Rattle.paper_rules.proofs.exclusions.excluded_in.Goals as goal

-- what stands past the list's end
abbrev past : Exclusion
past = record { grounds = OddSap; which = Odd; first = 0; last = 0; place = Binding }

pub returns-then-excludes : goal.returns-then-excludes
returns-then-excludes c =
    let a = c.args in
    let k = c.loop-x.x-index in
    let held : excludes (get_or a.l k past) a.n ≡ true = sym c.excludes.ensures ∙ c.if-excludes.true in
    sym (c.loop-x.invariant ∙ excluded_from past a.l k a.n (search rules) ∙ hold _ _ _ held)

pub loop-x-preserved : goal.loop-x-preserved
loop-x-preserved c =
    let a = c.args in
    let k = c.loop-x.x-index in
    let failed : excludes (get_or a.l k past) a.n ≡ false = sym c.excludes.ensures ∙ c.if-excludes.false in
    c.loop-x.invariant ∙ excluded_from past a.l k a.n (search rules) ∙ skip _ _ _ failed ∙ rw (add-one k)

pub returns : goal.returns
returns c =
    let a = c.args in
    let k = c.loop-x.x-index in
    let end : length a.l ≤ k = search rules in
    sym (c.loop-x.invariant ∙ ap (λ (l : List Exclusion). excluded_in l a.n) (drop_of_length-le a.l {i = k} end))
