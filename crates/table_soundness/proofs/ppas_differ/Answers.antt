-- The PPAs are tested place by place.
use Prim.Native.Nat.{ℕ}
use mathlib.Core.Path.{◌∙◌, sym}
use mathlib.Core.Bool.{Bool}
use lib.Dec.{leb}
use lib.ListN.{get_or}
use borrow.Author.Tests.{tests}
use borrow.Author.Rules.{rules}
use native.Mathlib.Omega.{arith}
use Rattle.std.proofs.lemmas.Iterator.{YieldsList-from_range}
use Rattle.std.proofs.lemmas.Iterator.Search.{all_from_yields_List}
use Rattle.ledger.specs.Tally.{occ}
use Rattle.paper.specs.Base.{ppa_numbers}
use Rattle.table_image.specs.Layout.{table_of}
use Rattle.table_soundness.proofs.Places.{all_places}
use Rattle.table_soundness.proofs.Slots.{ppas_many}
use Rattle.table_soundness.proofs.ppas_differ.Goals as goal

pub returns : goal.returns
returns c =
    let t = table_of c.args.table.image.now in
    let ppas = ppa_numbers t in
    let once : ℕ → Bool = λ p. leb (occ p ppas) 1 in
    all_from_yields_List (λ k. once (get_or ppas k 0)) _ _ _ c.all.ensures.ran (YieldsList-from_range 0 c.from-total.result _ (cc) (omega arith)) (λ x b q k. search (rules, tests))
    ∙ all_places 0 ppas _ (ppas_many t ∙ sym c.ppa_total.ensures ∙ sym c.from-total.ensures) once
