-- The MAC is that of the PPA found; past them all stand zeros.
use Rattle.std.proofs.Common.{◌≡◌, ℕ, Bool, Option, unwrap_or, sym, ap, ◌∙◌, arith}
use lib.Dec.{eqb}
use lib.ListN.{length, get_or-eq_default}
use Rattle.ledger.specs.Tally.{first_of}
use Rattle.paper.specs.Base.{no_ppa, mac_of}
use Rattle.paper.specs.declared.Ppa.{Ppa}
use Rattle.table_image.specs.Layout.{table_of}
use Rattle.ledger.proofs.Places.{first-or_length}
use Rattle.table_lookup.proofs.mac_of.Goals as goal

pub returns-in-Some : goal.returns-in-Some
unfolding mac_of
returns-in-Some c =
    let l = (table_of c.args.table.image.now).ppas in
    let f : Ppa → Bool = λ q. eqb q.number.0 c.args.p.0 in
    let e : c.in-Some.k ≡ first_of f l = ap (λ (r : Option ℕ). unwrap_or r (length l)) (sym c.in-Some.is ∙ c.ppa_place.ensures) ∙ first-or_length f l in
    rw (c.mac_at_place.ensures, e)

pub returns-in-None : goal.returns-in-None
unfolding mac_of
returns-in-None c =
    let l = (table_of c.args.table.image.now).ppas in
    let f : Ppa → Bool = λ q. eqb q.number.0 c.args.p.0 in
    let e : length l ≡ first_of f l = ap (λ (r : Option ℕ). unwrap_or r (length l)) (sym c.in-None.is ∙ c.ppa_place.ensures) ∙ first-or_length f l in
    sym (ap (λ (q : Ppa). q.mac) (get_or-eq_default l no_ppa (omega arith)))
