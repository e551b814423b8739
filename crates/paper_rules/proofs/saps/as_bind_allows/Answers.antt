-- By the mode, the tests are those of the paper's one case or of the other; a third mode passes neither.
use borrow.Author.Tests.{eq-eqb, ne_eqb}
use lib.Dec.{leb}
use Rattle.paper.specs.Saps.{most_open, as_bind_allows}
use Rattle.ledger.proofs.Tallies.{either-false}
use Rattle.paper_rules.proofs.saps.as_bind_allows.Goals as goal

pub returns-then-is_sap : goal.returns-then-is_sap
unfolding as_bind_allows
returns-then-is_sap c =
    simp (c.if-s-eq1.true, ← c.is_sap.ensures, c.if-is_sap.true, either-false (leb c.args.s.granted most_open))

pub returns-else-is_sap : goal.returns-else-is_sap
unfolding as_bind_allows
returns-else-is_sap c = simp (c.if-s-eq1.true, ← c.is_sap.ensures, c.if-is_sap.false)

pub returns-then-s-ne2 : goal.returns-then-s-ne2
unfolding as_bind_allows
returns-then-s-ne2 c = simp (ne_eqb _ _ c.if-s-eq1.false, ne_eqb _ _ c.if-s-ne2.true)

pub returns-then-is_sap_or_type : goal.returns-then-is_sap_or_type
unfolding as_bind_allows
returns-then-is_sap_or_type c =
    rw (ne_eqb _ _ c.if-s-eq1.false, eq-eqb _ _ c.if-s-ne2.false, ← c.is_sap_or_type.ensures, c.if-is_sap_or_type.true)

pub returns-else-is_sap_or_type : goal.returns-else-is_sap_or_type
unfolding as_bind_allows
returns-else-is_sap_or_type c =
    rw (ne_eqb _ _ c.if-s-eq1.false, eq-eqb _ _ c.if-s-ne2.false, ← c.is_sap_or_type.ensures, c.if-is_sap_or_type.false)
