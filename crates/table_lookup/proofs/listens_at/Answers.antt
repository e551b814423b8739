-- A stream listens where three tests pass, so any of them may be asked first: here that of the SAP.
use Rattle.std.proofs.Common.{sym, ◌∙◌, eqb-true, eq-eqb, ne_eqb}
use Rattle.table_lookup.proofs.Laws.{sap-first}
use Rattle.table_lookup.proofs.listens_at.Goals as goal
use Rattle.table_lookup.proofs.listens_at.Goals.{then-sap_at-sap, else-sap_at-sap}

pub returns-then-granted_at-gt0 : goal.returns-then-granted_at-gt0
returns-then-granted_at-gt0 c =
    elim c.if-sap_at-sap.branch [
      | then-sap_at-sap w ↦ rw (
        sap-first,
        ← c.sap_at.ensures,
        eq-eqb _ _ w.if-sap_at-sap.true,
        ← w.granted_at.ensures,
        ← w.value-is,
        c.if-granted_at-gt0.true,
        c.attached_at.ensures,
      )
      | else-sap_at-sap w ↦ absurd (w.if-sap_at-sap.false (eqb-true _ _ (sym w.value-is ∙ c.if-granted_at-gt0.true)))
    ]

pub returns-else-granted_at-gt0 : goal.returns-else-granted_at-gt0
returns-else-granted_at-gt0 c =
    elim c.if-sap_at-sap.branch [
      | then-sap_at-sap w ↦ rw (
        sap-first,
        ← c.sap_at.ensures,
        eq-eqb _ _ w.if-sap_at-sap.true,
        ← w.granted_at.ensures,
        ← w.value-is,
        c.if-granted_at-gt0.false,
      )
      | else-sap_at-sap w ↦ rw (sap-first, ← c.sap_at.ensures, w.value-is, ne_eqb _ _ w.if-sap_at-sap.false)
    ]
