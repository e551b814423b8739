-- The rules are tested in the order of step 4, and what passes them has a mode of one byte and a SAP or type of two.
use borrow.Author.Tests.{eq-eqb, ne_eqb}
use mathlib.Core.Path.{sym, ◌∙◌}
use Rattle.ledger.specs.Choice.{◌⇒◌∣◌}
use Rattle.paper.specs.ErrorOrder.{judge_bind}
use Rattle.paper.proofs.Saps.{mode-fits, sap-fits}
use Rattle.paper_rules.proofs.order.judge_bind.Goals as goal

pub returns-then-not-is_mode : goal.returns-then-not-is_mode
unfolding judge_bind ◌⇒◌∣◌
returns-then-not-is_mode c = simp (← c.is_mode.ensures, c.if-not-is_mode.true)

pub returns-then-b-ne0 : goal.returns-then-b-ne0
unfolding judge_bind ◌⇒◌∣◌
returns-then-b-ne0 c = simp (← c.is_mode.ensures, c.if-not-is_mode.false, ne_eqb _ _ c.if-b-ne0.true)

pub returns-then-b-ne0-2 : goal.returns-then-b-ne0-2
unfolding judge_bind ◌⇒◌∣◌
returns-then-b-ne0-2 c =
    simp (← c.is_mode.ensures, c.if-not-is_mode.false, eq-eqb _ _ c.if-b-ne0.false, ne_eqb _ _ c.if-b-ne0-2.true)

pub returns-then-not-is_sap_or_type : goal.returns-then-not-is_sap_or_type
unfolding judge_bind ◌⇒◌∣◌
returns-then-not-is_sap_or_type c =
    simp (
      ← c.is_mode.ensures,
      c.if-not-is_mode.false,
      eq-eqb _ _ c.if-b-ne0.false,
      eq-eqb _ _ c.if-b-ne0-2.false,
      ← c.is_sap_or_type.ensures,
      c.if-not-is_sap_or_type.true,
    )

pub judge_listening-requires : goal.judge_listening-requires
judge_listening-requires c =
    record {
      mode = mode-fits _ (sym c.is_mode.ensures ∙ c.if-not-is_mode.false);
      sap = sap-fits _ (sym c.is_sap_or_type.ensures ∙ c.if-not-is_sap_or_type.false);
    }

pub returns : goal.returns
unfolding judge_bind ◌⇒◌∣◌
returns c =
    simp (
      ← c.is_mode.ensures,
      c.if-not-is_mode.false,
      eq-eqb _ _ c.if-b-ne0.false,
      eq-eqb _ _ c.if-b-ne0-2.false,
      ← c.is_sap_or_type.ensures,
      c.if-not-is_sap_or_type.false,
    ) c.judge_listening.ensures
