-- A stream bound to another SAP is passed over, and so is a closed one; of any other it is asked whether the frame is for it.
use mathlib.Core.Path.{sym, ap, ◌∙◌}
use mathlib.Core.Bool.{Bool}
use borrow.Author.Tests.{ne_eqb}
use Rattle.ledger.specs.Choice.{both}
use Rattle.paper.specs.Base.{slot}
use Rattle.table_image.specs.Layout.{table_of}
use Rattle.paper.specs.Datagrams.{is_for, is_shown}
use Rattle.paper.specs.StateRows.{state_rows}
use Rattle.call_frames.proofs.Laws.{other_sap}
use Rattle.call_frames.proofs.is_shown.Goals as goal

pub returns-then-sap_at-f : goal.returns-then-sap_at-f
returns-then-sap_at-f c =
    let a = c.args in
    other_sap a.f (slot (table_of a.table.image.now) a.i) (rw (← c.sap_at.ensures) (ne_eqb _ _ c.if-sap_at-f.true))

pub returns-then-not-is_open : goal.returns-then-not-is_open
unfolding is_shown
returns-then-not-is_open c =
    let a = c.args in
    let x = slot (table_of a.table.image.now) a.i in
    ap (λ (b : Bool). both b (is_for state_rows a.f x.stream)) (sym (c.if-not-is_open.true) ∙ c.is_open.ensures)

pub returns : goal.returns
unfolding is_shown
returns c =
    let a = c.args in
    let x = slot (table_of a.table.image.now) a.i in
    c.is_for.ensures ∙ ap (is_for state_rows a.f) c.load_stream.ensures
    ∙ ap (λ (b : Bool). both b (is_for state_rows a.f x.stream)) (sym (c.if-not-is_open.false) ∙ c.is_open.ensures)
