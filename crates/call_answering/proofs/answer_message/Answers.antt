-- A message asks for a request, which is answered, or breaks a rule of step 1 and is an error.
use Rattle.std.proofs.Common.{Result}
use Prim.Native.Nat.{ℕ}
use mathlib.Core.Path.{sym, ap₂, ◌∙◌}
use Rattle.paper.specs.StateRows.{state_rows}
use Rattle.paper.specs.Sight.{sends}
use Rattle.paper.specs.Step.{comes}
use Rattle.table_image.specs.Layout.{table_of}
use Rattle.call_answering.proofs.Laws.{wrong, error_placed}
use Rattle.call_answering.proofs.answer_message.Goals as goal
use Rattle.paper.specs.declared.Request.{Request}
use Rattle.paper.specs.declared.Rule.{Rule}

pub returns-in-Err : goal.returns-in-Err
returns-in-Err c =
    let t = table_of c.args.table.image.now in
    let i = c.args.i in
    let effect = c.error_effect.ensures in
    λ r. rw c.alone.ensures (record {
      comes =
          wrong t i r _ _ _ effect
          ∙ ap₂ (λ (n : ℕ) (q : Result Request Rule). comes state_rows t i r (sends n q)) c.code_in-code.ensures
          (sym c.in-Err.is ∙ c.asked_by.ensures);
      fits = error_placed _ c.requires.within _ effect;
    })

pub returns-in-Ok : goal.returns-in-Ok
returns-in-Ok c =
    let t = table_of c.args.table.image.now in
    let i = c.args.i in
    let answered = c.answer_request.ensures in
    λ r. record {
      comes =
          (answered r).comes
          ∙ ap₂ (λ (n : ℕ) (q : Result Request Rule). comes state_rows t i r (sends n q)) c.code_in-code.ensures
          (sym c.in-Ok.is ∙ c.asked_by.ensures);
      fits = (answered r).fits;
    }
