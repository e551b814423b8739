-- A refusal is a number and no more; an effect is enacted as its definition says.
use mathlib.Core.Path.{refl, subst}
use Rattle.std.proofs.lemmas.Result.{IfErr-at_err}
use Rattle.table_image.specs.Layout.{table_of}
use Rattle.call_outcomes.specs.Deciding.{Enactable}
use Rattle.call_outcomes.proofs.Laws.{leaves_refused}
use Rattle.call_enacting.proofs.conclude.Goals as goal

pub enact-requires : goal.enact-requires
enact-requires g c =
    record { call = c.requires.call; fits = subst (Enactable (table_of c.args.img.now)) c.in-Ok.is c.requires.fits }

pub returns-in-Err : goal.returns-in-Err
returns-in-Err g c = λ k numbered.
    let img = c.args.img.now in
    rw c.in-Err.is (leaves_refused img c.args.room.now (table_of img) _ _ (IfErr-at_err _ c.in-Err.is numbered) refl)

pub returns-in-Ok : goal.returns-in-Ok
returns-in-Ok g c = λ k numbered. rw c.in-Ok.is c.enact.ensures
