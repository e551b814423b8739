-- An image that is not sound is refusal 16 whatever the record is; on a sound one the call is that on a sound table.
use mathlib.Core.Path.{sym, ◌∙◌}
use Rattle.call_outcomes.proofs.Laws.{unsound_gives_sixteen}
use Rattle.call_engine.proofs.call.Goals as goal

pub returns-then-not-sound_image : goal.returns-then-not-sound_image
returns-then-not-sound_image c =
    let img = c.args.img.now in
    let room = c.args.room.now in
    sym (unsound_gives_sixteen img c.args.r.now room (sym c.sound_image.ensures ∙ c.if-not-sound_image.true))

pub call_sound-requires : goal.call_sound-requires
call_sound-requires c = sym c.sound_image.ensures ∙ c.if-not-sound_image.false
