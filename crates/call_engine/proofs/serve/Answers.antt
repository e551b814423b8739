-- An opening and a frame are served for themselves; what comes to a stream is decided first, and then concluded.
use Prim.Native.Nat.{ℕ, ◌≤◌}
use mathlib.Core.Path.{ap, subst, ◌∙◌}
use mathlib.Core.List.{List}
use lib.ListN.{length}
use Rattle.table_image.specs.Layout.{table_of}
use Rattle.table_image.proofs.Lending.{sound-lent}
use Rattle.paper.proofs.Records.{adds_long}
use Rattle.call_outcomes.specs.Leaving.{leaving}
use Rattle.paper.specs.Openings.{adds_ppa}
use Rattle.paper.specs.Room.{room_for}
use Rattle.paper.specs.declared.Input.{Input}
use Rattle.paper.proofs.SoundTests.{shut}
use Rattle.call_engine.proofs.Laws.{parts, to_stream, one_room, read_whole, all_numbered}
use Rattle.call_outcomes.specs.Answering.{refusal_number}
use Rattle.octets.proofs.Runs.{part_length}
use Rattle.paper.specs.Base.{mac_size}
use Rattle.call_engine.proofs.serve.Goals as goal

pub add_ppa-requires : goal.add_ppa-requires
add_ppa-requires c =
    let r = c.args.r.now in
    record {
      lent = sound-lent c.args.img.now c.requires.is_sound;
      six = rw c.part_at.ensures (part_length r 5 mac_size (adds_long r _ (c.requires.read ∙ c.in-AddPpa.is)));
    }

pub open_stream-requires : goal.open_stream-requires
open_stream-requires c =
    let img = c.args.img.now in
    record { lent = sound-lent img c.requires.is_sound; shut = shut (table_of img) (parts img c.requires.is_sound).1 }

pub close_stream-requires : goal.close_stream-requires
close_stream-requires c =
    record {
      lent = sound-lent c.args.img.now c.requires.is_sound;
      roomy = subst (λ (q : Input). room_for q ≤ length c.args.room.now) c.in-Close.is c.requires.roomy;
    }

-- a sound image is lent to be read
pub invariant_of-show : goal.invariant_of-show
invariant_of-show c = record { lent = sound-lent c.args.img.now c.requires.is_sound }

pub invariant_of-decide_coming : goal.invariant_of-decide_coming
invariant_of-decide_coming c = record { lent = sound-lent c.args.img.now c.requires.is_sound }

pub show-requires : goal.show-requires
show-requires c =
    record {
      whole = read_whole c.args.r.now _ (c.requires.read ∙ c.in-Frame.is);
      roomy = subst (λ (q : Input). room_for q ≤ length c.args.room.now) c.in-Frame.is c.requires.roomy;
    }

pub decide_coming-d-requires : goal.decide_coming-d-requires
decide_coming-d-requires c =
    let arm = c.in_default in
    record {
      is_sound = c.requires.is_sound;
      read = c.requires.read;
      comes = to_stream c.args.q arm.not-AddPpa arm.not-Open arm.not-Close arm.not-Frame;
    }

pub conclude-requires : goal.conclude-requires
conclude-requires c =
    let arm = c.in_default in
    let enough = one_room c.args.q (to_stream c.args.q arm.not-AddPpa arm.not-Open arm.not-Close arm.not-Frame) in
    record {
      call = record {
        lent = sound-lent c.args.img.now c.requires.is_sound;
        roomy = subst (λ (n : ℕ). n ≤ length c.args.room.now) enough c.requires.roomy;
      };
      fits = c.decide_coming-d.ensures.fits;
    }

pub returns-in-AddPpa : goal.returns-in-AddPpa
returns-in-AddPpa c =
    let img = c.args.img.now in
    let room = c.args.room.now in
    rw c.in-AddPpa.is (c.add_ppa.ensures room
    ∙ ap (λ (m : List ℕ). leaving img room (adds_ppa (table_of img) c.in-AddPpa.p m)) c.part_at.ensures)

pub returns-in-Open : goal.returns-in-Open
returns-in-Open c =
    rw c.in-Open.is (c.open_stream.ensures c.args.room.now)

pub returns-in-Close : goal.returns-in-Close
returns-in-Close c =
    rw c.in-Close.is c.close_stream.ensures

pub returns-in-Frame : goal.returns-in-Frame
returns-in-Frame c =
    rw c.in-Frame.is c.show.ensures

pub returns-in_default : goal.returns-in_default
returns-in_default c =
    c.conclude.ensures refusal_number (all_numbered _) ∙ ap (leaving c.args.img.now c.args.room.now) c.decide_coming-d.ensures.comes
