-- The cases marked *, and the calls that lead up to them, come to what is due: one claim over the list, decided by
-- computation.
use mathlib.Core.Path.{◌≡◌, refl}
use mathlib.Core.List.{◌++◌, map}
use Prim.Native.Nat.{ℕ}
use lib.ListN.{get_or, take}
use Rattle.ledger.specs.Choice.{◌⇒◌∣◌}
use Rattle.paper.specs.Base.{state_of, header_number, fresh, lowest_free, knows, mac_of, with_slot, with_numbers, with_stream, with_counter, with_ppa, remembering}
use Rattle.paper.specs.Correlations.{occurrences, next_number}
use Rattle.paper.specs.Sight.{carrier_of, answer_to}
use Rattle.paper.specs.StateRows.{found}
use Rattle.paper.specs.Effects.{changed, carried, enacted, orders_in, behind_reply, ups_in, told, effect_of, event_effect}
use Rattle.paper.specs.ErrorOrder.{judge_attach, judge_listening, judge_bind, judge_connect, judge_other, judge_itself, judge_carrier, judge_accept, judge_denial, judge_disconnect, judge_request}
use Rattle.paper.specs.Decide.{effect_by, decide_by}
use Rattle.paper.specs.Messages.{other_code, primitive_of, sized, asked_by}
use Rattle.paper.specs.Openings.{adds_ppa, opens, goodbyes, closes}
use Rattle.paper.specs.RecordsIn.{kind_of, record_size, wants_data, has_data, is_pair, has_nonzero_past, sap_at, pair_as, message_as, frame_as, input_of}
use Rattle.paper.specs.RecordsOut.{in_order}
use Rattle.paper.specs.Replies.{address_of, info_of, info_tail, content_of}
use Rattle.paper.specs.Saps.{is_sap, is_type, grant_of, as_bind_allows, listens, listener, is_listened_for}
use Rattle.paper.specs.Sound.{holds_nothing, sound_slot, is_single, is_alone, sound}
use Rattle.paper.specs.Step.{conclude, comes, of_open, message, arrives, step_by}
use Rattle.paper.specs.Examples.{Case, due_of, came_of, lead_up, on_the_way, starred, stands_after}

pub starred_hold : map came_of (lead_up ++ starred) ≡ map due_of (lead_up ++ starred)
unfolding ◌⇒◌∣◌ state_of header_number lowest_free knows mac_of with_slot with_numbers with_stream with_counter with_ppa remembering occurrences next_number
    carrier_of answer_to found changed carried enacted orders_in behind_reply ups_in told effect_of event_effect judge_attach judge_listening
    judge_bind judge_connect judge_other judge_itself judge_carrier judge_accept judge_denial judge_disconnect judge_request effect_by decide_by
    other_code primitive_of sized asked_by adds_ppa opens goodbyes closes kind_of record_size wants_data has_data is_pair has_nonzero_past sap_at pair_as message_as frame_as input_of in_order address_of info_of
    info_tail content_of is_sap is_type grant_of as_bind_allows listens listener is_listened_for holds_nothing sound_slot is_single is_alone sound
    conclude comes of_open message arrives step_by
starred_hold = refl

-- The calls that lead up are one run from a fresh table: each begins with the table that the one before must leave,
pub lead_up_runs : map (λ (x : Case). x.before) lead_up ≡ take 6 on_the_way
lead_up_runs = refl

-- and each case stands on a table on that way.
pub starred-stand : map (λ (x : Case). x.before) starred ≡ map (λ (n : ℕ). get_or on_the_way n fresh) stands_after
starred-stand = refl
