-- What a sound table gives the call's parts, and what the call comes to on a sound image.
use Prim.Native.Nat.{ℕ, ◌≤◌}
use mathlib.Core.Path.{◌≡◌, refl, sym, ap, subst, ◌∙◌}
use mathlib.Core.Bool.{true, not, false≢true}
use mathlib.Core.List.{List}
use lib.ListN.{length}
use Rattle.std.specs.Prelude.{Result, Ok, Err}
use lib.Dec.{ltb}
use Rattle.ledger.specs.Choice.{◌⇒◌∣◌}
use Rattle.ledger.proofs.Tallies.{both_of, skip}
use Rattle.paper.specs.Base.{stream}
use Rattle.paper.specs.RecordsIn.{input_of}
use Rattle.paper.specs.Refusals.{little_room, not_a_record, refused}
use Rattle.paper.specs.Sound.{sound}
use Rattle.paper.specs.StateRows.{state_rows}
use Rattle.paper.specs.Step.{serve_by, is_readable, step_by}
use Rattle.paper.specs.Room.{room_size, room_for}
use Rattle.paper.specs.declared.PpaNumber.{PpaNumber}
use Rattle.paper.specs.declared.Frame.{Frame}
use Rattle.paper.specs.declared.Input.{Input}
use Rattle.paper.specs.declared.Input.TheVariants as input
use Rattle.paper.proofs.Records.{least_size, read-long}
use Rattle.paper.proofs.SoundTests.{few-granted}
use Rattle.table_image.specs.Layout.{table_of, tidy, sound_image}
use Rattle.call_outcomes.specs.Leaving.{leaving, call_of}
use Rattle.call_outcomes.specs.Answering.{refusal_number}
use Rattle.call_outcomes.specs.declared.Deed.{Deed}
use Rattle.call_outcomes.specs.declared.Refusal.{Refusal}
use Rattle.call_outcomes.proofs.Laws.{some_number}
use Rattle.call_enacting.specs.Concluding.{Numbered}
use Rattle.call_events.specs.Bringing.{is_of_line}
use Rattle.call_engine.specs.Reading.{is_to_stream}
use Rattle.paper.specs.Saps.{most_open}

-- an image that is lent soundly is tidy, and its table sound
pub parts : (img : List ℕ) → sound_image img ≡ true → (tidy img ≡ true) × (sound (table_of img) ≡ true)
unfolding sound_image
parts img h = both_of (tidy img) (sound (table_of img)) h

-- at most 8 are granted
pub image_grants_few : (img : List ℕ) → sound_image img ≡ true → (i : ℕ) → (stream (table_of img) i).granted ≤ most_open
image_grants_few img h = few-granted (table_of img) (parts img h).1

-- each refusal has its number in the rule paper
pub all_numbered : (d : Result Deed Refusal) → Numbered refusal_number d
all_numbered (Ok deed) = tt
all_numbered (Err refusal) = some_number refusal

-- ---- what a record asks for, by what was read

pub to_stream : (q : Input) → ((p : PpaNumber) → q ≡ input.AddPpa p → ⊥)
    → (q ≡ input.Open → ⊥)
    → ((i : ℕ) → q ≡ input.Close i → ⊥)
    → ((f : Frame) → q ≡ input.Frame f → ⊥) → is_to_stream q ≡ true
to_stream input.Unreadable n1 n2 n3 n4 = refl
to_stream input.Malformed n1 n2 n3 n4 = refl
to_stream (input.AddPpa p) n1 n2 n3 n4 = absurd (n1 p refl)
to_stream input.Open n1 n2 n3 n4 = absurd (n2 refl)
to_stream (input.Close i) n1 n2 n3 n4 = absurd (n3 i refl)
to_stream (input.Message i l n) n1 n2 n3 n4 = refl
to_stream (input.CallArrives p sap) n1 n2 n3 n4 = refl
to_stream (input.PeerAccepted i) n1 n2 n3 n4 = refl
to_stream (input.PeerGone i reason) n1 n2 n3 n4 = refl
to_stream (input.CallWithdrawn i n reason) n1 n2 n3 n4 = refl
to_stream (input.PeerReset i reason) n1 n2 n3 n4 = refl
to_stream (input.ResetConfirmed i) n1 n2 n3 n4 = refl
to_stream (input.Frame f) n1 n2 n3 n4 = absurd (n4 f refl)

-- for which 128 bytes are room enough
pub one_room : (q : Input) → is_to_stream q ≡ true → room_for q ≡ room_size
one_room input.Unreadable k = refl
one_room input.Malformed k = refl
one_room (input.AddPpa p) k = refl
one_room input.Open k = refl
one_room (input.Close i) k = refl
one_room (input.Message i l n) k = refl
one_room (input.CallArrives p sap) k = refl
one_room (input.PeerAccepted i) k = refl
one_room (input.PeerGone i reason) k = refl
one_room (input.CallWithdrawn i n reason) k = refl
one_room (input.PeerReset i reason) k = refl
one_room (input.ResetConfirmed i) k = refl
one_room (input.Frame f) k = absurd (false≢true k)

pub from_line : (q : Input) → is_to_stream q ≡ true → ((i : ℕ) (l : ℕ) (n : ℕ) → q ≡ input.Message i l n → ⊥) → is_of_line q ≡ true
from_line input.Unreadable h k = refl
from_line input.Malformed h k = refl
from_line (input.AddPpa p) h k = absurd (false≢true h)
from_line input.Open h k = absurd (false≢true h)
from_line (input.Close i) h k = absurd (false≢true h)
from_line (input.Message i l n) h k = absurd (k i l n refl)
from_line (input.CallArrives p sap) h k = refl
from_line (input.PeerAccepted i) h k = refl
from_line (input.PeerGone i reason) h k = refl
from_line (input.CallWithdrawn i n reason) h k = refl
from_line (input.PeerReset i reason) h k = refl
from_line (input.ResetConfirmed i) h k = refl
from_line (input.Frame f) h k = absurd (false≢true h)

pub plain_room : (q : Input) → ((f : Frame) → q ≡ input.Frame f → ⊥) → room_size ≡ room_for q
plain_room input.Unreadable k = refl
plain_room input.Malformed k = refl
plain_room (input.AddPpa p) k = refl
plain_room input.Open k = refl
plain_room (input.Close i) k = refl
plain_room (input.Message i l n) k = refl
plain_room (input.CallArrives p sap) k = refl
plain_room (input.PeerAccepted i) k = refl
plain_room (input.PeerGone i reason) k = refl
plain_room (input.CallWithdrawn i n reason) k = refl
plain_room (input.PeerReset i reason) k = refl
plain_room (input.ResetConfirmed i) k = refl
plain_room (input.Frame f) k = absurd (k f refl)

-- a record that was read has at least its size
pub read_whole : (r : List ℕ) (q : Input) → input_of r ≡ q → least_size q ≤ length r
read_whole r q e = subst (λ (q : Input). least_size q ≤ length r) e (read-long r)

-- ---- the call

-- on a sound image it is what the record comes to
pub call-on : (img r room : List ℕ) → sound_image img ≡ true
    → leaving img room
    (not (is_readable (input_of r)) ⇒ refused (table_of img) not_a_record
    ∣ ltb (length room) (room_for (input_of r)) ⇒ refused (table_of img) little_room
    ∣ serve_by state_rows (table_of img) r (input_of r))
    ≡ call_of img r room
unfolding call_of step_by
call-on img r room h = sym (skip _ _ _ (ap not (parts img h).0) ∙ ap (leaving img room) (skip _ _ _ (ap not (parts img h).1)))
