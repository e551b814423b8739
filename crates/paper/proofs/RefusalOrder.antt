-- 'Order of tests: 16, 10, 1, 2, 5, 4, then the rest; of 7 and 8, 7 first': each of these calls would be refused by every later test too, and
-- gets the first number. One claim for each list, decided by computation.
use Prim.Native.Nat.{ℕ}
use mathlib.Core.Path.{◌≡◌, refl}
use mathlib.Core.List.{List, [], ◌∷◌, ◌++◌, map}
use lib.ListN.{take}
use Rattle.ledger.specs.Choice.{◌⇒◌∣◌}
use Rattle.octets.specs.Numbers.{be32}
use Rattle.octets.specs.Blocks.{pad, pad_to}
use Rattle.paper.specs.Base.{lowest_free, knows, mac_of, Table}
use Rattle.paper.specs.Correlations.{occurrences, next_number}
use Rattle.paper.specs.Sight.{answer_to}
use Rattle.paper.specs.StateRows.{found}
use Rattle.paper.specs.Decide.{decide_by}
use Rattle.paper.specs.Datagrams.{frames}
use Rattle.paper.specs.Examples.{own, peer, rings_in, stream_zero, unattached, connecting, ringing}
use Rattle.paper.specs.RecordsIn.{kind_of, record_size, wants_data, has_data, is_pair, has_nonzero_past, sap_at, pair_as, message_as, frame_as, input_of}
use Rattle.paper.specs.Saps.{is_sap, is_type, as_bind_allows, listens, listener, is_listened_for}
use Rattle.paper.specs.Sound.{holds_nothing, sound_slot, is_single, is_alone, sound}
use Rattle.paper.specs.Step.{conclude, comes, of_open, message, arrives, step_by, step}
use Rattle.paper.specs.declared.State.TheVariants.{InconPending}

pub record Trial : Type 0 where
  pub table : Table
  pub lent : List ℕ
  pub room : ℕ

abbrev call : Table → List ℕ → ℕ → Trial
call t r n = record { table = t; lent = r; room = n }

-- in state 9 with no open indication: not sound
abbrev unsound : Table
unsound = stream_zero 1 (record { state = InconPending; mode = 1; sap = 0x80; ppa = record { 0 = 1 }; granted = 2 }) []

-- a message of l bytes to a stream, zero where it has no code
abbrev message_to : ℕ → ℕ → List ℕ
message_to i l = (80 ∷ i ∷ l ∷ []) ++ pad []

-- I for an unknown PPA
abbrev elsewhere : List ℕ
elsewhere = 73 ∷ be32 2 ++ own ++ peer

abbrev calls : List Trial
calls =
    call unsound [] 127
    ∷ call unattached [] 127
    ∷ call unattached (message_to 1 97) 127
    ∷ call unattached (message_to 1 97) 128
    ∷ call unattached (message_to 0 97) 128
    ∷ call unattached (message_to 0 3) 128
    -- nobody there, though the one who listens is busy
    ∷ call connecting elsewhere 128
    ∷ call connecting rings_in 128
    ∷ call (ringing 3 (1 ∷ 2 ∷ [])) rings_in 128
    ∷ []

pub first-number : map (λ (x : Trial). (step x.table x.lent x.room).refusal) calls ≡ 16 ∷ 10 ∷ 1 ∷ 2 ∷ 5 ∷ 4 ∷ 7 ∷ 8 ∷ 8 ∷ []
unfolding ◌⇒◌∣◌ lowest_free knows mac_of occurrences next_number answer_to found decide_by kind_of record_size wants_data has_data is_pair has_nonzero_past sap_at pair_as message_as frame_as input_of
    is_sap is_type as_bind_allows listens listener is_listened_for holds_nothing sound_slot is_single is_alone sound conclude comes of_open message arrives step_by
first-number = refl

-- ---- of document 02: a datagram with its M, and a frame

-- M of a stream, with so many bytes of data
abbrev data_to : ℕ → ℕ → List ℕ
data_to i n = (77 ∷ i ∷ n ∷ []) ++ pad_to 64 []

-- code 0x07 alone, to a stream; the same with a nonzero byte past L
abbrev datagram_to : ℕ → List ℕ
datagram_to i = (80 ∷ i ∷ 20 ∷ []) ++ pad (be32 0x07)

abbrev padded : List ℕ
padded = (80 ∷ 1 ∷ 20 ∷ []) ++ pad (be32 0x07 ++ pad_to 16 [] ++ (1 ∷ []))

-- f on a PPA, with addresses of that length, and so many bytes of data
abbrev frame_on : ℕ → ℕ → ℕ → List ℕ
frame_on p n d = 102 ∷ be32 p ++ (n ∷ []) ++ pad_to 8 own ++ pad_to 8 peer ++ (d ∷ []) ++ pad_to 64 []

abbrev datagrams : List Trial
datagrams =
    -- data over 64, and everything before it
    call unsound (padded ++ data_to 1 65) 127
    ∷ call unattached (padded ++ data_to 1 65) 127
    ∷ call unattached (datagram_to 1 ++ data_to 1 65) 127
    ∷ call unattached (datagram_to 1 ++ data_to 1 65) 128
    ∷ call unattached (datagram_to 0 ++ data_to 0 65) 128
    -- 0x07 without its M, with the M of another stream, with a cut one; an M by itself
    ∷ call unattached (datagram_to 0) 127
    ∷ call unattached (datagram_to 0 ++ data_to 1 0) 127
    ∷ call unattached (datagram_to 0 ++ take 66 (data_to 0 0)) 127
    ∷ call unattached (data_to 0 0) 127
    -- served: it is wrong, but refused by nothing
    ∷ call unattached (datagram_to 0 ++ data_to 0 64) 128
    -- an unknown PPA, and everything before it
    ∷ call unsound (frame_on 2 9 65) 4095
    ∷ call unattached (frame_on 2 9 65) 4095
    ∷ call unattached (frame_on 2 7 65) 4095
    ∷ call unattached (frame_on 2 7 65) 4096
    ∷ call unattached (frame_on 2 7 64) 4096
    ∷ call unattached (frame_on 1 7 64) 4096
    ∷ []

pub first-number-of_datagrams : map (λ (x : Trial). (step x.table x.lent x.room).refusal) datagrams
    ≡ 16 ∷ 10 ∷ 1 ∷ 2 ∷ 5 ∷ 10 ∷ 10 ∷ 10 ∷ 10 ∷ 0 ∷ 16 ∷ 10 ∷ 1 ∷ 5 ∷ 7 ∷ 0 ∷ []
unfolding ◌⇒◌∣◌ lowest_free knows mac_of occurrences next_number answer_to found decide_by kind_of record_size wants_data has_data is_pair has_nonzero_past sap_at pair_as message_as
    frame_as input_of is_sap is_type as_bind_allows listens listener is_listened_for holds_nothing sound_slot is_single is_alone sound conclude comes of_open message arrives step_by frames
first-number-of_datagrams = refl
