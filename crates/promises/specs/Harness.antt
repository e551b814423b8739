-- What a harness has in its hands: an image that `kungthevi_fresh` made, the calls that it makes on it in turn, each with any
-- bytes and any room, and what comes back of each: the number returned and the bytes in the room.
use Rattle.std.specs.Prelude.{ℕ, ◌≡◌, true, List, [], ◌∷◌, ◌++◌, length, take}
use Rattle.paper.specs.Base.{Table}
use Rattle.table_image.specs.Layout.{table_of}
use Rattle.call_outcomes.specs.Leaving.{Left, refusal_in, token_in, written_in, call_of}
use Rattle.call_outcomes.specs.Fresh.{fresh_of}
use Rattle.paper.specs.declared.Request.{Request}
use Rattle.promises.specs.Answers.{errors_told, Complete}
use Rattle.promises.specs.History.{Answered}
use Rattle.octets.specs.Runs.{are_bytes}

-- what is lent to a call besides the image: the bytes that it reads, and the room
pub record Lending : Type 0 where
  pub bytes : List ℕ
  pub are_bytes : are_bytes bytes ≡ true
  pub room : List ℕ

-- what the call leaves
abbrev pub left_on : List ℕ → Lending → Left
left_on img c = call_of img c.bytes c.room

-- what came back, taken apart as the header's macros do it: the bytes written stand at the start of the room
abbrev pub came_back : Lending → Left → Answered
came_back c l = record {
  lent = c.bytes;
  refusal = refusal_in l.number;
  opened = token_in l.number;
  written = take (written_in l.number) l.room;
}

-- calls in turn, from an image on: the image after them, and what came back of each
unfoldable pub image_after : List ℕ → List Lending → List ℕ
image_after img [] = img
image_after img (c ∷ cs) = image_after (left_on img c).image cs

unfoldable pub heard : List ℕ → List Lending → List Answered
heard img [] = []
heard img (c ∷ cs) = came_back c (left_on img c) ∷ heard (left_on img c).image cs

-- ---- a harness

-- the bytes that it lent to `kungthevi_fresh`, which took them (0 came back), and the calls that it then made
pub record Harness : Type 0 where
  pub lent : List ℕ
  pub taken : (fresh_of lent).number ≡ 0
  pub calls : List Lending

-- the image that it holds after its calls, the table in it, and what it heard
abbrev pub image_in : Harness → List ℕ
image_in x = image_after (fresh_of x.lent).image x.calls

abbrev pub table_in : Harness → Table
table_in x = table_of (image_in x)

abbrev pub heard_in : Harness → List Answered
heard_in x = heard (fresh_of x.lent).image x.calls

-- what comes back of one call more
abbrev pub next_in : Harness → Lending → Answered
next_in x c = came_back c (left_on (image_in x) c)

abbrev pub and_then : Harness → Lending → Harness
and_then x c = record { lent = x.lent; taken = x.taken; calls = x.calls ++ (c ∷ []) }

-- that it is a complete message that asks stream s for q, and the errors that its answer tells
abbrev pub CompleteIn : Harness → Lending → ℕ → Request → Type 0
CompleteIn x c s q = Complete (table_in x) c.bytes (length c.room) s q

abbrev pub errors_heard : Harness → Lending → List ℕ
errors_heard x c = errors_told (next_in x c).written
