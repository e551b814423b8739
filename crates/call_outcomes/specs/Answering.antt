-- What code tells of a call, as the numbers of the rule paper.
use Rattle.std.specs.Prelude.{ℕ, ◌*◌, Result, Ok, Err}
use Rattle.paper.specs.Refusals.{little_room, not_open, all_open, no_code, over_long, unexpected, nobody_there, busy, no_new_ppa, not_a_record, not_sound}
use Rattle.call_outcomes.specs.Leaving.{refusing}
use Rattle.call_outcomes.specs.declared.Refusal.{Refusal}
use Rattle.call_outcomes.specs.declared.Refusal.TheVariants.{LittleRoom, NotOpen, AllOpen, NoCode, OverLong, Unexpected, NobodyThere, Busy, NoNewPpa, NotARecord, NotSound}
use Rattle.call_outcomes.specs.declared.Served.{Served}
use Rattle.call_outcomes.specs.declared.Served.TheVariants.{Wrote, Opened}

abbrev pub refusal_number : Refusal → ℕ
refusal_number LittleRoom = little_room
refusal_number NotOpen = not_open
refusal_number AllOpen = all_open
refusal_number NoCode = no_code
refusal_number OverLong = over_long
refusal_number Unexpected = unexpected
refusal_number NobodyThere = nobody_there
refusal_number Busy = busy
refusal_number NoNewPpa = no_new_ppa
refusal_number NotARecord = not_a_record
refusal_number NotSound = not_sound

-- where refusals are numbered by k
abbrev pub number_by : {E : Type 0} → (E → ℕ) → Result Served E → ℕ
number_by k (Ok (Wrote bytes)) = bytes
number_by k (Ok (Opened token)) = token * 16777216
number_by k (Err refusal) = refusing (k refusal)

abbrev pub call_number : Result Served Refusal → ℕ
call_number = number_by refusal_number
