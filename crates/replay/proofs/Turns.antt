-- What a call and a turn of any program leave is, of replay, what the rule paper says of the call, and a sound table.
use Prim.Native.Nat.{ℕ}
use mathlib.Core.Bool.{Bool}
use mathlib.Core.List.{List}
use Rattle.text.specs.declared.Page.{Page}
use Rattle.turns.specs.Programs as programs
use Rattle.turns.specs.declared.Turn.{Turn}
use Rattle.replay.specs.declared.Replay.{Replay}
use Rattle.replay.specs.Printed.{replay_tells, Replayed, Called, Turned, Kept}

pub replayed : (table bytes : List ℕ) (s : Replay) (page : Page) (n : ℕ) (table' : List ℕ) (s' : Replay) (page' : Page) (refused : Bool)
    → programs.Tells replay_tells table bytes s page n table' s' page' refused → Replayed table bytes page n table' page' refused
replayed table bytes s page n table' s' page' refused w = record { image = w.image; sound = w.holds; wrote = w.wrote; told = w.told }

pub called : (table : List ℕ) (s : Replay) (input : List ℕ) (page : Page) (t : Turn) (table' : List ℕ) (s' : Replay) (page' : Page) (r : Turn)
    → programs.Called replay_tells table s input page t table' s' page' r → Called table input page t table' page' r
called table s input page t table' s' page' r w =
    record { is = w.is; fine = w.fine; prints = w.prints; image = w.image; sound = w.holds; stands = w.stands; same_reference = w.same_reference }

pub turned : (table : List ℕ) (s : Replay) (input : List ℕ) (page : Page) (t : Turn) (table' : List ℕ) (s' : Replay) (page' : Page) (r : Turn)
    → programs.Turned replay_tells table s input page t table' s' page' r → Turned table input page t table' page' r
turned table s input page t table' s' page' r w =
    record { is = w.is; fine = w.fine; prints = w.prints; image = w.image; sound = w.holds; stands = w.stands; same_reference = w.same_reference }

pub kept : (table : List ℕ) (s : Replay) (page : Page) (t : Turn) → programs.Kept replay_tells table s page t → Kept table page t
kept table s page t w = record { fine = w.fine; prints = w.prints; sound = w.holds }
