-- What stood in the room before a call is not seen in what comes back: a refusal writes nothing, and a served call writes the bytes that
-- its number counts, over whatever stood at the start.
use Prim.Native.Nat.{ℕ}
use native.Mathlib.Omega.{arith}
use mathlib.Core.Path.{◌≡◌, refl, sym, ap, ◌∙◌}
use mathlib.Core.Bool.{Bool, true, false, not}
use mathlib.Core.List.{List, []}
use lib.Dec.{ltb}
use lib.ListN.{length, take, drop, replicate, length-replicate}
use lib.Seq.{take-append-le}
use Rattle.ledger.specs.Choice.{◌⇒◌∣◌}
use Rattle.octets.specs.Runs.{over}
use Rattle.paper.specs.RecordsOut.{all_bytes}
use Rattle.paper.specs.Refusals.{Outcome, not_sound}
use Rattle.paper.specs.Room.{frame_room_size}
use Rattle.paper.specs.Step.{step}
use Rattle.table_image.specs.Layout.{table_of, image_of, tidy}
use Rattle.call_outcomes.specs.Leaving.{Left, left, refusing, writing, written_in, leaving, call_of, call_made}

-- the same number and image come back, and the same bytes are written
pub record SameBack (l m : Left) : Type 0 where
  pub number : l.number ≡ m.number
  pub image : l.image ≡ m.image
  pub written : take (written_in l.number) l.room ≡ take (written_in m.number) m.room

none_written : (k : ℕ) (room : List ℕ) → take (written_in (refusing k)) room ≡ []
none_written k room =
    let e : written_in (refusing k) ≡ 0 = omega arith in
    ap (λ (n : ℕ). take n room) e

same-refused : (k : ℕ) (img a b : List ℕ) → SameBack (left (refusing k) img a) (left (refusing k) img b)
same-refused k img a b = record { number = refl; image = refl; written = none_written k a ∙ sym (none_written k b) }

start-written : (bytes room : List ℕ) (opened : ℕ)
    → take (written_in (writing (length bytes) opened)) (over bytes room) ≡ take (written_in (writing (length bytes) opened)) bytes
start-written bytes room opened = take-append-le (written_in (writing (length bytes) opened)) bytes (drop (length bytes) room) (omega arith)

same-leaving : (img a b : List ℕ) (o : Outcome) → SameBack (leaving img a o) (leaving img b o)
unfolding leaving ◌⇒◌∣◌
same-leaving img a b o = go (ltb 0 o.refusal)
  where
    bytes : List ℕ
    bytes = all_bytes o.records

    n : ℕ
    n = writing (length bytes) o.opened

    go : (c : Bool)
        → SameBack (c ⇒ left (refusing o.refusal) img a ∣ left n (image_of o.table) (over bytes a))
        (c ⇒ left (refusing o.refusal) img b ∣ left n (image_of o.table) (over bytes b))
    go true = same-refused o.refusal img a b
    go false = record { number = refl; image = refl; written = start-written bytes a o.opened ∙ sym (start-written bytes b o.opened) }

-- of two rooms of one length
same-call : (img r a b : List ℕ) → length a ≡ length b → SameBack (call_of img r a) (call_of img r b)
unfolding call_of ◌⇒◌∣◌
same-call img r a b e = go (not (tidy img))
  where
    go : (c : Bool)
        → SameBack (c ⇒ left (refusing not_sound) img a ∣ leaving img a (step (table_of img) r (length a)))
        (c ⇒ left (refusing not_sound) img b ∣ leaving img b (step (table_of img) r (length b)))
    go true = same-refused not_sound img a b
    go false = rw e (same-leaving img a b (step (table_of img) r (length b)))

-- In any room of their size a call gives back what it gives back in one of zeros.
pub made_in : (img r room : List ℕ) → length room ≡ frame_room_size → SameBack (call_of img r room) (call_made img r)
made_in img r room e = same-call img r room (replicate frame_room_size 0) (e ∙ sym (length-replicate {A = ℕ} frame_room_size 0))
