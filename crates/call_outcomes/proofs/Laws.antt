-- Laws of what a call leaves: of records written, of a refusal, by one test after another.
use Prim.Native.Nat.{ℕ, ◌+◌, ◌<◌}
use native.Mathlib.Omega.{arith}
use mathlib.Core.Path.{◌≡◌, sym, ap, refl}
use mathlib.Core.Bool.{Bool, true, false, false≢true}
use mathlib.Core.List.{List}
use borrow.Author.Tests.{lt-ltb}
use lib.ListN.{length}
use Rattle.ledger.specs.Choice.{◌⇒◌∣◌, both}
use Rattle.paper.specs.Base.{Table}
use Rattle.paper.specs.RecordsOut.{Record, all_bytes}
use Rattle.paper.specs.Refusals.{Outcome, refused, served, not_sound}
use Rattle.paper.specs.Sound.{sound}
use Rattle.paper.specs.Step.{step_by}
use Rattle.table_image.specs.Layout.{table_of, image_of, tidy, sound_image}
use Rattle.call_outcomes.specs.Leaving.{Left, left, refusing, leaving, call_of}
use Rattle.call_outcomes.specs.Answering.{refusal_number}
use Rattle.call_outcomes.specs.declared.Refusal.{Refusal}
use Rattle.call_outcomes.specs.declared.Refusal.TheVariants as refusal
use Rattle.octets.specs.Writing.{Wrote}
use Rattle.octets.proofs.Writing.{wrote-over}

-- a served call leaves its table's image and its records at the start of the room
pub leaves_served : (img room : List ℕ) (t : Table) (rs : List Record) (n : ℕ) (img' room' : List ℕ)
    → Wrote (all_bytes rs) 0 n room room' → img' ≡ image_of t → left n img' room' ≡ leaving img room (served t rs)
unfolding leaving ◌⇒◌∣◌
leaves_served img room t rs n img' room' w b =
    let e : n ≡ length (all_bytes rs) + 0 = omega (arith, w.ends) in
    λ i. left (e i) (b i) (wrote-over (all_bytes rs) w i)

-- ---- tests, one after another

-- a test that holds leads to its answer, one that fails to what follows
pub where_true : {x : Left} {b : Bool} (img room : List ℕ) (o p : Outcome) → b ≡ true → x ≡ leaving img room o → x ≡ leaving img room (b ⇒ o ∣ p)
unfolding ◌⇒◌∣◌
where_true img room o p e h = rw e h

pub where_false : {x : Left} {b : Bool} (img room : List ℕ) (o p : Outcome) → b ≡ false → x ≡ leaving img room p → x ≡ leaving img room (b ⇒ o ∣ p)
unfolding ◌⇒◌∣◌
where_false img room o p e h = rw e h

-- a refused call leaves image and room as they stood
pub leaves_refused : (img room : List ℕ) (t : Table) (k n : ℕ) → 0 < k → n ≡ refusing k → left n img room ≡ leaving img room (refused t k)
unfolding leaving ◌⇒◌∣◌
leaves_refused img room t k n h e = rw (lt-ltb 0 k h) (ap (λ (m : ℕ). left m img room) e)

-- each refusal has a number
pub some_number : (x : Refusal) → 0 < refusal_number x
some_number refusal.LittleRoom = omega arith
some_number refusal.NotOpen = omega arith
some_number refusal.AllOpen = omega arith
some_number refusal.NoCode = omega arith
some_number refusal.OverLong = omega arith
some_number refusal.Unexpected = omega arith
some_number refusal.NobodyThere = omega arith
some_number refusal.Busy = omega arith
some_number refusal.NoNewPpa = omega arith
some_number refusal.NotARecord = omega arith
some_number refusal.NotSound = omega arith

-- "16: a table that isn't sound", before all other tests.
pub unsound_gives_sixteen : (img r room : List ℕ) → sound_image img ≡ false → call_of img r room ≡ left (refusing not_sound) img room
unfolding sound_image call_of leaving step_by ◌⇒◌∣◌
unsound_gives_sixteen img r room = go (tidy img) refl (sound (table_of img)) refl
  where
    go : (a : Bool) → tidy img ≡ a → (b : Bool) → sound (table_of img) ≡ b → both a b ≡ false → call_of img r room ≡ left (refusing not_sound) img room
    go false e b f h = rw e
    go true e false f h = rw (e, f)
    go true e true f h = absurd (false≢true (sym h))
