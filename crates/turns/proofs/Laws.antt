-- A part of what only a call changes is changed only by a call. A page with room stays, and one that is cleared has all its bytes to fill.
use Prim.Native.Nat.{◌+◌, ◌≤◌, ◌<◌}
use native.Mathlib.Omega.{arith}
use mathlib.Core.Path.{◌≡◌, refl, ap}
use mathlib.Core.Bool.{Bool, true, false}
use mathlib.Core.List.{[], ◌++◌}
use lib.ListN.{length, length-append}
use borrow.Author.Tests.{lt-ltb, le-ltb}
use Rattle.ledger.specs.Choice.{◌⇒◌∣◌}
use Rattle.text.specs.Page.{Shown, shown}
use Rattle.text.specs.declared.Page.{Page}
use Rattle.turns.specs.Turns.{most_waiting, waits, is_over, after_turn, Whole, written_out, Drained}
use Rattle.turns.specs.declared.Turn.{Turn}

part_chosen : {A B : Type 0} (f : A → B) (b c : Bool) (x y : A) → f (b ⇒ x ∣ c ⇒ x ∣ y) ≡ (b ⇒ f x ∣ c ⇒ f x ∣ f y)
unfolding ◌⇒◌∣◌
part_chosen f true c x y = refl
part_chosen f false true x y = refl
part_chosen f false false x y = refl

pub part_after_turn : {A B : Type 0} (f : A → B) (t : Turn) (x y : A) → f (after_turn t x y) ≡ after_turn t (f x) (f y)
unfolding after_turn
part_after_turn f t x y = part_chosen f (waits t) (is_over t) x y

pub drained-as-is : (p : Page) → Whole p → length (shown p).text ≤ most_waiting → Drained p p
unfolding written_out ◌⇒◌∣◌
drained-as-is p h few = record {
  roomy = record { whole = h; fits = few };
  is = rw (le-ltb most_waiting (length (shown p).text) few);
  same_bytes = refl;
  same_reference = refl;
}

pub drained-cleared : (p q : Page) → Whole p → most_waiting < length (shown p).text → shown q ≡ record { text = []; spare = (shown p).text ++ (shown p).spare }
    → q.bytes.ghost_name ≡ p.bytes.ghost_name → Drained p q
unfolding written_out ◌⇒◌∣◌
drained-cleared p q h many shows same = record {
  roomy = record {
    whole = omega (arith, ap (λ (s : Shown). length s.text + length s.spare) shows, length-append (shown p).text (shown p).spare);
    fits = omega (arith, ap (λ (s : Shown). length s.text) shows);
  };
  is = rw (lt-ltb most_waiting (length (shown p).text) many) shows;
  same_bytes = ap (λ (s : Shown). s.text ++ s.spare) shows;
  same_reference = same;
}
