-- Laws of opening and closing: the lowest free stream by the count of the free ones, what an opening leaves, the bytes of
-- a run of goodbyes.
use Prim.Native.Nat.{ℕ, suc, ◌+◌, ◌*◌, ◌≤◌, ◌<◌}
use native.Mathlib.Omega.{arith}
use mathlib.Core.Path.{◌≡◌, refl, sym, ap, ◌∙◌}
use mathlib.Core.Bool.{Bool, true, false, not}
use mathlib.Core.List.{List, [], ◌∷◌, ◌++◌, map, map-append}
use lib.ListN.{length, get_or, take}
use lib.Seq.{take-suc}
use lib.Dec.{ltb}
use borrow.Author.Tests.{ltb-true, ltb-false, not-true}
use Rattle.ledger.specs.Choice.{◌⇒◌∣◌}
use Rattle.ledger.specs.Tally.{one_if, sum_of, first_of}
use Rattle.ledger.proofs.Tallies.{first_holds, first_none, none_first}
use Rattle.ledger.proofs.Lists.{joined_append}
use Rattle.paper.specs.Base.{Slot, Table, slot, closed, lowest_free, stream_total}
use Rattle.paper.specs.RecordsOut.{Record, order, bytes_of, all_bytes}
use Rattle.paper.specs.Refusals.{served_opening}
use Rattle.paper.specs.Openings.{goodbye}
use Rattle.paper.specs.declared.Correlation.{Correlation}
use Rattle.paper.specs.declared.LineOrder.TheVariants as line_order
use Rattle.paper.proofs.RecordsOut.{one_record}
use Rattle.table_image.specs.Layout.{image_of}
use Rattle.table_image.specs.Shape.{Shaped}
use Rattle.call_outcomes.specs.Leaving.{left, leaving}

-- ---- the lowest free stream

abbrev is_free : Slot → Bool
is_free x = not x.is_open

-- n streams are free
module _ (t : Table) (s : Shaped t) (n : ℕ) (e : n ≡ sum_of (λ (x : Slot). one_if (not x.is_open)) t.slots) where
  pub none_free : n ≡ 0 → stream_total ≤ lowest_free t
  unfolding lowest_free
  none_free z = omega (arith, s.sixteen, none_first is_free t.slots (sym e ∙ z))

  pub some-free : (n ≡ 0 → ⊥) → lowest_free t < stream_total
  unfolding lowest_free
  some-free h = go (ltb (first_of is_free t.slots) stream_total) refl
    where
      go : (b : Bool) → ltb (first_of is_free t.slots) stream_total ≡ b → first_of is_free t.slots < stream_total
      go true q = ltb-true (first_of is_free t.slots) stream_total q
      go false q = absurd (h (e ∙ first_none is_free t.slots (omega (arith, s.sixteen, ltb-false (first_of is_free t.slots) stream_total q))))

-- it is not open
pub free-shut : (t : Table) → Shaped t → (i : ℕ) → i ≡ lowest_free t → i < stream_total → (slot t i).is_open ≡ false
unfolding lowest_free
free-shut t s i e h =
    ap (λ (k : ℕ). (slot t k).is_open) e
    ∙ not-true _ (first_holds is_free closed t.slots (omega (arith, s.sixteen)))

-- an opening gives the stream's token, and writes nothing
pub leaves_opening : (img room : List ℕ) (t : Table) (i n : ℕ) (img' : List ℕ) → n ≡ (i + 1) * 16777216 → img' ≡ image_of t
    → left n img' room ≡ leaving img room (served_opening t i)
unfolding leaving ◌⇒◌∣◌
leaves_opening img room t i n img' a b =
    let e : n ≡ 0 + suc i * 16777216 = omega (arith, a) in
    λ j. left (e j) (b j) room

-- ---- goodbyes

-- one more, with the number at the next place
pub goodbyes-next : (i k : ℕ) (w : List ℕ) (c : Correlation) → k < length w → c ≡ record { 0 = get_or w k 0 }
    → all_bytes (map (goodbye i) (take k w)) ++ bytes_of (order i (line_order.Disconnect c 0) []) ≡ all_bytes (map (goodbye i) (take (k + 1) w))
goodbyes-next i k w c h e =
    let z : suc k ≡ k + 1 = omega arith in
    let old : List Record = map (goodbye i) (take k w) in
    ap (λ (q : Correlation). all_bytes old ++ bytes_of (order i (line_order.Disconnect q 0) [])) e
    ∙ ap (λ (b : List ℕ). all_bytes old ++ b) (sym (one_record (goodbye i (get_or w k 0))))
    ∙ sym (joined_append bytes_of old (goodbye i (get_or w k 0) ∷ []))
    ∙ ap all_bytes (sym (map-append (goodbye i) (take k w) (get_or w k 0 ∷ [])))
    ∙ ap (λ (l : List ℕ). all_bytes (map (goodbye i) l)) (sym (take-suc w k 0 h) ∙ ap (λ (m : ℕ). take m w) z)
