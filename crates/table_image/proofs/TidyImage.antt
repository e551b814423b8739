-- What a tidy image is, test by test. The tests bound its counts, so the table in it is shaped.
use Prim.Native.Nat.{ℕ, ◌+◌, ◌-◌, ◌*◌, ◌≤◌, ◌<◌}
use native.Mathlib.Omega.{arith}
use mathlib.Core.Path.{◌≡◌, refl, sym, ap, ◌∙◌}
use mathlib.Core.Bool.{Bool, true}
use mathlib.Core.List.{List, []}
use lib.ListN.{length, get_or}
use lib.Dec.{eqb, leb}
use borrow.Author.Tests.{leb-true, eqb-true}
use Rattle.ledger.specs.Choice.{both}
use Rattle.ledger.specs.Tally.{all_of}
use Rattle.ledger.proofs.Tallies.{both_of, all_within}
use Rattle.ledger.proofs.Lists.{listed-length, listed_at, each-listed}
use Rattle.octets.specs.Numbers.{be32_at}
use Rattle.octets.specs.Runs.{part, all_zero, are_bytes}
use Rattle.octets.proofs.Runs.{part_length, of_are_bytes}
use Rattle.paper.specs.Base.{Slot, closed, no_ppa, stream_total, most_ppas, mac_size}
use Rattle.paper.specs.declared.Ppa.{Ppa}
use Rattle.table_image.specs.Layout.{image_size, ppa_base, ppa_from, waiting_from, slot_at, ppa_at, table_of, is_state, tidy_slot, slot_parts}
use Rattle.table_image.specs.Layout.{tidy_ppas, tidy, memory_offset, ppa_count_offset, place_size, places_size, state_offset, count_offset}
use Rattle.table_image.specs.Layout.{numbers_size, number_base, ppa_part, slot_part}
use Rattle.table_image.specs.Shape.{Shaped}
use Rattle.paper.specs.Saps.{most_open}

-- ---- the tests' parts

-- of a slot
pub record TidySlot (c : List ℕ) : Type 0 where
  pub state : is_state (get_or c state_offset 0) ≡ true
  pub eight : get_or c count_offset 0 ≤ most_open
  pub unused : all_zero (part c (number_base (get_or c count_offset 0)) (numbers_size - get_or c count_offset 0 * 4)) ≡ true

-- of an image
pub record Tidy (img : List ℕ) : Type 0 where
  pub size : length img ≡ image_size
  pub bytes : (k : ℕ) → get_or img k 0 < 256
  pub memory : get_or img memory_offset 0 ≤ 1
  pub few : get_or img ppa_count_offset 0 ≤ most_ppas
  pub unused : all_zero (part img (ppa_base (get_or img ppa_count_offset 0)) (places_size - get_or img ppa_count_offset 0 * place_size)) ≡ true
  pub slots : (i : ℕ) → i < stream_total → TidySlot (slot_part img i)

slot_passes : (img : List ℕ) (i : ℕ) → i < stream_total → all_of tidy_slot (slot_parts img) ≡ true → tidy_slot (slot_part img i) ≡ true
slot_passes img i b h =
    let f : ℕ → List ℕ = slot_part img in
    let z : 0 + i ≡ i = omega arith in
    ap tidy_slot (sym (listed_at f 0 stream_total i [] b ∙ ap f z)) ∙ all_within tidy_slot (slot_parts img) i [] h b

slot_parts_lem : (c : List ℕ) → tidy_slot c ≡ true → TidySlot c
unfolding tidy_slot
slot_parts_lem c h =
    let n : ℕ = get_or c count_offset 0 in
    let z : Bool = all_zero (part c (number_base n) (numbers_size - n * 4)) in
    let a = both_of (is_state (get_or c state_offset 0)) (both (leb n most_open) z) h in
    let b = both_of (leb n most_open) z a.1 in
    record { state = a.0; eight = leb-true n most_open b.0; unused = b.1 }

-- an image that passes the test has those parts
pub tidy_parts : (img : List ℕ) → tidy img ≡ true → Tidy img
unfolding tidy
tidy_parts img h =
    let n : ℕ = get_or img ppa_count_offset 0 in
    let z : Bool = all_zero (part img (ppa_base n) (places_size - n * place_size)) in
    let rest : Bool = all_of tidy_slot (slot_parts img) in
    let a = both_of (eqb (length img) image_size) (both (are_bytes img) (both (leb (get_or img memory_offset 0) 1) (both (tidy_ppas img) rest))) h in
    let e = both_of (are_bytes img) (both (leb (get_or img memory_offset 0) 1) (both (tidy_ppas img) rest)) a.1 in
    let b = both_of (leb (get_or img memory_offset 0) 1) (both (tidy_ppas img) rest) e.1 in
    let c = both_of (tidy_ppas img) rest b.1 in
    let d = both_of (leb n most_ppas) z c.0 in
    record {
      size = eqb-true (length img) image_size a.0;
      bytes = of_are_bytes img e.0;
      memory = leb-true (get_or img memory_offset 0) 1 b.0;
      few = leb-true n most_ppas d.0;
      unused = d.1;
      slots = λ i l. slot_parts_lem (slot_part img i) (slot_passes img i l c.1);
    }

-- ---- the table's shape

ppa-mac : (img : List ℕ) (k : ℕ) → ppa_base k + place_size ≤ length img → length (ppa_at img k).mac ≡ mac_size
unfolding ppa_at ppa_from
ppa-mac img k h = part_length (ppa_part img k) 4 mac_size (omega (arith, part_length img (ppa_base k) place_size h))

waiting_few : (img : List ℕ) (i : ℕ) → TidySlot (slot_part img i) → length (slot_at img i).waiting ≤ most_open
unfolding slot_at waiting_from
waiting_few img i s =
    let c : List ℕ = slot_part img i in
    omega (arith, listed-length (λ k. be32_at c (number_base k)) 0 (get_or c count_offset 0), s.eight)

-- the table in a tidy image is shaped
pub shaped-table : (img : List ℕ) → tidy img ≡ true → Shaped (table_of img)
unfolding table_of
shaped-table img h =
    let t : Tidy img = tidy_parts img h in
    let n : ℕ = get_or img ppa_count_offset 0 in
    record {
      sixteen = refl;
      few = omega (arith, listed-length (ppa_at img) 0 n, t.few);
      macs = each-listed (λ (p : Ppa). length p.mac ≡ mac_size) (ppa_at img) 0 n no_ppa (λ k b. ppa-mac img k (omega (arith, t.size, t.few))) refl;
      eight =
          each-listed (λ (x : Slot). length x.waiting ≤ most_open) (slot_at img) 0 stream_total closed (λ i b. waiting_few img i (t.slots i (omega arith))) (omega arith);
    }
