-- What the bytes of an image tell of its table: PPA numbers, open and closed streams; and the clauses of a sound table in groups.
use Prim.Native.Nat.{ℕ, ◌+◌, ◌*◌, ◌≤◌, ◌<◌}
use mathlib.Core.Path.{◌≡◌, refl, sym, ap, ap₂, ◌∙◌}
use mathlib.Core.Bool.{Bool, true, not}
use mathlib.Core.List.{List, [], ◌++◌, append-nil}
use lib.ListN.{length, get_or, take, drop, replicate, length-map}
use lib.Seq.{take-take}
use lib.Dec.{eqb, ltb, leb}
use native.Mathlib.Omega.{arith}
use borrow.Author.Tests.{eq-eqb, le-leb}
use Rattle.ledger.specs.Choice.{both}
use Rattle.ledger.specs.Tally.{one_if, occ, sum_of, all_of}
use Rattle.ledger.proofs.Tallies.{to_both, both_true, both_assoc, both_swap, same_test, all_both, all_counted}
use Rattle.ledger.proofs.Lists.{map_at, listed_at}
use Rattle.ledger.specs.Lists.{joined}
use Rattle.ledger.proofs.Sums.{occ-joined, all_joined}
use Rattle.octets.specs.Numbers.{be32_at}
use Rattle.octets.specs.Runs.{part, all_zero}
use Rattle.octets.proofs.Numbers.{be32_at-be32, be32_at-part}
use Rattle.octets.proofs.Runs.{zero-replicate, to_are_bytes}
use Rattle.paper.specs.Base.{number_of, Slot, closed, Table, slot, ppa_numbers, no_ppa, stream_total, most_ppas}
use Rattle.paper.specs.Sound.{every, holds_nothing, open_tests, sound_slot, is_single, is_alone, remembers_openings, sound}
use Rattle.paper.specs.Correlations.{occurrences}
use Rattle.paper.specs.declared.Stream.{Stream}
use Rattle.paper.specs.declared.Ppa.{Ppa}
use Rattle.table_image.specs.Layout.{ppa_base, slot_base, slot_parts, ppa_from, ppa_at, table_of, stream_bytes, waiting_bytes, slot_bytes}
use Rattle.table_image.specs.Layout.{tidy, tidy_ppas, image_size, memory_offset, header_bytes, image_of, place_size, count_offset, numbers_offset, slot_size, slots_offset, slot_part}
use Rattle.table_image.specs.Lent.{Lent}
use Rattle.octets.proofs.Pieces.{joined_at}
use Rattle.table_image.proofs.Lending.{lent-tidy}
use Rattle.paper.proofs.StateNumbers.{state-told}
use Rattle.table_image.proofs.Shapes.{slots-wide, header_length}
use Rattle.table_lookup.proofs.Laws.{ppa-place}
use Rattle.table_soundness.specs.Groups.{are_slots_tidy, is_attached_right, is_bound_right, is_count_right, open_numbers, is_single_in, are_single, is_stream_sound}
use Rattle.paper.proofs.SoundTests.{holds_nothing_lem}

-- ---- the bytes of a slot

pub slot-of_parts : (img : List ℕ) (i : ℕ) → i < stream_total → get_or (slot_parts img) i [] ≡ slot_part img i
slot-of_parts img i h =
    let z : 0 + i ≡ i = omega arith in
    listed_at (slot_part img) 0 stream_total i [] h ∙ ap (slot_part img) z

-- ---- what is lent are bytes, and tidy by the other tests

pub tidy_bytes : (img : List ℕ) → ((k : ℕ) → get_or img k 0 < 256)
    → tidy img ≡ both (eqb (length img) image_size) (both (leb (get_or img memory_offset 0) 1) (both (tidy_ppas img) (are_slots_tidy img)))
unfolding tidy are_slots_tidy
tidy_bytes img h = rw (to_are_bytes img h)

-- ---- PPA numbers

pub ppas_many : (t : Table) → length (ppa_numbers t) ≡ length t.ppas
ppas_many t = length-map t.ppas (λ (p : Ppa). p.number.0)

pub ppa_number_at : (img : List ℕ) (k : ℕ) → k < length (table_of img).ppas → be32_at img (ppa_base k) ≡ get_or (ppa_numbers (table_of img)) k 0
unfolding ppa_at ppa_from
ppa_number_at img k h =
    let c : List ℕ = drop (ppa_base k) img in
    let number : Ppa → ℕ = λ p. p.number.0 in
    sym (be32_at-part img (ppa_base k))
    ∙ ap (λ (r : List ℕ). be32_at r 0) (sym (take-take 4 place_size c (omega arith)))
    ∙ be32_at-part (take place_size c) 0
    ∙ ap number (sym (ppa-place img k h))
    ∙ sym (map_at number no_ppa (table_of img).ppas k)

-- ---- open streams

-- the tests in their groups
pub grouped : (ppas : List ℕ) (x : Slot) → every (open_tests ppas x)
    ≡ both (is_attached_right ppas x.stream) (both (is_bound_right x.stream) (is_count_right x.stream (length x.waiting)))
unfolding is_attached_right is_bound_right is_count_right
grouped ppas x = simp (both_assoc, both_true)

-- ---- closed streams

-- its bytes up to the count of open numbers are zero, and no other's
zeros : (x : Slot) → all_zero (take numbers_offset (slot_bytes x)) ≡ holds_nothing x
unfolding stream_bytes waiting_bytes holds_nothing
zeros x = same_test (all_zero (take numbers_offset (slot_bytes x))) (holds_nothing x) none (λ e. ap (λ (y : Slot). all_zero (take numbers_offset (slot_bytes y))) (holds_nothing_lem x e))
  where
    none : all_zero (take numbers_offset (slot_bytes x)) ≡ true → holds_nothing x ≡ true
    none e =
        let s : Stream = x.stream in
        let byte : (k : ℕ) → get_or (take numbers_offset (slot_bytes x)) k 0 ≡ get_or (replicate numbers_offset 0) k 0 =
        λ k. ap (λ (r : List ℕ). get_or r k 0) (zero-replicate (take numbers_offset (slot_bytes x)) e) in
        to_both _ _ (eq-eqb (number_of s.state) 0 (byte 0))
        (to_both _ _ (eq-eqb s.ppa.0 0 (sym (be32_at-be32 s.ppa.0 []) ∙ (λ d. byte 4 d * 16777216 + byte 5 d * 65536 + byte 6 d * 256 + byte 7 d)))
        (to_both _ _
        (to_both _ _ (eq-eqb s.mode 0 (byte 1))
        (to_both _ _ (eq-eqb s.sap 0 (omega (arith, byte 2, byte 3))) (to_both _ _ (eq-eqb s.granted 0 (byte 8)) refl)))
        (eq-eqb (length x.waiting) 0 (byte count_offset))))

pub closed_bytes : (img : List ℕ) (i at n : ℕ) → Lent img → i < stream_total → at ≡ slot_base i → n ≡ numbers_offset → all_zero (part img at n) ≡ holds_nothing (slot (table_of img) i)
unfolding image_of
closed_bytes img i at n l h e f =
    let t : Table = table_of img in
    ap₂ (λ (a k : ℕ). all_zero (part img a k)) e f
    ∙ ap all_zero
    (sym (take-take numbers_offset slot_size (drop (slot_base i) img) (omega arith))
    ∙ ap (λ (r : List ℕ). take numbers_offset (slot_part r i)) (sym l.same)
    ∙ ap (λ (r : List ℕ). take numbers_offset (slot_part (header_bytes t ++ r) i)) (sym (append-nil (joined slot_bytes t.slots)))
    ∙ ap (take numbers_offset) (joined_at slot_bytes closed slot_size (header_bytes t) slots_offset t.slots i (header_length t l.shaped) (slots-wide t l.shaped) (omega (
      arith,
      l.shaped.sixteen,
    )) []))
    ∙ zeros (slot t i)

-- ---- all are closed exactly if as many are closed as there are

pub all_closed : (t : Table) → length t.slots ≡ stream_total → eqb (sum_of (λ (x : Slot). one_if (not x.is_open)) t.slots) stream_total ≡ all_of (λ (x : Slot). not x.is_open) t.slots
all_closed t h =
    let p : Slot → Bool = λ x. not x.is_open in
    ap (eqb (sum_of (λ (x : Slot). one_if (p x)) t.slots)) (sym h) ∙ all_counted p t.slots

-- ---- the clauses, those of the streams in one

-- an open number is single in the table exactly if it is among all that are open
singles : (t : Table) → all_of (λ (x : Slot). all_of (is_single t) x.waiting) t.slots ≡ are_single (open_numbers t)
unfolding is_single occurrences is_single_in
singles t =
    let numbers : Slot → List ℕ = λ x. x.waiting in
    let p : (n : ℕ) → is_single t n ≡ is_single_in (open_numbers t) n =
    λ n. ap (λ (m : ℕ). both (ltb 0 n) (leb m 1)) (occ-joined numbers n t.slots) in
    all_joined numbers (is_single t) t.slots ∙ ap (λ (q : ℕ → Bool). all_of q (open_numbers t)) (λ d n. p n d)

pub sound_groups : (t : Table) → length t.ppas ≤ most_ppas
    → sound t
    ≡ both (all_of (λ (p : ℕ). leb (occ p (ppa_numbers t)) 1) (ppa_numbers t))
    (both (all_of (is_stream_sound t) t.slots) (both (are_single (open_numbers t)) (remembers_openings t)))
unfolding sound is_stream_sound
sound_groups t h =
    let own : Slot → Bool = sound_slot (ppa_numbers t) in
    let single : Slot → Bool = λ x. all_of (is_single t) x.waiting in
    let alone : Slot → Bool = λ x. is_alone t x.stream in
    let owns : Bool = all_of own t.slots in
    let alones : Bool = all_of alone t.slots in
    rw (le-leb (length t.ppas) most_ppas h, both_true (remembers_openings t), ← singles t)
    (rw (all_both own alone t.slots, both_assoc owns alones, both_swap alones (all_of single t.slots)))

-- ---- laws of the layers below, under names that an attribute can cite

pub ruleset tidy_is_lent = (lent-tidy)

pub ruleset states_told = (state-told)
