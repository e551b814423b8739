-- Whom a frame is shown to, and in how many bytes: the streams are looked at one by one, in their order, and each is shown it once at most,
-- by a UNITDATA_IND and an M of their sizes.
use Prim.Native.Nat.{ℕ, zero, suc, ◌+◌, ◌*◌, ◌≤◌, ◌<◌}
use native.Mathlib.Omega.{arith}
use mathlib.Core.Path.{◌≡◌, refl, sym, ap, ◌∙◌}
use mathlib.Core.Logic.{◌≢◌}
use mathlib.Core.Bool.{Bool, true, false}
use mathlib.Core.List.{List, [], ◌∷◌, ◌++◌, append-nil}
use lib.ListN.{length, length-append, take}
use lib.Dec.{ltb}
use borrow.Author.Tests.{eq-eqb, ne_eqb, lt-ltb, le-ltb}
use Rattle.ledger.specs.Choice.{pick, both, ◌⇒◌∣◌}
use Rattle.ledger.specs.Tally.{one_if, occ, all_of, ascending}
use Rattle.ledger.proofs.Tallies.{by_same, by_order, picked, chosen, ascending-more}
use Rattle.ledger.proofs.Sums.{occ_append, occ_all}
use Rattle.octets.specs.Runs.{same_bytes}
use Rattle.octets.specs.Blocks.{flat}
use Rattle.octets.proofs.Runs.{part-most, part_length}
use Rattle.paper.specs.Base.{mac_size, most_address, stream_total, length_of, Table, slot, mac_of}
use Rattle.paper.specs.RecordsIn.{pair_size, body_size, size_of, frame_called_in, frame_calling_in, frame_data_in}
use Rattle.paper.specs.RecordsOut.{bytes_of, unitdata, datum, all_bytes}
use Rattle.paper.specs.Datagrams.{is_shown, shown_below, shown_to, indications}
use Rattle.paper.specs.Replies.{unitdata_fields}
use Rattle.paper.specs.declared.Frame.{Frame}
use Rattle.paper.specs.declared.Kind.TheVariants as kind
use Rattle.paper.specs.declared.StateRow.{StateRow}
use Rattle.paper.proofs.Sizes.{unitdata-size}
use Rattle.paper.proofs.Tails.{form_most}

-- ---- the streams

-- the tests by which it is shown to stream i: the called MAC is the PPA's, and the stream one of the table's that it comes to
abbrev pub shown_by : List StateRow → Table → List ℕ → Frame → ℕ → Bool
shown_by rows t r f i = both (same_bytes (take mac_size (frame_called_in r f.form)) (mac_of t f.ppa)) (both (ltb i stream_total) (is_shown rows f (slot t i)))

module _ (rows : List StateRow) (t : Table) (f : Frame) where
  -- of the first n streams each that it is to be shown to is there once, and no other
  occ_below : (n i : ℕ) → occ i (shown_below rows t f n) ≡ one_if (both (ltb i n) (is_shown rows f (slot t i)))
  occ_below zero i = rw (le-ltb i 0 (omega arith))
  occ_below (suc n) i = occ_append i (shown_below rows t f n) _ ∙ by_same i n (λ e. same e (occ_below n n)) (λ d. other d (occ_below n i))
    where
      Counted : ℕ → Type 0
      Counted j = occ j (shown_below rows t f n) ≡ one_if (both (ltb j n) (is_shown rows f (slot t j)))

      Next : Type 0
      Next = occ i (shown_below rows t f n) + occ i (pick (is_shown rows f (slot t n)) (n ∷ []) []) ≡ one_if (both (ltb i (suc n)) (is_shown rows f (slot t i)))

      own : (b : Bool) → occ n (pick b (n ∷ []) []) ≡ one_if b
      own true = rw (eq-eqb n n refl)
      own false = refl

      same : i ≡ n → Counted n → Next
      same e h = rw (e, h, le-ltb n n (omega arith), lt-ltb n (suc n) (omega arith)) (omega (arith, own (is_shown rows f (slot t n))))

      none : (b : Bool) → i ≢ n → occ i (pick b (n ∷ []) []) ≡ 0
      none true d = rw (ne_eqb i n d)
      none false d = refl

      before : i ≢ n → ltb i n ≡ ltb i (suc n)
      before d = by_order i n (λ l. lt-ltb i n l ∙ sym (lt-ltb i (suc n) (omega arith))) (λ l. le-ltb i n l ∙ sym (le-ltb i (suc n) (omega (arith, d))))

      other : i ≢ n → Counted i → Next
      other d h = rw (none (is_shown rows f (slot t n)) d, h, before d) (omega arith)

  below : (n : ℕ) → all_of (λ (i : ℕ). ltb i n) (shown_below rows t f n) ≡ true
  below n = occ_all (λ (i : ℕ). ltb i n) (shown_below rows t f n) (λ i h. go (ltb i n) (is_shown rows f (slot t i)) (omega (arith, h, occ_below n i)))
    where
      go : (a b : Bool) → 0 < one_if (both a b) → a ≡ true
      go true b h = refl
      go false b h = absurd (omega arith)

  ascending_below : (n : ℕ) → ascending (shown_below rows t f n) ≡ true
  ascending_below zero = refl
  ascending_below (suc n) =
      picked (λ (l : List ℕ). ascending (shown_below rows t f n ++ l) ≡ true) (is_shown rows f (slot t n)) (n ∷ []) []
      (λ e. ascending-more (shown_below rows t f n) n (ascending_below n) (below n))
      (λ e. ap ascending (append-nil (shown_below rows t f n)) ∙ ascending_below n)

  few_below : (n : ℕ) → length (shown_below rows t f n) ≤ n
  few_below zero = omega arith
  few_below (suc n) =
      picked (λ (l : List ℕ). length (shown_below rows t f n ++ l) ≤ suc n) (is_shown rows f (slot t n)) (n ∷ []) []
      (λ e. omega (arith, length-append (shown_below rows t f n) (n ∷ []), few_below n))
      (λ e. omega (arith, length-append (shown_below rows t f n) [], few_below n))

  module _ (r : List ℕ) where
    pub shown_count : (i : ℕ) → occ i (shown_to rows t r f) ≡ one_if (shown_by rows t r f i)
    unfolding shown_to
    shown_count i = go (same_bytes (take mac_size (frame_called_in r f.form)) (mac_of t f.ppa))
      where
        go : (b : Bool) → occ i (b ⇒ shown_below rows t f stream_total ∣ []) ≡ one_if (both b (both (ltb i stream_total) (is_shown rows f (slot t i))))
        go true = unfold ◌⇒◌∣◌ in occ_below stream_total i
        go false = unfold ◌⇒◌∣◌ in refl

    pub shown_ascending : ascending (shown_to rows t r f) ≡ true
    unfolding shown_to
    shown_ascending = chosen (λ (l : List ℕ). ascending l ≡ true) _ _ _ (λ e. ascending_below stream_total) (λ e. refl)

    pub shown_few : length (shown_to rows t r f) ≤ stream_total
    unfolding shown_to
    shown_few = chosen (λ (l : List ℕ). length l ≤ stream_total) _ _ _ (λ e. few_below stream_total) (λ e. omega arith)

-- ---- the bytes

module _ (r : List ℕ) (f : Frame) where
  pub addresses_most : length (frame_called_in r f.form ++ frame_calling_in r f.form) ≤ most_address + most_address
  addresses_most =
      omega (arith, length-append (frame_called_in r f.form) (frame_calling_in r f.form), part-most r 6 (length_of f.form), part-most r 14 (length_of f.form), form_most f.form)

  module _ (whole : size_of kind.Frame ≤ length r) where
    pub frame_data : length (frame_data_in r) ≡ body_size
    frame_data = part_length r 22 body_size (omega (arith, whole))

    -- L of an indication counts its fields and both addresses
    pub indication-long : length (flat (unitdata_fields f.form) ++ frame_called_in r f.form ++ frame_calling_in r f.form) ≡ 24 + length_of f.form + length_of f.form
    indication-long =
        let n : ℕ = length_of f.form in
        omega (
          arith,
          length-append (frame_called_in r f.form) (frame_calling_in r f.form),
          part_length r 6 n (omega (arith, whole, form_most f.form)),
          part_length r 14 n (omega (arith, whole, form_most f.form)),
        )

    pub indications-long : (streams : List ℕ) → length (all_bytes (indications r f streams)) ≡ length streams * pair_size
    indications-long [] = refl
    indications-long (i ∷ streams) =
        let u : List ℕ = bytes_of (unitdata i f.form (frame_called_in r f.form ++ frame_calling_in r f.form)) in
        omega (
          arith,
          length-append u (bytes_of (datum i (frame_data_in r)) ++ all_bytes (indications r f streams)),
          length-append (frame_data_in r) (all_bytes (indications r f streams)),
          unitdata-size i f.form (frame_called_in r f.form ++ frame_calling_in r f.form) (omega (arith, addresses_most)),
          frame_data,
          indications-long streams,
        )
