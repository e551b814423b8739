-- How long the bytes are from which a record was read: its values all stand within them, and are no larger than their bytes hold.
use Prim.Native.Nat.{ℕ, ◌≤◌, ◌<◌, ◌^◌}
use native.Mathlib.Omega.{arith}
use mathlib.Core.Path.{◌≡◌, refl, subst}
use mathlib.Core.Bool.{true}
use mathlib.Core.List.{List}
use lib.ListN.{length, get_or}
use lib.Dec.{eqb, ltb}
use borrow.Author.Tests.{leb-true, ltb-false, eqb-false}
use Rattle.ledger.proofs.Tallies.{both_of, chosen}
use Rattle.octets.specs.Numbers.{be32_at}
use Rattle.octets.specs.Runs.{Bytes}
use Rattle.paper.specs.RecordsIn.{kind_of, message_size, pair_size, size_of, record_size, is_message, wants_data, has_data, is_pair, pair_as, message_as, frame_as, input_as, input_of}
use Rattle.paper.specs.declared.Kind.{Kind}
use Rattle.paper.specs.declared.Kind.TheVariants as kind
use Rattle.paper.specs.declared.Input.{Input}
use Rattle.paper.specs.declared.Input.TheVariants as input
use Rattle.paper.specs.declared.PpaNumber.{PpaNumber}

-- A record that has a size is whole.
pub whole : (r : List ℕ) → (record_size r ≡ 0 → ⊥) → size_of (kind_of (get_or r 0 0)) ≤ length r
unfolding record_size
whole r =
    let size = size_of (kind_of (get_or r 0 0)) in
    chosen (λ (n : ℕ). (n ≡ 0 → ⊥) → size ≤ length r) (ltb (length r) size) 0 _ (λ e h. absurd (h refl)) (λ e h. ltb-false _ _ e)

-- The least size of a record with these values.
abbrev pub least_size : Input → ℕ
least_size input.Unreadable = 0
least_size input.Malformed = 0
least_size (input.AddPpa p) = size_of kind.AddPpa
least_size input.Open = size_of kind.Open
least_size (input.Close i) = size_of kind.Close
least_size (input.Message i l n) = size_of kind.Message
least_size (input.CallArrives p sap) = size_of kind.CallArrives
least_size (input.PeerAccepted i) = size_of kind.PeerAccepted
least_size (input.PeerGone i reason) = size_of kind.PeerGone
least_size (input.CallWithdrawn i n reason) = size_of kind.CallWithdrawn
least_size (input.PeerReset i reason) = size_of kind.PeerReset
least_size (input.ResetConfirmed i) = size_of kind.ResetConfirmed
least_size (input.Frame f) = size_of kind.Frame

abbrev Least : ℕ → Input → Type 0
Least n q = least_size q ≤ n

size-message : (r : List ℕ) → Least message_size (message_as r)
unfolding message_as pair_as
size-message r =
    chosen (Least message_size) _ _ _ (λ e. omega arith) (λ e. chosen (Least message_size) _ _ _
    (λ e. chosen (Least message_size) _ _ _ (λ e. omega arith) (λ e. chosen (Least message_size) _ _ _ (λ e. omega arith) (λ e. omega arith)))
    (λ e. omega arith))

size_frame : (r : List ℕ) → Least (size_of kind.Frame) (frame_as r)
unfolding frame_as
size_frame r =
    chosen (Least (size_of kind.Frame)) _ _ _ (λ e. omega arith) (λ e. chosen (Least (size_of kind.Frame)) _ _ _ (λ e. omega arith)
    (λ e. chosen (Least (size_of kind.Frame)) _ _ _ (λ e. omega arith) (λ e. chosen (Least (size_of kind.Frame)) _ _ _ (λ e. omega arith) (λ e. omega arith))))

size_as : (k : Kind) (r : List ℕ) → Least (size_of k) (input_as k r)
size_as kind.AddPpa r = omega arith
size_as kind.Open r = omega arith
size_as kind.Close r = omega arith
size_as kind.Message r = size-message r
size_as kind.CallArrives r = omega arith
size_as kind.PeerAccepted r = omega arith
size_as kind.PeerGone r = omega arith
size_as kind.CallWithdrawn r = omega arith
size_as kind.PeerReset r = omega arith
size_as kind.ResetConfirmed r = omega arith
size_as kind.Data r = omega arith
size_as kind.Frame r = size_frame r
size_as kind.Unknown r = omega arith

-- What was read is no longer than the bytes.
pub read-long : (r : List ℕ) → least_size (input_of r) ≤ length r
unfolding input_of
read-long r =
    let k = kind_of (get_or r 0 0) in
    chosen (λ (q : Input). least_size q ≤ length r) (eqb (record_size r) 0) input.Unreadable (input_as k r)
    (λ e. omega arith)
    (λ e. omega (arith, size_as k r, whole r (eqb-false _ _ e)))

pub adds_long : (r : List ℕ) (p : PpaNumber) → input_of r ≡ input.AddPpa p → size_of kind.AddPpa ≤ length r
adds_long r p e = subst (λ (q : Input). least_size q ≤ length r) e (read-long r)

-- A record of bytes that adds a PPA was read whole, so that it has a MAC, and the four bytes of its number hold a number of four
-- bytes.
pub record Added (r : List ℕ) (p : PpaNumber) : Type 0 where
  pub long : size_of kind.AddPpa ≤ length r
  pub small : p.0 < 2 ^ 32

abbrev pub AddsWhole : List ℕ → Input → Type 0
AddsWhole r q = (p : PpaNumber) → q ≡ input.AddPpa p → Added r p

-- no other kind adds one
adds_message : (r : List ℕ) → AddsWhole r (message_as r)
unfolding message_as pair_as
adds_message r =
    chosen (AddsWhole r) _ _ _ (λ _ p e. absurd (let z : ◌≡◌ {A = ℕ} 0 1 = cc in omega arith)) (λ _. chosen (AddsWhole r) _ _ _
    (λ _. chosen (AddsWhole r) _ _ _ (λ _ p e. absurd (let z : ◌≡◌ {A = ℕ} 0 1 = cc in omega arith)) (λ _. chosen (AddsWhole r) _ _ _
    (λ _ p e. absurd (let z : ◌≡◌ {A = ℕ} 0 1 = cc in omega arith)) (λ _ p e. absurd (let z : ◌≡◌ {A = ℕ} 0 1 = cc in omega arith))))
    (λ _ p e. absurd (let z : ◌≡◌ {A = ℕ} 0 1 = cc in omega arith)))

adds_frame : (r : List ℕ) → AddsWhole r (frame_as r)
unfolding frame_as
adds_frame r =
    chosen (AddsWhole r) _ _ _ (λ _ p e. absurd (let z : ◌≡◌ {A = ℕ} 0 1 = cc in omega arith)) (λ _. chosen (AddsWhole r) _ _ _
    (λ _ p e. absurd (let z : ◌≡◌ {A = ℕ} 0 1 = cc in omega arith)) (λ _. chosen (AddsWhole r) _ _ _
    (λ _ p e. absurd (let z : ◌≡◌ {A = ℕ} 0 1 = cc in omega arith)) (λ _. chosen (AddsWhole r) _ _ _
    (λ _ p e. absurd (let z : ◌≡◌ {A = ℕ} 0 1 = cc in omega arith)) (λ _ p e. absurd (let z : ◌≡◌ {A = ℕ} 0 1 = cc in omega arith)))))

adds_as : (r : List ℕ) → Bytes r → (k : Kind) → size_of k ≤ length r → AddsWhole r (input_as k r)
adds_as r b kind.AddPpa l p e = record { long = l; small = let z : be32_at r 1 ≡ p.0 = cc in omega (arith, b 1, b 2, b 3, b 4) }
adds_as r b kind.Open l p e = absurd (let z : ◌≡◌ {A = ℕ} 0 1 = cc in omega arith)
adds_as r b kind.Close l p e = absurd (let z : ◌≡◌ {A = ℕ} 0 1 = cc in omega arith)
adds_as r b kind.Message l p e = adds_message r p e
adds_as r b kind.CallArrives l p e = absurd (let z : ◌≡◌ {A = ℕ} 0 1 = cc in omega arith)
adds_as r b kind.PeerAccepted l p e = absurd (let z : ◌≡◌ {A = ℕ} 0 1 = cc in omega arith)
adds_as r b kind.PeerGone l p e = absurd (let z : ◌≡◌ {A = ℕ} 0 1 = cc in omega arith)
adds_as r b kind.CallWithdrawn l p e = absurd (let z : ◌≡◌ {A = ℕ} 0 1 = cc in omega arith)
adds_as r b kind.PeerReset l p e = absurd (let z : ◌≡◌ {A = ℕ} 0 1 = cc in omega arith)
adds_as r b kind.ResetConfirmed l p e = absurd (let z : ◌≡◌ {A = ℕ} 0 1 = cc in omega arith)
adds_as r b kind.Data l p e = absurd (let z : ◌≡◌ {A = ℕ} 0 1 = cc in omega arith)
adds_as r b kind.Frame l p e = adds_frame r p e
adds_as r b kind.Unknown l p e = absurd (let z : ◌≡◌ {A = ℕ} 0 1 = cc in omega arith)

pub adds_whole : (r : List ℕ) → Bytes r → AddsWhole r (input_of r)
unfolding input_of
adds_whole r b =
    let k : Kind = kind_of (get_or r 0 0) in
    chosen (AddsWhole r) _ _ _ (λ _ p e. absurd (let z : ◌≡◌ {A = ℕ} 0 1 = cc in omega arith))
    (λ h. adds_as r b k (whole r (eqb-false _ _ h)))

-- ---- a record lies within the bytes that it starts: a pair has been seen whole, another has its size

pair-long : (r : List ℕ) → is_pair r ≡ true → pair_size ≤ length r
unfolding is_pair has_data
pair-long r e = data_long (both_of (wants_data r) (has_data r) (both_of (is_message (get_or r 0 0)) _ e).1).1
  where
    data_long : has_data r ≡ true → pair_size ≤ length r
    data_long h = leb-true _ _ (both_of _ _ h).0

pub record_within : (r : List ℕ) → record_size r ≤ length r
unfolding record_size
record_within r =
    chosen (λ (n : ℕ). n ≤ length r) _ _ _ (λ e. omega arith)
    (λ e. chosen (λ (n : ℕ). n ≤ length r) _ _ _ (λ p. pair-long r p) (λ p. ltb-false _ _ e))

-- no record in is longer than a message
size-most : (k : Kind) → size_of k ≤ message_size
size-most kind.AddPpa = omega arith
size-most kind.Open = omega arith
size-most kind.Close = omega arith
size-most kind.Message = omega arith
size-most kind.CallArrives = omega arith
size-most kind.PeerAccepted = omega arith
size-most kind.PeerGone = omega arith
size-most kind.CallWithdrawn = omega arith
size-most kind.PeerReset = omega arith
size-most kind.ResetConfirmed = omega arith
size-most kind.Data = omega arith
size-most kind.Frame = omega arith
size-most kind.Unknown = omega arith

-- but one with its M
pub record_most : (r : List ℕ) → record_size r ≤ pair_size
unfolding record_size
record_most r =
    chosen (λ (n : ℕ). n ≤ pair_size) _ _ _ (λ e. omega arith)
    (λ e. chosen (λ (n : ℕ). n ≤ pair_size) _ _ _ (λ p. omega arith) (λ p. omega (arith, size-most (kind_of (get_or r 0 0)))))
