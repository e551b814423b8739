-- A message of code 0x07 was read with its M: without one it would have been malformed. Its fields are those of the record.
use Rattle.std.proofs.Common.{Ok, Result}
use Prim.Native.Nat.{ℕ, ◌+◌, ◌≤◌, ◌<◌}
use native.Mathlib.Omega.{arith}
use mathlib.Core.Path.{◌≡◌, refl, sym, ap, ◌∙◌}
use mathlib.Core.Bool.{true, false≢true}
use mathlib.Core.List.{List, ◌∷◌}
use lib.ListN.{length, get_or, take}
use lib.Seq.{drop-cons}
use lib.Dec.{eqb, leb}
use borrow.Author.Tests.{leb-true, le-leb, eqb-true, ltb-false, not-false}
use Rattle.ledger.specs.Choice.{both, ◌⇒◌∣◌}
use Rattle.ledger.proofs.Tallies.{both_of, chosen}
use Rattle.octets.specs.Numbers.{be32_at}
use Rattle.octets.specs.Blocks.{block_size}
use Rattle.octets.specs.Runs.{part}
use Rattle.octets.proofs.Runs.{part-most, part_byte}
use Rattle.paper.specs.RecordsIn.{kind_of, head_size, message_size, data_size, pair_size, stream_in, size_in, wants_data, has_data, message_in, data_in, pair_as, message_as, frame_as, input_as, input_of}
use Rattle.paper.specs.StateRows.{unitdata_req}
use Rattle.paper.specs.Messages.{code_in, primitive_of, sized, read_as, asked_by}
use Rattle.paper.specs.declared.Kind.{Kind}
use Rattle.paper.specs.declared.Kind.TheVariants as kind
use Rattle.paper.specs.declared.Input.{Input}
use Rattle.paper.specs.declared.Input.TheVariants as input
use Rattle.paper.specs.declared.Primitive.{Primitive}
use Rattle.paper.specs.declared.Primitive.TheVariants as primitive
use Rattle.paper.specs.declared.Request.TheVariants as request
use Rattle.paper.specs.declared.UnitdataRequest.{UnitdataRequest}
use Rattle.paper.specs.declared.Request.{Request}
use Rattle.paper.specs.declared.Rule.{Rule}

-- a field of the message is that of the record, so its code is
field_in : (r : List ℕ) (l at : ℕ) → at + 4 ≤ l → be32_at (message_in r l) at ≡ be32_at r (head_size + at)
field_in r l at h = rw (part_byte r head_size l at (head_size + at) (omega arith) refl, byte 1 (omega arith), byte 2 (omega arith), byte 3 (omega arith))
  where
    byte : (k : ℕ) → k < 4 → get_or (message_in r l) (at + k) 0 ≡ get_or r (head_size + at + k) 0
    byte k b = part_byte r head_size l (at + k) (head_size + at + k) (omega arith) (omega arith)

pub code_in_lem : (r : List ℕ) (l : ℕ) → 4 ≤ l → code_in (message_in r l) ≡ be32_at r head_size
code_in_lem r l h = field_in r l 0 h

-- a message of L 4 to 96 and of this code
pub record Datagram (r : List ℕ) (l : ℕ) : Type 0 where
  pub coded : 4 ≤ l
  pub whole : l ≤ block_size
  pub asks : code_in (message_in r l) ≡ unitdata_req

abbrev HasData : List ℕ → Input → Type 0
HasData r q = (i l n : ℕ) → q ≡ input.Message i l n → Datagram r l → has_data r ≡ true

message_paired : (r : List ℕ) → HasData r (message_as r)
unfolding message_as pair_as wants_data
message_paired r =
    chosen (HasData r) _ _ _ (λ _ i l n e. absurd (let z : ◌≡◌ {A = ℕ} 0 1 = cc in omega arith)) (λ _. chosen (HasData r) _ _ _
    (λ _. chosen (HasData r) _ _ _ (λ _ i l n e. absurd (let z : ◌≡◌ {A = ℕ} 0 1 = cc in omega arith)) (λ h. chosen (HasData r) _ _ _
    (λ _ i l n e. absurd (let z : ◌≡◌ {A = ℕ} 0 1 = cc in omega arith)) (λ _ i l n e d. not-false _ h)))
    (λ w i l n e d.
    let z : size_in r ≡ l = cc in
    absurd (false≢true (sym w ∙ rw (z, le-leb _ _ d.coded, le-leb _ _ d.whole, ← code_in_lem r l d.coded, d.asks) refl))))

frame_paired : (r : List ℕ) → HasData r (frame_as r)
unfolding frame_as
frame_paired r =
    chosen (HasData r) _ _ _ (λ _ i l n e. absurd (let z : ◌≡◌ {A = ℕ} 0 1 = cc in omega arith)) (λ _. chosen (HasData r) _ _ _
    (λ _ i l n e. absurd (let z : ◌≡◌ {A = ℕ} 0 1 = cc in omega arith)) (λ _. chosen (HasData r) _ _ _
    (λ _ i l n e. absurd (let z : ◌≡◌ {A = ℕ} 0 1 = cc in omega arith)) (λ _. chosen (HasData r) _ _ _
    (λ _ i l n e. absurd (let z : ◌≡◌ {A = ℕ} 0 1 = cc in omega arith)) (λ _ i l n e. absurd (let z : ◌≡◌ {A = ℕ} 0 1 = cc in omega arith)))))

paired_as : (k : Kind) (r : List ℕ) → HasData r (input_as k r)
paired_as kind.AddPpa r = λ i l n e. absurd (let z : ◌≡◌ {A = ℕ} 0 1 = cc in omega arith)
paired_as kind.Open r = λ i l n e. absurd (let z : ◌≡◌ {A = ℕ} 0 1 = cc in omega arith)
paired_as kind.Close r = λ i l n e. absurd (let z : ◌≡◌ {A = ℕ} 0 1 = cc in omega arith)
paired_as kind.Message r = message_paired r
paired_as kind.CallArrives r = λ i l n e. absurd (let z : ◌≡◌ {A = ℕ} 0 1 = cc in omega arith)
paired_as kind.PeerAccepted r = λ i l n e. absurd (let z : ◌≡◌ {A = ℕ} 0 1 = cc in omega arith)
paired_as kind.PeerGone r = λ i l n e. absurd (let z : ◌≡◌ {A = ℕ} 0 1 = cc in omega arith)
paired_as kind.CallWithdrawn r = λ i l n e. absurd (let z : ◌≡◌ {A = ℕ} 0 1 = cc in omega arith)
paired_as kind.PeerReset r = λ i l n e. absurd (let z : ◌≡◌ {A = ℕ} 0 1 = cc in omega arith)
paired_as kind.ResetConfirmed r = λ i l n e. absurd (let z : ◌≡◌ {A = ℕ} 0 1 = cc in omega arith)
paired_as kind.Data r = λ i l n e. absurd (let z : ◌≡◌ {A = ℕ} 0 1 = cc in omega arith)
paired_as kind.Frame r = frame_paired r
paired_as kind.Unknown r = λ i l n e. absurd (let z : ◌≡◌ {A = ℕ} 0 1 = cc in omega arith)

-- so its M is there
pub paired : (r : List ℕ) {i l n : ℕ} → input_of r ≡ input.Message i l n → Datagram r l → has_data r ≡ true
unfolding input_of
paired r {i} {l} {n} e d =
    chosen (HasData r) _ _ _ (λ _ i l n e. absurd (let z : ◌≡◌ {A = ℕ} 0 1 = cc in omega arith)) (λ _. paired_as (kind_of (get_or r 0 0)) r) i l n e d

-- whole
pub paired_long : (r : List ℕ) {i l n : ℕ} → input_of r ≡ input.Message i l n → Datagram r l → pair_size ≤ length r
unfolding has_data
paired_long r e d = leb-true _ _ (both_of _ _ (paired r e d)).0

-- It is an M of the message's stream, and so, with that stream, the M as it was lent.
pub data_lent : (r : List ℕ) → has_data r ≡ true → part r message_size data_size ≡ 77 ∷ stream_in r ∷ data_in r
unfolding has_data
data_lent r h =
    let a : (leb pair_size (length r) ≡ true) × (both (eqb (get_or r message_size 0) 77) (eqb (get_or r (message_size + 1) 0) (stream_in r)) ≡ true) = both_of _ _ h in
    let b : (eqb (get_or r message_size 0) 77 ≡ true) × (eqb (get_or r (message_size + 1) 0) (stream_in r) ≡ true) = both_of _ _ a.1 in
    let w : pair_size ≤ length r = leb-true _ _ a.0 in
    ap (take data_size) (drop-cons r message_size 0 (omega arith) ∙ ap (λ (l : List ℕ). get_or r message_size 0 ∷ l) (drop-cons r (message_size + 1) 0 (omega arith)))
    ∙ rw (eqb-true (get_or r message_size 0) 77 b.0, eqb-true (get_or r (message_size + 1) 0) (stream_in r) b.1)

-- A datagram of full size was read with the offset that stands in the record.
offset_read : (r : List ℕ) (l : ℕ) (u : UnitdataRequest) → read_as primitive.Unitdata (message_in r l) ≡ Ok (request.Unitdata u) → be32_at r (head_size + 8) ≡ u.offset
unfolding sized
offset_read r l u = chosen (λ (a : Result Request Rule). a ≡ Ok (request.Unitdata u) → be32_at r (head_size + 8) ≡ u.offset) _ _ _
    (λ _ h. absurd (let z : ◌≡◌ {A = ℕ} 0 1 = cc in omega arith))
    (λ b h. let z : be32_at (message_in r l) 8 ≡ u.offset = cc in sym (field_in r l 8 (omega (arith, ltb-false (length (message_in r l)) 20 b, part-most r head_size l))) ∙ z)

pub datagram_offset : (r : List ℕ) (l : ℕ) {u : UnitdataRequest} → code_in (message_in r l) ≡ unitdata_req → asked_by (message_in r l) ≡ Ok (request.Unitdata u)
    → be32_at r (head_size + 8) ≡ u.offset
unfolding asked_by primitive_of ◌⇒◌∣◌
datagram_offset r l {u} c e = offset_read r l u (sym (ap (λ (p : Primitive). read_as p (message_in r l)) (ap primitive_of c)) ∙ e)
