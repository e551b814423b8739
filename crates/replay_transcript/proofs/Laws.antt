-- Laws of what replay prints: the fields of a line, lines one behind the other, and what a call's text is read from.
use Prim.Native.Nat.{ℕ, zero, suc, ◌+◌, ◌-◌, ◌%◌, ◌≤◌, ◌<◌}
use native.Mathlib.Omega.{arith}
use mathlib.Core.Path.{◌≡◌, refl}
use mathlib.Core.Bool.{true}
use mathlib.Core.List.{List, [], ◌∷◌, ◌++◌}
use lib.ListN.{length, get_or, take, drop}
use Rattle.ledger.specs.Choice.{◌⇒◌∣◌}
use Rattle.ledger.proofs.Tallies.{chosen}
use Rattle.octets.specs.Runs.{Bytes}
use Rattle.octets.proofs.Runs.{part-most}
use Rattle.paper.specs.RecordsIn.{head_size, message_size, is_message}
use Rattle.paper.specs.RecordsOut.{start_size, size_out}
use Rattle.paper.proofs.Sizes.{size-within}
use Rattle.replay_transcript.specs.Transcript.{shown_of, record_line, record_lines, call_text, shown_size, pair_size, record_line_size}

-- ---- the fields of a line

pub message_out : (k : ℕ) → is_message k ≡ true → size_out k ≡ message_size
unfolding size_out ◌⇒◌∣◌
message_out k e = rw e

-- a pair, the fields and the line's end: L is a byte, and of other kinds the fields are what stands behind kind and stream
pub line-most : (r : List ℕ) → Bytes r → pair_size + shown_size (shown_of r) + 1 ≤ record_line_size r
unfolding shown_of
line-most r b =
    let k : ℕ = get_or r 0 0 in
    chosen (λ (l : List ℕ). pair_size + shown_size l + 1 ≤ record_line_size r) _ _ _
    (λ e. omega (arith, part-most r head_size (get_or r 2 0), b 2, message_out k e))
    (λ e. omega (arith, part-most r start_size (size_out k - start_size), size-within k))

-- ---- one line behind the other

-- where no records are left there are no lines
pub lines_end : (k n : ℕ) (rs : List ℕ) → length rs ≤ 0 → record_lines k n rs ≡ []
unfolding record_lines
lines_end zero n rs h = refl
lines_end (suc k) n [] h = refl
lines_end (suc k) n (x ∷ rs) h = absurd (omega arith)

-- else the line of the first record, and those of the rest
pub lines_next : (k n : ℕ) (rs : List ℕ) → 0 < k → 0 < length rs
    → record_lines k n rs ≡ record_line n rs ++ record_lines (k - 1) n (drop (size_out (get_or rs 0 0)) rs)
unfolding record_lines
lines_next zero n rs h d = absurd (omega arith)
lines_next (suc k) n [] h d = absurd (omega arith)
lines_next (suc k) n (x ∷ rs) h d =
    let e : suc k - 1 ≡ k = omega arith in
    rw e

-- ---- a call

-- its text is read from its number and the bytes that it wrote: what else stands in the room is not printed
pub text_of-written : (n answer : ℕ) (room other : List ℕ) → take (answer % 65536) room ≡ take (answer % 65536) other → call_text n answer room ≡ call_text n answer other
unfolding call_text
text_of-written n answer room other e = rw e
