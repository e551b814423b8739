-- The states and their numbers: each state has its own, and what a list of states says of one is computed for the eight.
use Prim.Native.Nat.{ℕ, ◌<◌, ◌≤◌, zero, suc, ◌+◌}
use native.Mathlib.Omega.{arith}
use mathlib.Core.Path.{◌≡◌, refl, sym, ◌∙◌, ap}
use mathlib.Core.Bool.{true, false, not, Bool}
use mathlib.Core.List.{[], ◌∷◌, map}
use lib.Dec.{eqb, leb, ltb, eqb-suc-zero}
use borrow.Author.Tests.{not-true, eqb-true, ne_eqb}
use Rattle.ledger.specs.Choice.{◌⇒◌∣◌, pick, either}
use Rattle.ledger.specs.Tally.{has, one_if, occ}
use Rattle.ledger.proofs.Sums.{among}
use Rattle.ledger.proofs.Tallies.{chosen}
use Rattle.paper.specs.Base.{number_of, header_number, every_state, bound_states, connection_states, state_of, no_stream, attached_in, in_state, settled, calling_states, joined_states}
use Rattle.paper.specs.declared.State.{State}
use Rattle.paper.specs.declared.State.TheVariants.{Unattached, Unbound, Idle, OutconPending, InconPending, DataXfer, UserResetPending, ProvResetPending}
use Rattle.paper.specs.declared.Stream.{Stream}

-- ---- the numbers

-- what holds of the eight numbers holds of a state's
each_number : (P : ℕ → Type 0) → P 0 → P 3 → P 6 → P 8 → P 9 → P 11 → P 12 → P 13 → (q : State) → P (number_of q)
each_number P a b d e f g h i Unattached = a
each_number P a b d e f g h i Unbound = b
each_number P a b d e f g h i Idle = d
each_number P a b d e f g h i OutconPending = e
each_number P a b d e f g h i InconPending = f
each_number P a b d e f g h i DataXfer = g
each_number P a b d e f g h i UserResetPending = h
each_number P a b d e f g h i ProvResetPending = i

pub in_every : (q : State) → has (number_of q) every_state ≡ true
in_every = each_number (λ n. has n every_state ≡ true) refl refl refl refl refl refl refl refl

-- a state's number is a byte
pub state_byte : (q : State) → number_of q < 256
state_byte = each_number (λ n. n < 256) (omega arith) (omega arith) (omega arith) (omega arith) (omega arith) (omega arith) (omega arith) (omega arith)

-- a number tells its state again
pub state_back : (q : State) → state_of (number_of q) ≡ q
unfolding state_of ◌⇒◌∣◌
state_back Unattached = refl
state_back Unbound = refl
state_back Idle = refl
state_back OutconPending = refl
state_back InconPending = refl
state_back DataXfer = refl
state_back UserResetPending = refl
state_back ProvResetPending = refl

-- the state that a number tells has that number exactly if the paper has such a state
pub state-told : (n : ℕ) → eqb (number_of (state_of n)) n ≡ has n every_state
unfolding state_of
state-told n =
    chosen P (eqb n 3) Unbound _ (known 3 Unbound refl) λ a. chosen P (eqb n 6) Idle _ (known 6 Idle refl) λ b.
    chosen P (eqb n 8) OutconPending _ (known 8 OutconPending refl) λ c. chosen P (eqb n 9) InconPending _ (known 9 InconPending refl) λ d.
    chosen P (eqb n 11) DataXfer _ (known 11 DataXfer refl) λ e. chosen P (eqb n 12) UserResetPending _ (known 12 UserResetPending refl) λ f.
    chosen P (eqb n 13) ProvResetPending _ (known 13 ProvResetPending refl) λ g.
    rw (a, b, c, d, e, f, g) (last n)
  where
    P : State → Type 0
    P q = eqb (number_of q) n ≡ ltb 0 (occ n every_state)

    known : (k : ℕ) (q : State) → eqb (number_of q) k ≡ ltb 0 (occ k every_state) → eqb n k ≡ true → P q
    known k q r e = let z : n ≡ k = eqb-true n k e in rw z r

    last : (n : ℕ) → eqb 0 n ≡ ltb 0 (one_if (eqb n 0) + 0)
    last zero = refl
    last (suc n) = rw (ne_eqb 0 (suc n) (λ e. omega arith), eqb-suc-zero n)

-- 0 is the number of one state alone
pub in_zero : (q : State) → number_of q ≡ 0 → q ≡ Unattached
unfolding state_of ◌⇒◌∣◌
in_zero q e = sym (state_back q) ∙ ap state_of e

-- ---- the public header's numbers

-- document 02's, read a second time in the manual's order
pub below_seven : map header_number (0 ∷ 1 ∷ 2 ∷ 3 ∷ 4 ∷ 5 ∷ 6 ∷ []) ≡ 4 ∷ 5 ∷ 6 ∷ 0 ∷ 1 ∷ 2 ∷ 3 ∷ []
unfolding header_number ◌⇒◌∣◌
below_seven = refl

-- from 7 on both agree
pub from_seven : (n : ℕ) → 7 ≤ n → header_number n ≡ n
unfolding header_number ◌⇒◌∣◌
from_seven n h =
    simp (
      past 3 (omega arith),
      past 4 (omega arith),
      past 5 (omega arith),
      past 6 (omega arith),
      past 0 (omega arith),
      past 1 (omega arith),
      past 2 (omega arith),
    )
  where
    past : (k : ℕ) → k < 7 → eqb n k ≡ false
    past k j = ne_eqb n k (λ e. omega arith)

-- ---- the lists of states: as the code tests them, and against each other

pub bound_from : (q : State) → leb 6 (number_of q) ≡ has (number_of q) bound_states
bound_from = each_number (λ n. leb 6 n ≡ has n bound_states) refl refl refl refl refl refl refl refl

pub connection_from : (q : State) → leb 8 (number_of q) ≡ has (number_of q) connection_states
connection_from = each_number (λ n. leb 8 n ≡ has n connection_states) refl refl refl refl refl refl refl refl

pub joined_from : (q : State) → leb 11 (number_of q) ≡ has (number_of q) joined_states
joined_from = each_number (λ n. leb 11 n ≡ has n joined_states) refl refl refl refl refl refl refl refl

pub calling_from : (q : State) → has (number_of q) calling_states ≡ either (eqb (number_of q) 8) (has (number_of q) joined_states)
calling_from = each_number (λ n. has n calling_states ≡ either (eqb n 8) (has n joined_states)) refl refl refl refl refl refl refl refl

-- 0 holds no binding, and the states of a connection hold one
pub bound-attached : (n : ℕ) → has n bound_states ≡ true → eqb n 0 ≡ false
bound-attached n h = not-true _ (among (λ (m : ℕ). not (eqb m 0)) n bound_states refl h)

pub connection_bound : (n : ℕ) → has n connection_states ≡ true → has n bound_states ≡ true
connection_bound n h = among (λ (m : ℕ). has m bound_states) n connection_states refl h

-- what is no binding is none in mode 1
pub not-bound : (q : State) → has (number_of q) bound_states ≡ false → has (number_of q) connection_states ≡ false
not-bound = each_number (λ n. has n bound_states ≡ false → has n connection_states ≡ false) (λ e. refl) (λ e. refl) (λ e. refl) (λ e. e) (λ e. e) (λ e. e) (λ e. e) (λ e. e)

-- ---- what a stream holds in a state

-- by the two tests of the state
pub settled_by : (q : State) (s : Stream) (a b : Bool) → eqb (number_of q) 0 ≡ a → has (number_of q) bound_states ≡ b → pick a no_stream (pick b (in_state q s) (attached_in q s.ppa)) ≡ settled q s
settled_by q s a b e f = rw (sym e, sym f)

-- where a binding is held, all that the stream held stays
pub settled-bound : (s : Stream) (q : State) → has (number_of q) bound_states ≡ true → settled q s ≡ in_state q s
settled-bound s q h = rw (bound-attached (number_of q) h, h)
