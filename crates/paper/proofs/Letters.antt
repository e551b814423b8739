-- What the bytes lent say of the record read from them: its letter, its stream, the number of a W, whom a frame calls. Each is how
-- `input_of` reads it.
use Prim.Native.Nat.{ℕ, ◌≤◌}
use mathlib.Core.Path.{◌≡◌, refl, sym, ap, ◌∙◌}
use mathlib.Core.Bool.{Bool, true, false, false≢true}
use mathlib.Core.List.{List}
use lib.ListN.{get_or}
use lib.Dec.{eqb}
use native.Mathlib.Omega.{arith}
use borrow.Author.Tests.{eqb-true, not-false}
use Rattle.ledger.specs.Choice.{either}
use Rattle.ledger.proofs.Tallies.{of_either, chosen}
use Rattle.octets.specs.Numbers.{be32_at}
use Rattle.paper.specs.Base.{address_size, most_address, length_of, form_in}
use Rattle.paper.specs.RecordsIn.{kind_of, is_message, stream_in, sap_at, pair_as, message_as, frame_as, input_as, input_of}
use Rattle.paper.specs.declared.Frame.{Frame}
use Rattle.paper.specs.declared.Input.{Input}
use Rattle.paper.specs.declared.Input.TheVariants as input
use Rattle.paper.specs.declared.Kind.{Kind}
use Rattle.paper.specs.declared.Kind.TheVariants as kind

abbrev KindLetter : ℕ → Kind → Type 0
KindLetter b kind.AddPpa = b ≡ 71
KindLetter b kind.Open = b ≡ 79
KindLetter b kind.Close = b ≡ 88
KindLetter b kind.Message = is_message b ≡ true
KindLetter b kind.CallArrives = b ≡ 73
KindLetter b kind.PeerAccepted = b ≡ 65
KindLetter b kind.PeerGone = b ≡ 68
KindLetter b kind.CallWithdrawn = b ≡ 87
KindLetter b kind.PeerReset = b ≡ 82
KindLetter b kind.ResetConfirmed = b ≡ 83
KindLetter b kind.Data = b ≡ 77
KindLetter b kind.Frame = b ≡ 102
KindLetter b kind.Unknown = 0 ≤ 0

kind_letter : (b : ℕ) → KindLetter b (kind_of b)
unfolding kind_of
kind_letter b =
    chosen (KindLetter b) _ _ _ (eqb-true b 71) (λ _. chosen (KindLetter b) _ _ _ (eqb-true b 79) (λ _. chosen (KindLetter b) _ _ _ (eqb-true b 88)
    (λ _. chosen (KindLetter b) _ _ _ (λ e. ap (λ (q : Bool). either q (eqb b 67)) e) (λ _. chosen (KindLetter b) _ _ _ (λ e. second (eqb b 80) e) (λ _. chosen (KindLetter b) _ _ _ (eqb-true b 73)
    (λ _. chosen (KindLetter b) _ _ _ (eqb-true b 65) (λ _. chosen (KindLetter b) _ _ _ (eqb-true b 68) (λ _. chosen (KindLetter b) _ _ _ (eqb-true b 87)
    (λ _. chosen (KindLetter b) _ _ _ (eqb-true b 82) (λ _. chosen (KindLetter b) _ _ _ (eqb-true b 83)
    (λ _. chosen (KindLetter b) _ _ _ (eqb-true b 77) (λ _. chosen (KindLetter b) _ _ _ (eqb-true b 102) (λ _. omega arith)))))))))))))
  where
    second : (a : Bool) → eqb b 67 ≡ true → either a (eqb b 67) ≡ true
    second true e = refl
    second false e = e

-- a record of a stream
pub record LetterOf (letter : Type 0) (r : List ℕ) (i : ℕ) : Type 0 where
  pub kind : letter
  pub stream : stream_in r ≡ i

-- a W
pub record LetterOfW (r : List ℕ) (i n : ℕ) : Type 0 where
  pub kind : get_or r 0 0 ≡ 87
  pub stream : stream_in r ≡ i
  pub number : be32_at r 2 ≡ n

-- an f
pub record LetterOfFrame (r : List ℕ) (f : Frame) : Type 0 where
  pub kind : get_or r 0 0 ≡ 102
  pub ppa : be32_at r 1 ≡ f.ppa.0
  pub address : get_or r 5 0 ≡ length_of f.form
  pub sap : sap_at r f.form 12 ≡ f.sap

abbrev pub Letter : List ℕ → Input → Type 0
Letter r input.Unreadable = 0 ≤ 0
Letter r input.Malformed = 0 ≤ 0
Letter r (input.AddPpa p) = get_or r 0 0 ≡ 71
Letter r input.Open = get_or r 0 0 ≡ 79
Letter r (input.Close i) = LetterOf (get_or r 0 0 ≡ 88) r i
Letter r (input.Message i l n) = LetterOf (is_message (get_or r 0 0) ≡ true) r i
Letter r (input.CallArrives p sap) = get_or r 0 0 ≡ 73
Letter r (input.PeerAccepted i) = get_or r 0 0 ≡ 65
Letter r (input.PeerGone i reason) = get_or r 0 0 ≡ 68
Letter r (input.CallWithdrawn i n reason) = LetterOfW r i n.0
Letter r (input.PeerReset i reason) = get_or r 0 0 ≡ 82
Letter r (input.ResetConfirmed i) = get_or r 0 0 ≡ 83
Letter r (input.Frame f) = LetterOfFrame r f

message_letter : (r : List ℕ) → is_message (get_or r 0 0) ≡ true → Letter r (message_as r)
unfolding message_as pair_as
message_letter r h =
    chosen (Letter r) _ _ _ (λ e. omega arith) (λ e. chosen (Letter r) _ _ _
    (λ e. chosen (Letter r) _ _ _ (λ e. omega arith) (λ e. chosen (Letter r) _ _ _ (λ e. omega arith) (λ e. record { kind = h; stream = refl })))
    (λ e. record { kind = h; stream = refl }))

-- a length of 7 or 8 is that of its form
form_long : (n : ℕ) → either (eqb n address_size) (eqb n most_address) ≡ true → n ≡ length_of (form_in n)
unfolding form_in
form_long n h = of_either (eqb n address_size) (eqb n most_address) h (λ e. rw (eqb-true n address_size e)) (λ e. rw (eqb-true n most_address e))

frame_letter : (r : List ℕ) → get_or r 0 0 ≡ 102 → Letter r (frame_as r)
unfolding frame_as
frame_letter r h =
    chosen (Letter r) _ _ _ (λ e. omega arith) (λ a. chosen (Letter r) _ _ _ (λ e. omega arith) (λ e. chosen (Letter r) _ _ _ (λ e. omega arith)
    (λ e. chosen (Letter r) _ _ _ (λ e. omega arith) (λ e. record { kind = h; ppa = refl; address = form_long _ (not-false _ a); sap = refl }))))

letter_as : (r : List ℕ) (k : Kind) → KindLetter (get_or r 0 0) k → Letter r (input_as k r)
letter_as r kind.AddPpa h = h
letter_as r kind.Open h = h
letter_as r kind.Close h = record { kind = h; stream = refl }
letter_as r kind.Message h = message_letter r h
letter_as r kind.CallArrives h = h
letter_as r kind.PeerAccepted h = h
letter_as r kind.PeerGone h = h
letter_as r kind.CallWithdrawn h = record { kind = h; stream = refl; number = refl }
letter_as r kind.PeerReset h = h
letter_as r kind.ResetConfirmed h = h
letter_as r kind.Data h = omega arith
letter_as r kind.Frame h = frame_letter r h
letter_as r kind.Unknown h = h

pub letter : (r : List ℕ) → Letter r (input_of r)
unfolding input_of
letter r = chosen (Letter r) _ _ _ (λ e. omega arith) (λ e. letter_as r (kind_of (get_or r 0 0)) (kind_letter (get_or r 0 0)))

-- a message's letter is not that of a close
pub no_close : (b : ℕ) → is_message b ≡ true → b ≡ 88 → ⊥
no_close b h e = false≢true (sym (ap is_message e) ∙ h)
