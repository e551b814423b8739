-- The rules of a datagram are answered with UDERROR_IND, the others with ERROR_ACK; the error is that of the rule.
use Prim.Native.Nat.{ℕ}
use mathlib.Core.Path.{◌≡◌, refl}
use Rattle.paper.specs.ErrorCodes.{complaint_of, error_of, reply_by}
use Rattle.paper.specs.declared.Reply.TheVariants.{ErrorAck}
use Rattle.paper.specs.declared.Rule.{Rule}
use Rattle.paper.specs.declared.Rule.TheVariants as rule
use Rattle.paper_effects.proofs.complaint.Goals as goal

-- the rules that are not of a datagram
other : (code : ℕ) (r : Rule) → (r ≡ rule.DatagramNoRow → ⊥) → (r ≡ rule.DatagramLength → ⊥) → (r ≡ rule.DatagramTooEarly → ⊥)
    → (r ≡ rule.DatagramTooLate → ⊥) → (r ≡ rule.DatagramSapNotAllowed → ⊥)
    → ErrorAck code (error_of r) ≡ reply_by code (complaint_of r)
other code rule.NotSupported a b c d e = refl
other code rule.NotServed a b c d e = refl
other code rule.TooShort a b c d e = refl
other code rule.NoRow a b c d e = refl
other code rule.UnknownPpa a b c d e = refl
other code rule.UnknownMode a b c d e = refl
other code rule.Management a b c d e = refl
other code rule.AutomaticXid a b c d e = refl
other code rule.SapNotAllowed a b c d e = refl
other code rule.TypeInModeOne a b c d e = refl
other code rule.ListenedFor a b c d e = refl
other code rule.ConnectQos a b c d e = refl
other code rule.AddressLength a b c d e = refl
other code rule.AddressTooEarly a b c d e = refl
other code rule.AddressTooLate a b c d e = refl
other code rule.AddressSapOdd a b c d e = refl
other code rule.AcceptNotOpen a b c d e = refl
other code rule.AcceptQos a b c d e = refl
other code rule.OthersOpen a b c d e = refl
other code rule.TokenOfNone a b c d e = refl
other code rule.CarrierNotIdle a b c d e = refl
other code rule.CarrierOfOtherPpa a b c d e = refl
other code rule.CarrierConnectionless a b c d e = refl
other code rule.DenialNotOpen a b c d e = refl
other code rule.NumberNotZero a b c d e = refl
other code rule.DatagramNoRow a b c d e = absurd (a refl)
other code rule.DatagramLength a b c d e = absurd (b refl)
other code rule.DatagramTooEarly a b c d e = absurd (c refl)
other code rule.DatagramTooLate a b c d e = absurd (d refl)
other code rule.DatagramSapNotAllowed a b c d e = absurd (e refl)

pub returns-in-DatagramNoRow : goal.returns-in-DatagramNoRow
returns-in-DatagramNoRow c = rw (c.error_of-error.ensures, c.in-DatagramNoRow.is)

pub returns-in-DatagramLength : goal.returns-in-DatagramLength
returns-in-DatagramLength c = rw (c.error_of-error.ensures, c.in-DatagramLength.is)

pub returns-in-DatagramTooEarly : goal.returns-in-DatagramTooEarly
returns-in-DatagramTooEarly c = rw (c.error_of-error.ensures, c.in-DatagramTooEarly.is)

pub returns-in-DatagramTooLate : goal.returns-in-DatagramTooLate
returns-in-DatagramTooLate c = rw (c.error_of-error.ensures, c.in-DatagramTooLate.is)

pub returns-in-DatagramSapNotAllowed : goal.returns-in-DatagramSapNotAllowed
returns-in-DatagramSapNotAllowed c = rw (c.error_of-error.ensures, c.in-DatagramSapNotAllowed.is)

pub returns-in_default : goal.returns-in_default
returns-in_default c =
    let arm = c.in_default in
    rw c.error_of-error.ensures
    (other c.args.code c.args.rule arm.not-DatagramNoRow arm.not-DatagramLength arm.not-DatagramTooEarly arm.not-DatagramTooLate arm.not-DatagramSapNotAllowed)
