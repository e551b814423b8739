-- Each rule's error is the paper's, rule by rule.
use Rattle.paper_rules.proofs.errors.error_of.Goals as goal

pub returns-in-NotSupported : goal.returns-in-NotSupported
returns-in-NotSupported c = rw c.in-NotSupported.is

pub returns-in-NotServed : goal.returns-in-NotServed
returns-in-NotServed c = rw c.in-NotServed.is

pub returns-in-TooShort : goal.returns-in-TooShort
returns-in-TooShort c = rw c.in-TooShort.is

pub returns-in-NoRow : goal.returns-in-NoRow
returns-in-NoRow c = rw c.in-NoRow.is

pub returns-in-UnknownPpa : goal.returns-in-UnknownPpa
returns-in-UnknownPpa c = rw c.in-UnknownPpa.is

pub returns-in-UnknownMode : goal.returns-in-UnknownMode
returns-in-UnknownMode c = rw c.in-UnknownMode.is

pub returns-in-Management : goal.returns-in-Management
returns-in-Management c = rw c.in-Management.is

pub returns-in-AutomaticXid : goal.returns-in-AutomaticXid
returns-in-AutomaticXid c = rw c.in-AutomaticXid.is

pub returns-in-SapNotAllowed : goal.returns-in-SapNotAllowed
returns-in-SapNotAllowed c = rw c.in-SapNotAllowed.is

pub returns-in-TypeInModeOne : goal.returns-in-TypeInModeOne
returns-in-TypeInModeOne c = rw c.in-TypeInModeOne.is

pub returns-in-ListenedFor : goal.returns-in-ListenedFor
returns-in-ListenedFor c = rw c.in-ListenedFor.is

pub returns-in-ConnectQos : goal.returns-in-ConnectQos
returns-in-ConnectQos c = rw c.in-ConnectQos.is

pub returns-in-AddressLength : goal.returns-in-AddressLength
returns-in-AddressLength c = rw c.in-AddressLength.is

pub returns-in-AddressTooEarly : goal.returns-in-AddressTooEarly
returns-in-AddressTooEarly c = rw c.in-AddressTooEarly.is

pub returns-in-AddressTooLate : goal.returns-in-AddressTooLate
returns-in-AddressTooLate c = rw c.in-AddressTooLate.is

pub returns-in-AddressSapOdd : goal.returns-in-AddressSapOdd
returns-in-AddressSapOdd c = rw c.in-AddressSapOdd.is

pub returns-in-AcceptNotOpen : goal.returns-in-AcceptNotOpen
returns-in-AcceptNotOpen c = rw c.in-AcceptNotOpen.is

pub returns-in-AcceptQos : goal.returns-in-AcceptQos
returns-in-AcceptQos c = rw c.in-AcceptQos.is

pub returns-in-OthersOpen : goal.returns-in-OthersOpen
returns-in-OthersOpen c = rw c.in-OthersOpen.is

pub returns-in-TokenOfNone : goal.returns-in-TokenOfNone
returns-in-TokenOfNone c = rw c.in-TokenOfNone.is

pub returns-in-CarrierNotIdle : goal.returns-in-CarrierNotIdle
returns-in-CarrierNotIdle c = rw c.in-CarrierNotIdle.is

pub returns-in-CarrierOfOtherPpa : goal.returns-in-CarrierOfOtherPpa
returns-in-CarrierOfOtherPpa c = rw c.in-CarrierOfOtherPpa.is

pub returns-in-CarrierConnectionless : goal.returns-in-CarrierConnectionless
returns-in-CarrierConnectionless c = rw c.in-CarrierConnectionless.is

pub returns-in-DenialNotOpen : goal.returns-in-DenialNotOpen
returns-in-DenialNotOpen c = rw c.in-DenialNotOpen.is

pub returns-in-NumberNotZero : goal.returns-in-NumberNotZero
returns-in-NumberNotZero c = rw c.in-NumberNotZero.is

pub returns-in-DatagramNoRow : goal.returns-in-DatagramNoRow
returns-in-DatagramNoRow c = rw c.in-DatagramNoRow.is

pub returns-in-DatagramLength : goal.returns-in-DatagramLength
returns-in-DatagramLength c = rw c.in-DatagramLength.is

pub returns-in-DatagramTooEarly : goal.returns-in-DatagramTooEarly
returns-in-DatagramTooEarly c = rw c.in-DatagramTooEarly.is

pub returns-in-DatagramTooLate : goal.returns-in-DatagramTooLate
returns-in-DatagramTooLate c = rw c.in-DatagramTooLate.is

pub returns-in-DatagramSapNotAllowed : goal.returns-in-DatagramSapNotAllowed
returns-in-DatagramSapNotAllowed c = rw c.in-DatagramSapNotAllowed.is
