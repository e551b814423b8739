-- 'Answers with ERROR_ACK': the codes, and the error of each rule.
use Rattle.std.specs.Prelude.{ℕ}
use Rattle.paper.specs.declared.Reply.{Reply}
use Rattle.paper.specs.declared.Reply.TheVariants.{ErrorAck, UderrorInd}
use Rattle.paper.specs.declared.Rule.{Rule}
use Rattle.paper.specs.declared.Rule.TheVariants as rule

-- The codes.
abbrev pub bad_addr : ℕ
bad_addr = 1

abbrev pub access : ℕ
access = 2

abbrev pub out_state : ℕ
out_state = 3

abbrev pub bad_corr : ℕ
bad_corr = 5

abbrev pub unsupported : ℕ
unsupported = 7

abbrev pub bad_ppa : ℕ
bad_ppa = 8

abbrev pub bad_prim : ℕ
bad_prim = 9

abbrev pub bad_qos_type : ℕ
bad_qos_type = 0x0b

abbrev pub bad_token : ℕ
bad_token = 0x0c

abbrev pub bound : ℕ
bound = 0x0d

abbrev pub not_supported : ℕ
not_supported = 0x12

abbrev pub no_auto : ℕ
no_auto = 0x16

abbrev pub pending : ℕ
pending = 0x1b

-- How a message that breaks a rule is answered: with ERROR_ACK; a datagram of full size that is wrong with UDERROR_IND and no
-- ERROR_ACK (document 02). Either has the error.
pub data Complaint : Type 0 where
  error_ack : ℕ → Complaint
  uderror_ind : ℕ → Complaint

abbrev pub complaint_of : Rule → Complaint
complaint_of rule.NotSupported = error_ack not_supported
complaint_of rule.NotServed = error_ack bad_prim
complaint_of rule.TooShort = error_ack bad_prim
complaint_of rule.NoRow = error_ack out_state
complaint_of rule.UnknownPpa = error_ack bad_ppa
complaint_of rule.UnknownMode = error_ack unsupported
complaint_of rule.Management = error_ack unsupported
complaint_of rule.AutomaticXid = error_ack no_auto
complaint_of rule.SapNotAllowed = error_ack bad_addr
complaint_of rule.TypeInModeOne = error_ack unsupported
complaint_of rule.ListenedFor = error_ack bound
complaint_of rule.ConnectQos = error_ack bad_qos_type
complaint_of rule.AddressLength = error_ack bad_addr
complaint_of rule.AddressTooEarly = error_ack bad_addr
complaint_of rule.AddressTooLate = error_ack bad_addr
complaint_of rule.AddressSapOdd = error_ack bad_addr
complaint_of rule.AcceptNotOpen = error_ack bad_corr
complaint_of rule.AcceptQos = error_ack bad_qos_type
complaint_of rule.OthersOpen = error_ack pending
complaint_of rule.TokenOfNone = error_ack bad_token
complaint_of rule.CarrierNotIdle = error_ack out_state
complaint_of rule.CarrierOfOtherPpa = error_ack access
complaint_of rule.CarrierConnectionless = error_ack access
complaint_of rule.DenialNotOpen = error_ack bad_corr
complaint_of rule.NumberNotZero = error_ack bad_corr
-- of a datagram
complaint_of rule.DatagramNoRow = uderror_ind out_state
complaint_of rule.DatagramLength = uderror_ind bad_addr
complaint_of rule.DatagramTooEarly = uderror_ind bad_addr
complaint_of rule.DatagramTooLate = uderror_ind bad_addr
complaint_of rule.DatagramSapNotAllowed = uderror_ind bad_addr

abbrev pub error_by : Complaint → ℕ
error_by (error_ack n) = n
error_by (uderror_ind n) = n

-- The error that each rule answers with.
abbrev pub error_of : Rule → ℕ
error_of r = error_by (complaint_of r)

-- The message up, to a message of this code: ERROR_ACK has the request's code.
abbrev pub reply_by : ℕ → Complaint → Reply
reply_by code (error_ack n) = ErrorAck code n
reply_by code (uderror_ind n) = UderrorInd n
