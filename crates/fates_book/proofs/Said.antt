-- What a call's records say, by their content: what `Lines` of the book reads from their bytes.
use Prim.Native.Nat.{ℕ}
use mathlib.Core.Path.{◌≡◌, refl}
use mathlib.Core.List.{List, ◌++◌, map}
use lib.Dec.{eqb}
use Rattle.ledger.specs.Choice.{pick}
use Rattle.fates_book.specs.declared.End.TheVariants.{Accepted, Withdrawn}
use Rattle.fates_book.specs.declared.Line.{Line}
use Rattle.fates_book.specs.declared.Line.TheVariants.{Came, Went, Given, Nothing}
use Rattle.fates_book.specs.Lines.{asker, parting, opening_lines}
use Rattle.paper.specs.ErrorCodes.{Complaint, error_ack, uderror_ind, reply_by}
use Rattle.paper.specs.RecordsOut.{Record, order, flush, up, unitdata, datum}
use Rattle.paper.specs.declared.Input.{Input}
use Rattle.paper.specs.declared.LineOrder.{LineOrder}
use Rattle.paper.specs.declared.LineOrder.TheVariants as line_order
use Rattle.paper.specs.declared.Reply.{Reply}
use Rattle.paper.specs.declared.Reply.TheVariants as reply

abbrev pub order_line : Input → ℕ → LineOrder → Line
order_line q i (line_order.Connect at) = Nothing
order_line q i (line_order.Accept n) = Went (asker q) n.0 Accepted
order_line q i (line_order.Disconnect n reason) = pick (eqb n.0 0) Nothing (Went i n.0 (parting q))
order_line q i line_order.Reset = Nothing
order_line q i line_order.ResetAnswer = Nothing
order_line q i (line_order.Unitdata at form) = Nothing

abbrev pub reply_line : ℕ → Reply → Line
reply_line i (reply.InfoAck s) = Nothing
reply_line i (reply.BindAck sap granted) = Given i granted
reply_line i (reply.ErrorAck code error) = Nothing
reply_line i (reply.OkAck code) = Nothing
reply_line i (reply.ConnectInd n) = Came i n.0
reply_line i reply.ConnectCon = Nothing
reply_line i (reply.TokenAck k) = Nothing
reply_line i (reply.DisconnectInd reason n) = pick (eqb n.0 0) Nothing (Went i n.0 Withdrawn)
reply_line i (reply.ResetInd reason) = Nothing
reply_line i reply.ResetCon = Nothing
reply_line i (reply.UderrorInd error) = Nothing

-- what a message that breaks a rule is told says nothing
pub complaint_said : (i code : ℕ) (x : Complaint) → reply_line i (reply_by code x) ≡ Nothing
complaint_said i code (error_ack n) = refl
complaint_said i code (uderror_ind n) = refl

abbrev pub line_of : Input → Record → Line
line_of q (order i o called) = order_line q i o
line_of q (flush i) = Nothing
line_of q (up i r tail) = reply_line i r
line_of q (unitdata i form addresses) = Nothing
line_of q (datum i body) = Nothing

abbrev pub said : Input → ℕ → List Record → List Line
said q opened rs = opening_lines opened ++ map (line_of q) rs
