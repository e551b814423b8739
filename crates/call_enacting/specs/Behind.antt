-- What stands behind the fields of a message up, by where it comes from.
use Rattle.std.specs.Prelude.{ℕ, ◌+◌, List, []}
use Rattle.octets.specs.Runs.{part}
use Rattle.paper.specs.Effects.{behind_reply}
use Rattle.paper.specs.declared.Reply.{Reply}
use Rattle.paper.specs.Base.{address_size}
use Rattle.paper.specs.declared.Reply.TheVariants as reply

-- the stream's own address, where the message ends in it: what stands there with no event's record
abbrev pub own_behind : List ℕ → Reply → List ℕ
own_behind mac r = behind_reply mac [] r

-- the addresses of the event's record r, where the message ends in them, and the stream's own where not
unfoldable pub behind_by : List ℕ → List ℕ → Reply → List ℕ
behind_by own r (reply.InfoAck s) = own
behind_by own r (reply.BindAck sap granted) = own
behind_by own r (reply.ErrorAck code error) = own
behind_by own r (reply.OkAck code) = own
behind_by own r (reply.ConnectInd n) = part r 5 (address_size + address_size)
behind_by own r reply.ConnectCon = part r 2 address_size
behind_by own r (reply.TokenAck k) = own
behind_by own r (reply.DisconnectInd reason n) = own
behind_by own r (reply.ResetInd reason) = own
behind_by own r reply.ResetCon = own
behind_by own r (reply.UderrorInd error) = own
