-- What stands behind the fields of an order and of a message up: it comes from the message, the stream or the event.
use Rattle.std.proofs.Common.{Some}
use Prim.Native.Nat.{ℕ}
use mathlib.Core.Path.{◌≡◌, refl}
use mathlib.Core.List.{List, [], ◌∷◌}
use Rattle.octets.proofs.Runs.{part_add}
use Rattle.paper.specs.Base.{Slot, address_size}
use Rattle.paper.specs.RecordsOut.{order, all_bytes, disconnect_size}
use Rattle.paper.specs.Effects.{named_by, behind_reply, orders_in}
use Rattle.paper.specs.Room.{most_of_order}
use Rattle.paper.specs.declared.Stream.{Stream}
use Rattle.paper.specs.declared.Form.{Form}
use Rattle.paper.specs.declared.Correlation.{Correlation}
use Rattle.paper.specs.declared.LineOrder.{LineOrder}
use Rattle.paper.specs.declared.LineOrder.TheVariants as line_order
use Rattle.paper.specs.declared.Reply.{Reply}
use Rattle.paper.specs.declared.Reply.TheVariants as reply
use Rattle.call_enacting.specs.Behind.{own_behind, behind_by}

-- none of them takes more than a d
pub bare_most : (o : LineOrder) → ((at : ℕ) → o ≡ line_order.Connect at → ⊥)
    → ((at : ℕ) (form : Form) → o ≡ line_order.Unitdata at form → ⊥) → most_of_order o ≡ disconnect_size
bare_most (line_order.Connect at) n1 n2 = absurd (n1 at refl)
bare_most (line_order.Accept n) n1 n2 = refl
bare_most (line_order.Disconnect n reason) n1 n2 = refl
bare_most line_order.Reset n1 n2 = refl
bare_most line_order.ResetAnswer n1 n2 = refl
bare_most (line_order.Unitdata at form) n1 n2 = absurd (n2 at form refl)

-- nor has data behind it
pub bare_orders_lem : (i c : ℕ) (own : Slot) (r : List ℕ) (o : LineOrder) → ((at : ℕ) → o ≡ line_order.Connect at → ⊥)
    → ((at : ℕ) (form : Form) → o ≡ line_order.Unitdata at form → ⊥)
    → all_bytes (order (named_by i c o) o [] ∷ []) ≡ all_bytes (orders_in i c own r (Some o))
unfolding orders_in
bare_orders_lem i c own r (line_order.Connect at) n1 n2 = absurd (n1 at refl)
bare_orders_lem i c own r (line_order.Accept n) n1 n2 = refl
bare_orders_lem i c own r (line_order.Disconnect n reason) n1 n2 = refl
bare_orders_lem i c own r line_order.Reset n1 n2 = refl
bare_orders_lem i c own r line_order.ResetAnswer n1 n2 = refl
bare_orders_lem i c own r (line_order.Unitdata at form) n1 n2 = absurd (n2 at form refl)

pub not_own : (mac : List ℕ) (r : Reply) → ((s : Stream) → r ≡ reply.InfoAck s → ⊥)
    → ((sap : ℕ) (granted : ℕ) → r ≡ reply.BindAck sap granted → ⊥) → own_behind mac r ≡ []
unfolding behind_reply
not_own mac (reply.InfoAck s) n1 n2 = absurd (n1 s refl)
not_own mac (reply.BindAck sap granted) n1 n2 = absurd (n2 sap granted refl)
not_own mac (reply.ErrorAck code error) n1 n2 = refl
not_own mac (reply.OkAck code) n1 n2 = refl
not_own mac (reply.ConnectInd n) n1 n2 = refl
not_own mac reply.ConnectCon n1 n2 = refl
not_own mac (reply.TokenAck k) n1 n2 = refl
not_own mac (reply.DisconnectInd reason n) n1 n2 = refl
not_own mac (reply.ResetInd reason) n1 n2 = refl
not_own mac reply.ResetCon n1 n2 = refl
not_own mac (reply.UderrorInd error) n1 n2 = refl

pub not_event : (own m : List ℕ) (r : Reply) → ((n : Correlation) → r ≡ reply.ConnectInd n → ⊥)
    → (r ≡ reply.ConnectCon → ⊥) → own ≡ behind_by own m r
unfolding behind_by
not_event own m (reply.InfoAck s) n1 n2 = refl
not_event own m (reply.BindAck sap granted) n1 n2 = refl
not_event own m (reply.ErrorAck code error) n1 n2 = refl
not_event own m (reply.OkAck code) n1 n2 = refl
not_event own m (reply.ConnectInd n) n1 n2 = absurd (n1 n refl)
not_event own m reply.ConnectCon n1 n2 = absurd (n2 refl)
not_event own m (reply.TokenAck k) n1 n2 = refl
not_event own m (reply.DisconnectInd reason n) n1 n2 = refl
not_event own m (reply.ResetInd reason) n1 n2 = refl
not_event own m reply.ResetCon n1 n2 = refl
not_event own m (reply.UderrorInd error) n1 n2 = refl

-- by where it comes from, it is what stands behind the fields. CONNECT_IND has the two addresses of the event, one behind
-- the other.
pub behind_reply_lem : (mac m : List ℕ) (r : Reply) → behind_by (own_behind mac r) m r ≡ behind_reply mac m r
unfolding behind_by behind_reply
behind_reply_lem mac m (reply.InfoAck s) = refl
behind_reply_lem mac m (reply.BindAck sap granted) = refl
behind_reply_lem mac m (reply.ErrorAck code error) = refl
behind_reply_lem mac m (reply.OkAck code) = refl
behind_reply_lem mac m (reply.ConnectInd n) = part_add m 5 address_size address_size
behind_reply_lem mac m reply.ConnectCon = refl
behind_reply_lem mac m (reply.TokenAck k) = refl
behind_reply_lem mac m (reply.DisconnectInd reason n) = refl
behind_reply_lem mac m (reply.ResetInd reason) = refl
behind_reply_lem mac m reply.ResetCon = refl
behind_reply_lem mac m (reply.UderrorInd error) = refl
