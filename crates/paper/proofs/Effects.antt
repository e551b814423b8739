-- What the records of an effect tell and how many bytes they take, whatever the effect: an order, then F, then a message up, so
-- each is said of the three, once.
use Rattle.std.proofs.Common.{None, Option, Some}
use Prim.Native.Nat.{ℕ, ◌+◌, ◌*◌, ◌≤◌}
use native.Mathlib.Omega.{arith}
use mathlib.Core.Path.{◌≡◌, refl, ◌∙◌, ap}
use mathlib.Core.Bool.{Bool, true, false}
use mathlib.Core.List.{List, [], ◌∷◌, ◌++◌, append-nil}
use lib.ListN.{length, length-append}
use Rattle.ledger.proofs.Lists.{joined_append}
use Rattle.octets.specs.Runs.{part}
use Rattle.octets.specs.Blocks.{block_size, pad_to}
use Rattle.octets.proofs.Runs.{part-most}
use Rattle.paper.specs.Base.{Slot, mac_size, address_size, most_address, length_of}
use Rattle.paper.specs.RecordsIn.{message_size, most_data, block_in, data_in}
use Rattle.paper.specs.RecordsOut.{Record, order, flush, up, unitdata, datum, flush_if, in_order, bytes_of, all_bytes, start_size}
use Rattle.paper.specs.Replies.{fields_of}
use Rattle.paper.specs.Effects.{orders_in, behind_reply, ups_in, told, error_effect, effect_of, event_effect}
use Rattle.paper.specs.Room.{room_size, most_of_order, most_told, most_said, Fits}
use Rattle.paper.specs.declared.Effect.{Effect}
use Rattle.paper.specs.declared.Event.{Event}
use Rattle.paper.specs.declared.Event.TheVariants as event
use Rattle.paper.specs.declared.LineOrder.{LineOrder}
use Rattle.paper.specs.declared.LineOrder.TheVariants as line_order
use Rattle.paper.specs.declared.Reply.{Reply}
use Rattle.paper.specs.declared.Reply.TheVariants as reply
use Rattle.paper.specs.declared.Rule.{Rule}
use Rattle.paper.specs.declared.Service.{Service}
use Rattle.paper.specs.declared.Service.TheVariants as service
use Rattle.paper.specs.declared.StateRow.{StateRow}
use Rattle.paper.specs.declared.Stream.{Stream}
use Rattle.paper.specs.declared.Token.{Token}
use Rattle.paper.proofs.Tails.{tail_most, address_field}
use Rattle.paper.proofs.Sizes.{fields_few, up-size}

-- ---- the errors that records tell, by their content

-- the error that a reply tells: an ERROR_ACK or a UDERROR_IND its own, any other none
abbrev pub error_in : Reply → List ℕ
error_in (reply.InfoAck s) = []
error_in (reply.BindAck sap granted) = []
error_in (reply.ErrorAck code error) = error ∷ []
error_in (reply.OkAck code) = []
error_in (reply.ConnectInd n) = []
error_in reply.ConnectCon = []
error_in (reply.TokenAck k) = []
error_in (reply.DisconnectInd reason n) = []
error_in (reply.ResetInd reason) = []
error_in reply.ResetCon = []
error_in (reply.UderrorInd error) = error ∷ []

abbrev pub errors_in : List Record → List ℕ
errors_in [] = []
errors_in (order i o called ∷ rs) = errors_in rs
errors_in (flush i ∷ rs) = errors_in rs
errors_in (up i r tail ∷ rs) = error_in r ++ errors_in rs
errors_in (unitdata i form addresses ∷ rs) = errors_in rs
errors_in (datum i body ∷ rs) = errors_in rs

abbrev pub errors_of : Option Reply → List ℕ
errors_of None = []
errors_of (Some r) = error_in r

-- what serves a request tells none, and so does an event
pub service_silent : (x : StateRow) (k : Token) (s : Stream) (v : Service) → errors_of (effect_of x k s v).up ≡ []
unfolding effect_of
service_silent x k s service.Inform = refl
service_silent x k s service.TellToken = refl
service_silent x k s (service.Attach p) = refl
service_silent x k s service.Detach = refl
service_silent x k s (service.Bind mode sap granted) = refl
service_silent x k s service.Unbind = refl
service_silent x k s (service.Connect at) = refl
service_silent x k s (service.Accept n) = refl
service_silent x k s (service.Deny n reason) = refl
service_silent x k s (service.Disconnect reason) = refl
service_silent x k s service.Reset = refl
service_silent x k s service.ResetRes = refl
service_silent x k s (service.Unitdata at form) = refl

pub event_silent : (x : StateRow) (s : Stream) (e : Event) → errors_of (event_effect x s e).up ≡ []
unfolding event_effect
event_silent x s (event.Arrives n) = refl
event_silent x s event.Accepted = refl
event_silent x s (event.Gone reason) = refl
event_silent x s (event.Withdrawn n reason) = refl
event_silent x s (event.Resets reason) = refl
event_silent x s event.Confirmed = refl

-- ---- what they do fits the room: an order and a message up, or u with its M and no message

pub service_fits : (x : StateRow) (k : Token) (s : Stream) (v : Service) → Fits (effect_of x k s v)
unfolding effect_of
service_fits x k s service.Inform = omega arith
service_fits x k s service.TellToken = omega arith
service_fits x k s (service.Attach p) = omega arith
service_fits x k s service.Detach = omega arith
service_fits x k s (service.Bind mode sap granted) = omega arith
service_fits x k s service.Unbind = omega arith
service_fits x k s (service.Connect at) = omega arith
service_fits x k s (service.Accept n) = omega arith
service_fits x k s (service.Deny n reason) = omega arith
service_fits x k s (service.Disconnect reason) = omega arith
service_fits x k s service.Reset = omega arith
service_fits x k s service.ResetRes = omega arith
service_fits x k s (service.Unitdata at form) = omega arith

pub error_fits : (code : ℕ) (w : Rule) → Fits (error_effect code w)
error_fits code w = omega arith

pub event_fits : (x : StateRow) (s : Stream) (e : Event) → Fits (event_effect x s e)
unfolding event_effect
event_fits x s (event.Arrives n) = omega arith
event_fits x s event.Accepted = omega arith
event_fits x s (event.Gone reason) = omega arith
event_fits x s (event.Withdrawn n reason) = omega arith
event_fits x s (event.Resets reason) = omega arith
event_fits x s event.Confirmed = omega arith

-- ---- the bytes that records take

abbrev pub size : List Record → ℕ
size rs = length (all_bytes rs)

size_append : (a b : List Record) → size (a ++ b) ≡ size a + size b
size_append a b = ap length (joined_append bytes_of a b) ∙ length-append (all_bytes a) (all_bytes b)

-- ---- one effect on stream i, where stream c carries

module _ (i c : ℕ) (own : Slot) (mac m : List ℕ) where
  -- The errors told are those of the message up.
  pub told_errors : (e : Effect) → errors_in (told i c own mac m e) ≡ errors_of e.up
  unfolding told in_order orders_in ups_in
  told_errors e = first e.order
    where
      ups : (u : Option Reply) → errors_in (ups_in i mac m u) ≡ errors_of u
      ups None = refl
      ups (Some r) = append-nil (error_in r)

      then : (b : Bool) → errors_in (flush_if b i ++ ups_in i mac m e.up) ≡ errors_of e.up
      then true = ups e.up
      then false = ups e.up

      told_by : (o : LineOrder) → errors_in (orders_in i c own m (Some o) ++ flush_if e.flush i ++ ups_in i mac m e.up) ≡ errors_of e.up
      told_by (line_order.Connect at) = then e.flush
      told_by (line_order.Accept n) = then e.flush
      told_by (line_order.Disconnect n reason) = then e.flush
      told_by line_order.Reset = then e.flush
      told_by line_order.ResetAnswer = then e.flush
      told_by (line_order.Unitdata at form) = then e.flush

      first : (o : Option LineOrder) → errors_in (orders_in i c own m o ++ flush_if e.flush i ++ ups_in i mac m e.up) ≡ errors_of e.up
      first None = then e.flush
      first (Some o) = told_by o

  -- ---- the PPA's MAC has its size
  module _ (six : length mac ≡ mac_size) where
    -- a message up fits its block
    pub fits_block : (r : Reply) → length (fields_of r) * 4 + length (behind_reply mac m r) ≤ block_size
    fits_block r = omega (arith, fields_few r, tail_most mac six m r)

    size_ups : (u : Option Reply) → size (ups_in i mac m u) ≤ most_said u
    unfolding ups_in
    size_ups None = omega arith
    size_ups (Some r) = omega (arith, length-append (bytes_of (up i r (behind_reply mac m r))) [], up-size i r (behind_reply mac m r) (fits_block r))

    size-order : (o : LineOrder) → size (orders_in i c own m (Some o)) ≤ most_of_order o
    unfolding orders_in
    size-order (line_order.Connect at) = omega (arith, length-append (part (block_in m) at address_size) [], part-most (block_in m) at address_size)
    size-order (line_order.Accept n) = omega arith
    size-order (line_order.Disconnect n reason) = omega arith
    size-order line_order.Reset = omega arith
    size-order line_order.ResetAnswer = omega arith
    size-order (line_order.Unitdata at form) =
        let address : List ℕ = pad_to most_address (part (block_in m) at (length_of form)) in
        omega (arith, length-append address (bytes_of (datum i (data_in m)) ++ []), length-append (data_in m) [], part-most m (message_size + 2) (1 + most_data), address_field (block_in m) at form)

    size_orders : (o : Option LineOrder) → size (orders_in i c own m o) ≤ most_told o
    unfolding orders_in
    size_orders None = omega arith
    size_orders (Some o) = size-order o

    size-flush : (b : Bool) → size (flush_if b i) ≤ start_size
    size-flush true = omega arith
    size-flush false = omega arith

    -- Room enough, for an effect that fits.
    pub told-short : (e : Effect) → Fits e → size (told i c own mac m e) ≤ room_size
    unfolding told in_order
    told-short e f =
        let o : List Record = orders_in i c own m e.order in
        omega (arith, size_append (o ++ flush_if e.flush i) (ups_in i mac m e.up), size_append o (flush_if e.flush i), size_orders e.order, size-flush e.flush, size_ups e.up)
