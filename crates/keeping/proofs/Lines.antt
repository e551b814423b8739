-- What a call says of connection indications is its order's line and its message's, whatever its effect: an effect has one of each at
-- most, and a flush, the data of a datagram and the indications of a frame say nothing.
use Rattle.std.proofs.Common.{None, Option, Some}
use Prim.Native.Nat.{ℕ}
use mathlib.Core.Path.{◌≡◌, refl, ap, ◌∙◌}
use mathlib.Core.Bool.{Bool, true, false}
use mathlib.Core.List.{List, [], ◌∷◌, ◌++◌, map}
use Rattle.ledger.specs.Choice.{both}
use Rattle.ledger.proofs.Tallies.{both_of, to_both}
use Rattle.fates_book.specs.declared.Line.{Line}
use Rattle.fates_book.specs.declared.Line.TheVariants.{Nothing}
use Rattle.fates_book.proofs.Shades.{is_nothing, silent}
use Rattle.fates_book.proofs.Said.{order_line, reply_line, complaint_said, line_of}
use Rattle.paper.specs.Base.{Slot}
use Rattle.paper.specs.ErrorCodes.{Complaint, reply_by}
use Rattle.paper.specs.RecordsOut.{up, flush_if, in_order}
use Rattle.paper.specs.Datagrams.{indications}
use Rattle.paper.specs.Effects.{named_by, data_behind, orders_in, ups_in, told}
use Rattle.paper.specs.declared.Frame.{Frame}
use Rattle.paper.specs.declared.Input.{Input}
use Rattle.paper.specs.declared.LineOrder.{LineOrder}
use Rattle.paper.specs.declared.LineOrder.TheVariants as line_order
use Rattle.paper.specs.declared.Effect.{Effect}
use Rattle.paper.specs.declared.Reply.{Reply}

-- the lines of an order of stream i, where stream c carries, and of the M of a datagram; of a flush; of a message up
abbrev data_lines : LineOrder → List Line
data_lines (line_order.Connect at) = []
data_lines (line_order.Accept n) = []
data_lines (line_order.Disconnect n reason) = []
data_lines line_order.Reset = []
data_lines line_order.ResetAnswer = []
data_lines (line_order.Unitdata at form) = Nothing ∷ []

abbrev pub order_lines : Input → ℕ → ℕ → Option LineOrder → List Line
order_lines q i c None = []
order_lines q i c (Some o) = order_line q (named_by i c o) o ∷ data_lines o

abbrev flush_lines : Bool → List Line
flush_lines true = Nothing ∷ []
flush_lines false = []

abbrev pub up_lines : ℕ → Option Reply → List Line
up_lines i None = []
up_lines i (Some r) = reply_line i r ∷ []

abbrev pub effect_lines : Input → ℕ → ℕ → Effect → List Line
effect_lines q i c e = order_lines q i c e.order ++ flush_lines e.flush ++ up_lines i e.up

pub told-lines : (q : Input) (i c : ℕ) (own : Slot) (mac r : List ℕ) (e : Effect) → map (line_of q) (told i c own mac r e) ≡ effect_lines q i c e
unfolding told in_order orders_in ups_in
told-lines q i c own mac r e = go e.order e.flush e.up
  where
    last : (b : Bool) (u : Option Reply) → map (line_of q) (flush_if b i ++ ups_in i mac r u) ≡ flush_lines b ++ up_lines i u
    last true None = refl
    last true (Some a) = refl
    last false None = refl
    last false (Some a) = refl

    behind : (o : LineOrder) (b : Bool) (u : Option Reply) → map (line_of q) (data_behind i r o ++ flush_if b i ++ ups_in i mac r u) ≡ data_lines o ++ flush_lines b ++ up_lines i u
    behind (line_order.Connect at) b u = last b u
    behind (line_order.Accept n) b u = last b u
    behind (line_order.Disconnect n reason) b u = last b u
    behind line_order.Reset b u = last b u
    behind line_order.ResetAnswer b u = last b u
    behind (line_order.Unitdata at form) b u = ap (λ (l : List Line). Nothing ∷ l) (last b u)

    go : (o : Option LineOrder) (b : Bool) (u : Option Reply) → map (line_of q) (orders_in i c own r o ++ flush_if b i ++ ups_in i mac r u) ≡ order_lines q i c o ++ flush_lines b ++ up_lines i u
    go None b u = last b u
    go (Some o) b u = ap (λ (l : List Line). order_line q (named_by i c o) o ∷ l) (behind o b u)

-- An effect that says nothing of indications: its order and its message do not.
pub quiet_told : (q : Input) (i c : ℕ) (own : Slot) (mac r : List ℕ) (e : Effect) → both (silent (order_lines q i c e.order)) (silent (up_lines i e.up)) ≡ true
    → silent (map (line_of q) (told i c own mac r e)) ≡ true
quiet_told q i c own mac r e h =
    ap silent (told-lines q i c own mac r e)
    ∙ go (order_lines q i c e.order) e.flush (up_lines i e.up) (both_of _ _ h).0 (both_of (silent (order_lines q i c e.order)) _ h).1
  where
    front : (b : Bool) (v : List Line) → silent v ≡ true → silent (flush_lines b ++ v) ≡ true
    front true v h = h
    front false v h = h

    go : (o : List Line) (b : Bool) (v : List Line) → silent o ≡ true → silent v ≡ true → silent (o ++ flush_lines b ++ v) ≡ true
    go [] b v h g = front b v g
    go (y ∷ o) b v h g = let c : (is_nothing y ≡ true) × (silent o ≡ true) = both_of _ _ h in to_both _ _ c.0 (go o b v c.1 g)

-- Nor does what a message that breaks a rule is told,
pub quiet_complaint : (q : Input) (i code : ℕ) (x : Complaint) → silent (map (line_of q) (up i (reply_by code x) [] ∷ [])) ≡ true
quiet_complaint q i code x = ap (λ (y : Line). silent (y ∷ [])) (complaint_said i code x)

-- or a frame: its indications are no connection's.
pub quiet_frame : (q : Input) (r : List ℕ) (f : Frame) (streams : List ℕ) → silent (map (line_of q) (indications r f streams)) ≡ true
quiet_frame q r f [] = refl
quiet_frame q r f (i ∷ streams) = quiet_frame q r f streams
