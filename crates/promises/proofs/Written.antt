-- What the records of a call may name and say: of what an effect writes it is said of each of the three, an order, F and a message
-- up, once; and of what a frame is shown by, stream after stream.
use Rattle.std.proofs.Common.{None, Option, Some}
use Prim.Native.Nat.{ℕ, ◌≤◌}
use native.Mathlib.Omega.{arith}
use mathlib.Core.Path.{◌≡◌, refl}
use mathlib.Core.Bool.{Bool, true, false}
use mathlib.Core.List.{List, [], ◌∷◌, ◌++◌}
use lib.ListN.{length}
use lib.Dec.{eqb}
use Rattle.ledger.specs.Choice.{pick, either}
use Rattle.ledger.specs.Tally.{has}
use Rattle.ledger.proofs.Tallies.{picked}
use Rattle.paper.specs.Base.{Slot, Table, waiting, mac_size}
use Rattle.paper.specs.RecordsOut.{Record, order, flush, up, unitdata, datum, flush_if, in_order}
use Rattle.paper.specs.Effects.{orders_in, ups_in, told}
use Rattle.paper.specs.Datagrams.{indications}
use Rattle.paper.specs.RecordsIn.{size_of}
use Rattle.paper.specs.declared.Effect.{Effect}
use Rattle.paper.specs.declared.Frame.{Frame}
use Rattle.paper.specs.declared.Input.{Input}
use Rattle.paper.specs.declared.Kind.TheVariants as kind
use Rattle.paper.specs.declared.LineOrder.TheVariants as line_order
use Rattle.paper.proofs.Effects.{fits_block}
use Rattle.paper.proofs.Frames.{addresses_most, frame_data}
use Rattle.fates_book.specs.Lines.{asker, may_be_said}
use Rattle.fates_book.specs.declared.End.{End}
use Rattle.fates_book.specs.declared.Line.{Line}
use Rattle.fates_book.specs.declared.Line.TheVariants.{Went, Nothing}
use Rattle.fates_book.proofs.Said.{reply_line, line_of}
use Rattle.fates_book.proofs.ReadBack.{Sized, AllSized}
use Rattle.paper.specs.declared.Reply.{Reply}

-- ---- which indication an order may name, and which line a record may say

-- the line of a message up
abbrev pub line_up : ℕ → Option Reply → Line
line_up i None = Nothing
line_up i (Some a) = reply_line i a

-- of an end with number 0 nothing is said
pub may_end : (r : List ℕ) (i n : ℕ) (e : End) → may_be_said r (Went i n e) ≡ true → may_be_said r (pick (eqb n 0) Nothing (Went i n e)) ≡ true
may_end r i n e h = picked (λ (y : Line). may_be_said r y ≡ true) (eqb n 0) Nothing (Went i n e) (λ f. refl) (λ f. h)

-- In a call on table t with a record read as q, an a names an indication that is open on the stream that asked, and a d with a number one
-- that is open on the stream that it names.
abbrev pub Opened : Table → Input → Record → Type 0
Opened t q (order i (line_order.Connect at) called) = 0 ≤ 0
Opened t q (order i (line_order.Accept n) called) = has n.0 (waiting t (asker q)) ≡ true
Opened t q (order i (line_order.Disconnect n reason) called) = either (eqb n.0 0) (has n.0 (waiting t i)) ≡ true
Opened t q (order i line_order.Reset called) = 0 ≤ 0
Opened t q (order i line_order.ResetAnswer called) = 0 ≤ 0
Opened t q (order i (line_order.Unitdata at form) called) = 0 ≤ 0
Opened t q (flush i) = 0 ≤ 0
Opened t q (up i a tail) = 0 ≤ 0
Opened t q (unitdata i form addresses) = 0 ≤ 0
Opened t q (datum i body) = 0 ≤ 0

module _ (t : Table) (r : List ℕ) (q : Input) where
  -- a record of its size that names and says what it may
  pub record Right (a : Record) : Type 0 where
    pub sized : Sized a
    pub opened : Opened t q a
    pub may : may_be_said r (line_of q a) ≡ true

  abbrev pub AllRight : List Record → Type 0
  AllRight [] = 0 ≤ 0
  AllRight (a ∷ rs) = Right a × AllRight rs

  right_append : (a b : List Record) → AllRight a → AllRight b → AllRight (a ++ b)
  right_append [] b h g = g
  right_append (x ∷ a) b h g = (h.0, right_append a b h.1 g)

  pub all_sized : (rs : List Record) → AllRight rs → AllSized rs
  all_sized [] h = h
  all_sized (a ∷ rs) h = (h.0.sized, all_sized rs h.1)

  module _ (i c : ℕ) (own : Slot) (mac m : List ℕ) (six : length mac ≡ mac_size) where
    right_flush : (b : Bool) → AllRight (flush_if b i)
    right_flush true = (record { sized = omega arith; opened = omega arith; may = refl }, omega arith)
    right_flush false = omega arith

    right_ups : (u : Option Reply) → may_be_said r (line_up i u) ≡ true → AllRight (ups_in i mac m u)
    unfolding ups_in
    right_ups None h = omega arith
    right_ups (Some a) h = (record { sized = fits_block i c own mac m six a; opened = omega arith; may = h }, omega arith)

    -- So is all that an effect writes, where its order is, and its message up says what it may.
    pub told_right : (e : Effect) → AllRight (orders_in i c own m e.order) → may_be_said r (line_up i e.up) ≡ true → AllRight (told i c own mac m e)
    unfolding told in_order
    told_right e h g =
        let o : List Record = orders_in i c own m e.order in
        right_append (o ++ flush_if e.flush i) (ups_in i mac m e.up) (right_append o (flush_if e.flush i) h (right_flush e.flush)) (right_ups e.up g)

  -- And so are the indications of a frame.
  pub frame_right : (m : List ℕ) (f : Frame) → size_of kind.Frame ≤ length m → (streams : List ℕ) → AllRight (indications m f streams)
  frame_right m f w [] = omega arith
  frame_right m f w (i ∷ streams) = (
    record { sized = omega (arith, addresses_most m f); opened = omega arith; may = refl },
    (record { sized = frame_data m f w; opened = omega arith; may = refl }, frame_right m f w streams),
  )
