-- Every call writes records of their size, into the room that it needs: so what is read from the bytes written is what the records say.
use Prim.Native.Nat.{ℕ, ◌≤◌}
use mathlib.Core.Path.{◌≡◌, refl, ap, ◌∙◌}
use mathlib.Core.List.{List, [], ◌∷◌, ◌++◌, map, append-nil}
use lib.ListN.{length}
use native.Mathlib.Omega.{arith}
use Rattle.ledger.specs.Choice.{◌⇒◌∣◌}
use Rattle.ledger.specs.Lists.{joined}
use Rattle.fates_book.specs.declared.Line.{Line}
use Rattle.fates_book.specs.Lines.{line_at, opening_lines, lines_of}
use Rattle.fates_book.proofs.Said.{said}
use Rattle.fates_book.proofs.ReadBack.{AllSized, starts, told_apart, lines_said}
use Rattle.paper.specs.Base.{Table}
use Rattle.paper.specs.RecordsIn.{input_of}
use Rattle.paper.specs.RecordsOut.{Record, order, flush, up, unitdata, datum, bytes_of, all_bytes}
use Rattle.paper.specs.Replies.{content_of}
use Rattle.paper.specs.StateRows.{state_rows}
use Rattle.paper.specs.Step.{step}
use Rattle.paper.specs.Room.{frame_room_size, room_for}
use Rattle.paper.specs.declared.LineOrder.TheVariants as line_order
use Rattle.paper.specs.declared.Reply.TheVariants as reply
use Rattle.paper.proofs.Effects.{error_in, errors_in}
use Rattle.paper.proofs.Room.{room_within}
use Rattle.promises.specs.Answers.{error_at, errors_told}
use Rattle.keeping.specs.Soundness.{Sound}
use Rattle.promises.proofs.Orderly.{orderly}
use Rattle.promises.proofs.Written.{all_sized}

module _ (t : Table) (k : Sound t) (r : List ℕ) (room : ℕ) where
  -- 128 bytes, and for a frame 4,096
  pub room_enough : length (all_bytes (step t r room).records) ≤ room_for (input_of r)
  room_enough = (orderly state_rows t r room).short k

  pub written-few : length (all_bytes (step t r room).records) ≤ frame_room_size
  written-few = omega (arith, room_enough, (room_within (input_of r)).1)

  pub whole-step : AllSized (step t r room).records
  whole-step = all_sized t r (input_of r) (step t r room).records ((orderly state_rows t r room).right k)

-- ---- what is read from the bytes of a call

-- its lines
pub read_step : (t : Table) → Sound t → (r : List ℕ) (room : ℕ)
    → lines_of r (step t r room).opened (all_bytes (step t r room).records) ≡ said (input_of r) (step t r room).opened (step t r room).records
read_step t k r room =
    let rs : List Record = (step t r room).records in
    ap (λ (ys : List Line). opening_lines (step t r room).opened ++ ys)
    (ap (map (line_at (input_of r))) (told_apart rs (whole-step t k r room)) ∙ lines_said (input_of r) rs)

-- its errors
error_read : (r : Record) (rest : List ℕ) → error_at (bytes_of r ++ rest) ≡ errors_in (r ∷ [])
unfolding error_at content_of ◌⇒◌∣◌
error_read (order i (line_order.Connect at) called) rest = refl
error_read (order i (line_order.Accept n) called) rest = refl
error_read (order i (line_order.Disconnect n reason) called) rest = refl
error_read (order i line_order.Reset called) rest = refl
error_read (order i line_order.ResetAnswer called) rest = refl
error_read (order i (line_order.Unitdata at form) called) rest = refl
error_read (flush i) rest = refl
error_read (up i (reply.InfoAck s) tail) rest = refl
error_read (up i (reply.BindAck sap granted) tail) rest = refl
error_read (up i (reply.ErrorAck code error) tail) rest = ap (λ (e : ℕ). e ∷ []) (omega arith)
error_read (up i (reply.OkAck code) tail) rest = refl
error_read (up i (reply.ConnectInd n) tail) rest = refl
error_read (up i reply.ConnectCon tail) rest = refl
error_read (up i (reply.TokenAck k) tail) rest = refl
error_read (up i (reply.DisconnectInd reason n) tail) rest = refl
error_read (up i (reply.ResetInd reason) tail) rest = refl
error_read (up i reply.ResetCon tail) rest = refl
error_read (up i (reply.UderrorInd error) tail) rest = ap (λ (e : ℕ). e ∷ []) (omega arith)
error_read (unitdata i form addresses) rest = refl
error_read (datum i body) rest = refl

errors_read : (rs : List Record) → joined error_at (starts rs) ≡ errors_in rs
errors_read [] = refl
errors_read (r ∷ rs) = ap (λ (l : List ℕ). l ++ joined error_at (starts rs)) (error_read r (all_bytes rs)) ∙ ap (λ (l : List ℕ). errors_in (r ∷ []) ++ l) (errors_read rs) ∙ one r
  where
    one : (r : Record) → errors_in (r ∷ []) ++ errors_in rs ≡ errors_in (r ∷ rs)
    one (order i o called) = refl
    one (flush i) = refl
    one (up i r tail) = ap (λ (l : List ℕ). l ++ errors_in rs) (append-nil (error_in r))
    one (unitdata i form addresses) = refl
    one (datum i body) = refl

pub told-step : (t : Table) → Sound t → (r : List ℕ) (room : ℕ) → errors_told (all_bytes (step t r room).records) ≡ errors_in (step t r room).records
told-step t k r room =
    let rs : List Record = (step t r room).records in
    ap (joined error_at) (told_apart rs (whole-step t k r room)) ∙ errors_read rs
