-- The records written are told apart again by their bytes, as each kind has its size, and the line read at each is what its
-- content says.
use Prim.Native.Nat.{ℕ, zero, suc, ◌+◌, ◌*◌, ◌≤◌}
use mathlib.Core.Path.{◌≡◌, refl, sym, ap, ◌∙◌}
use mathlib.Core.Bool.{Bool, true, false}
use mathlib.Core.List.{List, [], ◌∷◌, ◌++◌, map}
use lib.ListN.{length, drop, length-append}
use lib.Seq.{drop_at}
use lib.Dec.{eqb}
use native.Mathlib.Omega.{arith}
use borrow.Author.Tests.{eqb-false}
use Rattle.ledger.specs.Choice.{pick, ◌⇒◌∣◌}
use Rattle.paper.specs.RecordsOut.{Record, order, flush, up, unitdata, datum, bytes_of, all_bytes, size_out}
use Rattle.paper.specs.Replies.{fields_of, unitdata_fields, goes_as_c, content_of}
use Rattle.paper.specs.declared.LineOrder.{LineOrder}
use Rattle.paper.specs.declared.LineOrder.TheVariants as line_order
use Rattle.paper.specs.declared.Reply.{Reply}
use Rattle.paper.specs.declared.Reply.TheVariants as reply
use Rattle.paper.specs.declared.Input.{Input}
use Rattle.paper.specs.declared.Input.TheVariants as input
use Rattle.paper.specs.declared.Correlation.{Correlation}
use Rattle.paper.proofs.Sizes.{up-size, unitdata-size}
use Rattle.fates_book.specs.declared.End.{End}
use Rattle.fates_book.specs.declared.End.TheVariants.{Accepted, Denied, Withdrawn, Dropped}
use Rattle.fates_book.specs.declared.Line.{Line}
use Rattle.fates_book.specs.declared.Line.TheVariants.{Came, Went, Given, Nothing}
use Rattle.fates_book.specs.Lines.{asker, parting, end_line, up_line, line_at, records_in}
use Rattle.fates_book.proofs.Said.{order_line, reply_line, line_of}
use Rattle.octets.proofs.Numbers.{be32_at-be32}
use Rattle.paper.specs.RecordsIn.{message_size, most_data}
use Rattle.octets.specs.Blocks.{block_size}
use Rattle.paper.specs.Base.{address_size, most_address}

-- ---- records told apart

-- the bytes behind an order: an address of a connect or of a datagram, none else
abbrev behind_size : LineOrder → ℕ
behind_size (line_order.Connect at) = address_size
behind_size (line_order.Accept n) = 0
behind_size (line_order.Disconnect n reason) = 0
behind_size line_order.Reset = 0
behind_size line_order.ResetAnswer = 0
behind_size (line_order.Unitdata at form) = most_address

-- a record of its size
abbrev pub Sized : Record → Type 0
Sized (order i o called) = length called ≡ behind_size o
Sized (flush i) = 0 ≤ 0
Sized (up i r tail) = length (fields_of r) * 4 + length tail ≤ block_size
Sized (unitdata i form addresses) = length (unitdata_fields form) * 4 + length addresses ≤ block_size
Sized (datum i body) = length body ≡ 1 + most_data

abbrev pub AllSized : List Record → Type 0
AllSized [] = 0 ≤ 0
AllSized (r ∷ rs) = Sized r × AllSized rs

-- its first byte is its kind, which tells its size
record Told (r : Record) (rest : List ℕ) : Type 0 where
  kind : ℕ
  others : List ℕ
  form : bytes_of r ++ rest ≡ kind ∷ others
  size : size_out kind ≡ length (bytes_of r)
  some : eqb (size_out kind) 0 ≡ false

told-order : (i : ℕ) (o : LineOrder) (called rest : List ℕ) → length called ≡ behind_size o → Told (order i o called) rest
unfolding size_out ◌⇒◌∣◌
told-order i (line_order.Connect at) called rest h = record { kind = 99; others = _; form = refl; size = omega arith; some = refl }
told-order i (line_order.Accept n) called rest h = record { kind = 97; others = _; form = refl; size = omega arith; some = refl }
told-order i (line_order.Disconnect n reason) called rest h = record { kind = 100; others = _; form = refl; size = omega arith; some = refl }
told-order i line_order.Reset called rest h = record { kind = 114; others = _; form = refl; size = omega arith; some = refl }
told-order i line_order.ResetAnswer called rest h = record { kind = 115; others = _; form = refl; size = omega arith; some = refl }
told-order i (line_order.Unitdata at form) called rest h = record { kind = 117; others = _; form = refl; size = omega arith; some = refl }

-- P or C
kind_size : (b : Bool) → size_out (pick b 67 80) ≡ message_size
unfolding size_out ◌⇒◌∣◌
kind_size true = refl
kind_size false = refl

told_record : (r : Record) (rest : List ℕ) → Sized r → Told r rest
unfolding size_out ◌⇒◌∣◌
told_record (order i o called) rest h = told-order i o called rest h
told_record (flush i) rest h = record { kind = 70; others = _; form = refl; size = refl; some = refl }
told_record (up i r tail) rest h = record {
  kind = pick (goes_as_c r) 67 80;
  others = _;
  form = refl;
  size = kind_size (goes_as_c r) ∙ sym (up-size i r tail h);
  some = ap (λ (n : ℕ). eqb n 0) (kind_size (goes_as_c r));
}
told_record (unitdata i form addresses) rest h = record { kind = 80; others = _; form = refl; size = sym (unitdata-size i form addresses h); some = refl }
told_record (datum i body) rest h = record { kind = 77; others = _; form = refl; size = omega arith; some = refl }

-- a record takes a byte at least
enough_bytes : (rs : List Record) → AllSized rs → length rs ≤ length (all_bytes rs)
enough_bytes [] h = omega arith
enough_bytes (r ∷ rs) h =
    let z : Told r (all_bytes rs) = told_record r (all_bytes rs) h.0 in
    let n : size_out z.kind ≡ 0 → ⊥ = eqb-false _ _ z.some in
    omega (arith, length-append (bytes_of r) (all_bytes rs), z.size, enough_bytes rs h.1)

-- where each record begins
abbrev pub starts : List Record → List (List ℕ)
starts [] = []
starts (r ∷ rs) = (bytes_of r ++ all_bytes rs) ∷ starts rs

-- with as many tries as there are records, or more
tried : (rs : List Record) → AllSized rs → (k : ℕ) → length rs ≤ k → records_in k (all_bytes rs) ≡ starts rs
unfolding records_in
tried [] h zero m = refl
tried [] h (suc k) m = refl
tried (r ∷ rs) h zero m = absurd (omega arith)
tried (r ∷ rs) h (suc k) m =
    let z : Told r (all_bytes rs) = told_record r (all_bytes rs) h.0 in
    let b : List ℕ = bytes_of r ++ all_bytes rs in
    ap (records_in (suc k)) z.form
    ∙ ap (λ (b : List ℕ). b ∷ records_in k (drop (size_out z.kind) b)) (sym z.form)
    ∙ ap (λ (c : List ℕ). b ∷ records_in k c) (drop_at (bytes_of r) (all_bytes rs) (size_out z.kind) (sym z.size))
    ∙ ap (λ (l : List (List ℕ)). b ∷ l) (tried rs h.1 k (omega arith))

pub told_apart : (rs : List Record) → AllSized rs → records_in (length (all_bytes rs)) (all_bytes rs) ≡ starts rs
told_apart rs h = tried rs h (length (all_bytes rs)) (enough_bytes rs h)

-- ---- what the line says that is read at each

end_said : (i n : ℕ) (e : End) → end_line i n e ≡ pick (eqb n 0) Nothing (Went i n e)
unfolding end_line ◌⇒◌∣◌
end_said i n e = go (eqb n 0)
  where
    go : (b : Bool) → (b ⇒ Nothing ∣ Went i n e) ≡ pick b Nothing (Went i n e)
    go true = refl
    go false = refl

order_said : (q : Input) (i : ℕ) (o : LineOrder) (called rest : List ℕ) → line_at q (bytes_of (order i o called) ++ rest) ≡ order_line q i o
unfolding line_at ◌⇒◌∣◌
order_said q i (line_order.Connect at) called rest = refl
order_said q i (line_order.Accept n) called rest = ap (λ (m : ℕ). Went (asker q) m Accepted) (be32_at-be32 n.0 [])
order_said q i (line_order.Disconnect n reason) called rest = ap (λ (m : ℕ). end_line i m (parting q)) (be32_at-be32 n.0 []) ∙ end_said i n.0 (parting q)
order_said q i line_order.Reset called rest = refl
order_said q i line_order.ResetAnswer called rest = refl
order_said q i (line_order.Unitdata at form) called rest = refl

reply_said : (q : Input) (i : ℕ) (r : Reply) (tail rest : List ℕ) → line_at q (bytes_of (up i r tail) ++ rest) ≡ reply_line i r
unfolding line_at up_line content_of ◌⇒◌∣◌
reply_said q i (reply.InfoAck s) tail rest = refl
reply_said q i (reply.BindAck sap granted) tail rest = ap (λ (m : ℕ). Given i m) (be32_at-be32 granted [])
reply_said q i (reply.ErrorAck code error) tail rest = refl
reply_said q i (reply.OkAck code) tail rest = refl
reply_said q i (reply.ConnectInd n) tail rest = ap (λ (m : ℕ). Came i m) (be32_at-be32 n.0 [])
reply_said q i reply.ConnectCon tail rest = refl
reply_said q i (reply.TokenAck k) tail rest = refl
reply_said q i (reply.DisconnectInd reason n) tail rest = ap (λ (m : ℕ). end_line i m Withdrawn) (be32_at-be32 n.0 []) ∙ end_said i n.0 Withdrawn
reply_said q i (reply.ResetInd reason) tail rest = refl
reply_said q i reply.ResetCon tail rest = refl
reply_said q i (reply.UderrorInd error) tail rest = refl

record_said : (q : Input) (r : Record) (rest : List ℕ) → line_at q (bytes_of r ++ rest) ≡ line_of q r
unfolding line_at up_line ◌⇒◌∣◌
record_said q (order i o called) rest = order_said q i o called rest
record_said q (flush i) rest = refl
record_said q (up i r tail) rest = reply_said q i r tail rest
record_said q (unitdata i form addresses) rest = refl
record_said q (datum i body) rest = refl

pub lines_said : (q : Input) (rs : List Record) → map (line_at q) (starts rs) ≡ map (line_of q) rs
lines_said q [] = refl
lines_said q (r ∷ rs) = ap (λ (y : Line). y ∷ map (line_at q) (starts rs)) (record_said q r (all_bytes rs)) ∙ ap (λ (ys : List Line). line_of q r ∷ ys) (lines_said q rs)

-- ---- which record says which end

-- An a for a message says that the asker's was accepted,
pub accept_line : (i l d c : ℕ) (n : Correlation) (rest : List ℕ)
    → line_at (input.Message i l d) (bytes_of (order c (line_order.Accept n) []) ++ rest) ≡ Went i n.0 Accepted
accept_line i l d c n rest = order_said (input.Message i l d) c (line_order.Accept n) [] rest

-- a d with a number other than 0 for a message that it was denied, for a close that it was dropped,
pub denial_line : (i l d j : ℕ) (n : Correlation) (reason : ℕ) (rest : List ℕ) → eqb n.0 0 ≡ false
    → line_at (input.Message i l d) (bytes_of (order j (line_order.Disconnect n reason) []) ++ rest) ≡ Went j n.0 Denied
denial_line i l d j n reason rest h = order_said (input.Message i l d) j (line_order.Disconnect n reason) [] rest ∙ ap (λ (b : Bool). pick b Nothing (Went j n.0 Denied)) h

pub drop-line : (i j : ℕ) (n : Correlation) (reason : ℕ) (rest : List ℕ) → eqb n.0 0 ≡ false
    → line_at (input.Close i) (bytes_of (order j (line_order.Disconnect n reason) []) ++ rest) ≡ Went j n.0 Dropped
drop-line i j n reason rest h = order_said (input.Close i) j (line_order.Disconnect n reason) [] rest ∙ ap (λ (b : Bool). pick b Nothing (Went j n.0 Dropped)) h

-- and a DISCONNECT_IND with one that it was withdrawn.
pub withdrawal_line : (q : Input) (i reason : ℕ) (n : Correlation) (rest : List ℕ) → eqb n.0 0 ≡ false
    → line_at q (bytes_of (up i (reply.DisconnectInd reason n) []) ++ rest) ≡ Went i n.0 Withdrawn
withdrawal_line q i reason n rest h = reply_said q i (reply.DisconnectInd reason n) [] rest ∙ ap (λ (b : Bool). pick b Nothing (Went i n.0 Withdrawn)) h
