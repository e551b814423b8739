-- What the records of a call name: an a and a d only an indication that was open before it, and each line only what its record may say. Both hold
-- record by record (`Right`), and so of the bytes written.
use Prim.Native.Nat.{ℕ, zero, suc}
use mathlib.Core.Path.{◌≡◌, refl, ap, ◌∙◌}
use mathlib.Core.Bool.{Bool, true, false}
use mathlib.Core.List.{List, [], ◌∷◌, ◌++◌, map}
use lib.ListN.{length, get_or}
use lib.Dec.{eqb}
use borrow.Author.Tests.{eq-eqb}
use Rattle.ledger.specs.Choice.{pick, either}
use Rattle.ledger.specs.Tally.{has, all_of}
use Rattle.ledger.proofs.Tallies.{to_both, both_of}
use Rattle.octets.specs.Numbers.{be32_at}
use Rattle.octets.proofs.Numbers.{be32_at-be32}
use Rattle.fates_book.specs.Lines.{asker, records_in, opening_lines, may_be_said}
use Rattle.fates_book.proofs.ReadBack.{starts, told_apart}
use Rattle.fates_book.proofs.Said.{line_of}
use Rattle.paper.specs.Base.{Table, waiting}
use Rattle.paper.specs.RecordsIn.{input_of}
use Rattle.paper.specs.RecordsOut.{Record, order, flush, up, unitdata, datum, bytes_of, all_bytes}
use Rattle.paper.specs.Replies.{goes_as_c, content_of}
use Rattle.paper.specs.StateRows.{state_rows}
use Rattle.paper.specs.declared.Input.{Input}
use Rattle.paper.specs.declared.LineOrder.TheVariants as line_order
use Rattle.promises.specs.History.{Answered, open_by, said_by, names_open}
use Rattle.promises.specs.Harness.{Lending, Harness, table_in, heard_in, next_in}
use Rattle.promises.proofs.Harness.{outcome, agreed, next-is, lines-heard}
use Rattle.promises.proofs.Orderly.{orderly}
use Rattle.promises.proofs.Whole.{whole-step}
use Rattle.promises.proofs.Written.{Opened, AllRight}

module _ (t : Table) (r : List ℕ) (q : Input) where
  -- a record read from its bytes
  in_bytes : (a : Record) (rest : List ℕ) → Opened t q a → names_open (waiting t) (asker q) (bytes_of a ++ rest) ≡ true
  unfolding content_of
  in_bytes (order i (line_order.Connect at) called) rest h = refl
  in_bytes (order i (line_order.Accept n) called) rest h = ap (λ (m : ℕ). has m (waiting t (asker q))) (be32_at-be32 n.0 []) ∙ h
  in_bytes (order i (line_order.Disconnect n reason) called) rest h = ap (λ (m : ℕ). either (eqb m 0) (has m (waiting t i))) (be32_at-be32 n.0 []) ∙ h
  in_bytes (order i line_order.Reset called) rest h = refl
  in_bytes (order i line_order.ResetAnswer called) rest h = refl
  in_bytes (order i (line_order.Unitdata at form) called) rest h = refl
  in_bytes (flush i) rest h = refl
  in_bytes (up i a tail) rest h = go (goes_as_c a)
    where
      go : (b : Bool) → pick (eqb (pick b 67 80) 97) (has (be32_at (bytes_of (up i a tail) ++ rest) 2) (waiting t (asker q)))
          (pick (eqb (pick b 67 80) 100) (either (eqb (be32_at (bytes_of (up i a tail) ++ rest) 2) 0) (has (be32_at (bytes_of (up i a tail) ++ rest) 2) (waiting t i))) true) ≡ true
      go true = refl
      go false = refl
  in_bytes (unitdata i form addresses) rest h = refl
  in_bytes (datum i body) rest h = refl

  all_in_bytes : (rs : List Record) → AllRight t r q rs → all_of (names_open (waiting t) (asker q)) (starts rs) ≡ true
  all_in_bytes [] h = refl
  all_in_bytes (a ∷ rs) h = to_both _ _ (in_bytes a (all_bytes rs) h.0.opened) (all_in_bytes rs h.1)

  -- and the lines
  all_lines_lem : (rs : List Record) → AllRight t r q rs → all_of (may_be_said r) (map (line_of q) rs) ≡ true
  all_lines_lem [] h = refl
  all_lines_lem (a ∷ rs) h = to_both _ _ h.0.may (all_lines_lem rs h.1)

-- the records of one call more
heard_right : (x : Harness) (c : Lending) → AllRight (table_in x) c.bytes (input_of c.bytes) (outcome (table_in x) c).records
heard_right x c = (orderly state_rows (table_in x) c.bytes (length c.room)).right (agreed x 0).sound

-- ---- of a harness

-- Every a that a call writes names an indication that was open, before it, on the stream that asked; every d with a number other than 0 one
-- that was open on the stream that it names.
pub orders_name_open : (x : Harness) (c : Lending)
    → all_of (names_open (λ s. open_by s (heard_in x)) (asker (input_of c.bytes))) (records_in (length (next_in x c).written) (next_in x c).written) ≡ true
orders_name_open x c =
    ap (λ (a : Answered). all_of (names_open (λ s. open_by s (heard_in x)) (asker (input_of c.bytes))) (records_in (length a.written) a.written)) (next-is x c).answer
    ∙ ap (all_of (names_open (λ s. open_by s (heard_in x)) (asker (input_of c.bytes))))
    (told_apart (outcome (table_in x) c).records (whole-step (table_in x) (agreed x 0).sound c.bytes (length c.room)))
    ∙ ap (λ (o : ℕ → List ℕ). all_of (names_open o (asker (input_of c.bytes))) (starts (outcome (table_in x) c).records)) same
    ∙ all_in_bytes (table_in x) c.bytes (input_of c.bytes) (outcome (table_in x) c).records (heard_right x c)
  where
    same : (λ (s : ℕ). open_by s (heard_in x)) ≡ waiting (table_in x)
    same i s = (agreed x s).now i

-- Each line of a call is one that its record may say: no other call ends an indication.
pub said_by_its_record : (x : Harness) (c : Lending) → all_of (may_be_said c.bytes) (said_by (next_in x c)) ≡ true
said_by_its_record x c = ap (all_of (may_be_said c.bytes)) (lines-heard x c) ∙ first (outcome (table_in x) c).opened refl
  where
    rest : all_of (may_be_said c.bytes) (map (line_of (input_of c.bytes)) (outcome (table_in x) c).records) ≡ true
    rest = all_lines_lem (table_in x) c.bytes (input_of c.bytes) (outcome (table_in x) c).records (heard_right x c)

    first : (n : ℕ) → (outcome (table_in x) c).opened ≡ n → all_of (may_be_said c.bytes) (opening_lines n ++ map (line_of (input_of c.bytes)) (outcome (table_in x) c).records) ≡ true
    first zero e = rest
    first (suc s) e =
        to_both _ _ (both_of (eqb (get_or c.bytes 0 0) 79) _ ((orderly state_rows (table_in x) c.bytes (length c.room)).token s ∙ eq-eqb _ _ e)).0 rest
