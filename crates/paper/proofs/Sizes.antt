-- A reply has the size that the paper's table gives: each field takes four bytes, and the addresses that a size counts
-- make up the rest.
use Prim.Native.Nat.{ℕ, ◌+◌, ◌*◌, ◌≤◌}
use native.Mathlib.Omega.{arith}
use mathlib.Core.Path.{◌≡◌, refl}
use mathlib.Core.Bool.{Bool, false}
use mathlib.Core.List.{List, ◌++◌}
use lib.ListN.{length}
use Rattle.ledger.proofs.Tallies.{picked, chosen}
use Rattle.octets.specs.Blocks.{block_size, flat}
use Rattle.octets.proofs.Blocks.{content_length, pad-length}
use Rattle.paper.specs.Base.{is_among, told_states}
use Rattle.paper.specs.RecordsIn.{message_size}
use Rattle.paper.specs.RecordsOut.{start_size, size_out, up, unitdata, message_bytes, bytes_of}
use Rattle.paper.specs.Replies.{info_of, fields_of, unitdata_fields, content_of, goes_as_c, reply_size, address_bytes}
use Rattle.paper.specs.declared.Form.{Form}
use Rattle.paper.specs.declared.Stream.{Stream}
use Rattle.paper.specs.declared.Reply.{Reply}
use Rattle.paper.specs.declared.Reply.TheVariants.{InfoAck, BindAck, ErrorAck, OkAck, ConnectInd, ConnectCon, TokenAck, DisconnectInd, ResetInd, ResetCon, UderrorInd}

-- unbound and bound, INFO_ACK has its 18 fields
info_length : (s : Stream) → length (info_of s) ≡ 18
unfolding info_of
info_length s = picked (λ (l : List ℕ). length l ≡ 18) (is_among told_states s) _ _ (λ e. refl) (λ e. refl)

-- INFO_ACK has the most fields
pub fields_few : (r : Reply) → length (fields_of r) ≤ 19
fields_few (InfoAck q) = omega (arith, info_length q)
fields_few (BindAck sap granted) = omega arith
fields_few (ErrorAck code error) = omega arith
fields_few (OkAck code) = omega arith
fields_few (ConnectInd n) = omega arith
fields_few ConnectCon = omega arith
fields_few (TokenAck k) = omega arith
fields_few (DisconnectInd reason n) = omega arith
fields_few (ResetInd reason) = omega arith
fields_few ResetCon = omega arith
fields_few (UderrorInd error) = omega arith

-- the fields, and the addresses that the size counts
fields_size : (r : Reply) → length (fields_of r) * 4 + address_bytes r ≡ reply_size r
fields_size (InfoAck s) = omega (arith, info_length s)
fields_size (BindAck sap granted) = refl
fields_size (ErrorAck code error) = refl
fields_size (OkAck code) = refl
fields_size (ConnectInd n) = refl
fields_size ConnectCon = refl
fields_size (TokenAck k) = refl
fields_size (DisconnectInd reason n) = refl
fields_size (ResetInd reason) = refl
fields_size ResetCon = refl
fields_size (UderrorInd error) = refl

-- L is the size and the bytes beyond it: what stands behind the fields, less the addresses that the size counts
pub reply_size_lem : (r : Reply) (tail : List ℕ) → length (content_of r tail) + address_bytes r ≡ reply_size r + length tail
unfolding content_of
reply_size_lem r tail = omega (arith, content_length (fields_of r) tail, fields_size r)

-- a record out has at least its kind and its stream, and at most what a message has
pub size-within : (k : ℕ) → (start_size ≤ size_out k) × (size_out k ≤ message_size)
unfolding size_out
size-within k =
    chosen fits _ _ _ (λ e. omega arith)
    (λ e. chosen fits _ _ _ (λ e. omega arith) (λ e. chosen fits _ _ _ (λ e. omega arith) (λ e. chosen fits _ _ _ (λ e. omega arith)
    (λ e. chosen fits _ _ _ (λ e. omega arith) (λ e. chosen fits _ _ _ (λ e. omega arith) (λ e. omega arith))))))
  where
    fits : ℕ → Type 0
    fits n = (start_size ≤ n) × (n ≤ message_size)

-- a message whose fields and addresses fit the block has its size: a reply,
message-size : (as_c : Bool) (i : ℕ) (fields tail : List ℕ) → length fields * 4 + length tail ≤ block_size → length (message_bytes as_c i (flat fields ++ tail)) ≡ message_size
message-size as_c i fields tail h = omega (arith, pad-length block_size (flat fields ++ tail) (omega (arith, content_length fields tail)))

pub up-size : (i : ℕ) (r : Reply) (tail : List ℕ) → length (fields_of r) * 4 + length tail ≤ block_size → length (bytes_of (up i r tail)) ≡ message_size
unfolding content_of
up-size i r tail h = message-size (goes_as_c r) i (fields_of r) tail h

-- and a UNITDATA_IND
pub unitdata-size : (i : ℕ) (form : Form) (addresses : List ℕ) → length (unitdata_fields form) * 4 + length addresses ≤ block_size
    → length (bytes_of (unitdata i form addresses)) ≡ message_size
unitdata-size i form addresses h = message-size false i (unitdata_fields form) addresses h
