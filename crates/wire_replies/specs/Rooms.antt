-- What the writers of the records out ask of what they are lent: that it fits the record, and the record the room.
use Rattle.std.specs.Prelude.{ℕ, ◌+◌, ◌*◌, ◌≤◌, ◌≡◌, List, [], ◌∷◌, ◌++◌, length}
use Rattle.octets.specs.Blocks.{block_size, pad}
use Rattle.paper.specs.Base.{address_size, most_address, length_of}
use Rattle.paper.specs.RecordsIn.{message_size, body_size, data_size, pair_size}
use Rattle.paper.specs.RecordsOut.{connect_size, unitdata_size}
use Rattle.paper.specs.Replies.{sap_length, most_tail}
use Rattle.paper.specs.declared.Form.{Form}

-- an address that a connect names
pub record Calls (called room : List ℕ) : Type 0 where
  pub short : length called ≤ address_size
  pub roomy : connect_size ≤ length room

-- an address of a form that a datagram names
pub record Sends (form : Form) (address room : List ℕ) : Type 0 where
  pub short : length address ≤ length_of form
  pub roomy : unitdata_size ≤ length room

-- a length and data that an M carries
pub record Carries (body room : List ℕ) : Type 0 where
  pub short : length body ≤ body_size
  pub roomy : data_size ≤ length room

-- fields, and bytes behind them, in one block
pub record InBlock (fields tail room : List ℕ) : Type 0 where
  pub within : length fields * 4 + length tail ≤ block_size
  pub roomy : message_size ≤ length room

-- bytes behind the fields of any message up
pub record Behind (tail room : List ℕ) : Type 0 where
  pub short : length tail ≤ most_tail
  pub roomy : message_size ≤ length room

-- and those of INFO_ACK, which says how long the address is
pub record BehindInfo (address : ℕ) (tail room : List ℕ) : Type 0 where
  pub brief : address ≤ most_address
  pub behind : Behind tail room

-- called and calling of a form
pub record Addressed (form : Form) (called calling : List ℕ) : Type 0 where
  pub callable : length called ≤ length_of form
  pub answerable : length calling ≤ length_of form

-- the block of a UNITDATA_IND, and what its M carries
pub record Indicates (block body room : List ℕ) : Type 0 where
  pub whole : length block ≡ block_size
  pub short : length body ≤ body_size
  pub roomy : pair_size ≤ length room

-- a message up under a letter
abbrev pub message_under : ℕ → ℕ → List ℕ → List ℕ
message_under letter s content = (letter ∷ s ∷ length content ∷ []) ++ pad content
