-- 'What the base serves': the streams, the PPAs, the table.
use Rattle.std.specs.Prelude.{ℕ, suc, ◌+◌, Bool, true, false, not, List, [], ◌∷◌, ◌++◌, map, get_or, set, replicate, eqb, ltb}
use Rattle.ledger.specs.Choice.{pick, ◌⇒◌∣◌}
use Rattle.ledger.specs.Tally.{has, first_of}
use Rattle.paper.specs.declared.State.{State}
use Rattle.paper.specs.declared.State.TheVariants.{Unattached, Unbound, Idle, OutconPending, InconPending, DataXfer, UserResetPending, ProvResetPending}
use Rattle.paper.specs.declared.Form.{Form}
use Rattle.paper.specs.declared.Form.TheVariants.{WithSap, WithType}
use Rattle.paper.specs.declared.Stream.{Stream}
use Rattle.paper.specs.declared.PpaNumber.{PpaNumber}
use Rattle.paper.specs.declared.Ppa.{Ppa}
use Rattle.paper.specs.declared.Token.{Token}

-- The states that stand between calls, by their numbers in the manual's state table. Every acknowledgement is given
-- inside the call that asks, so the states that only wait for one are not among them.
abbrev pub number_of : State → ℕ
number_of Unattached = 0
number_of Unbound = 3
number_of Idle = 6
number_of OutconPending = 8
number_of InconPending = 9
number_of DataXfer = 11
number_of UserResetPending = 12
number_of ProvResetPending = 13

-- The state with a number: `Unattached` for a number that is no state's.
unfoldable pub state_of : ℕ → State
state_of n =
    eqb n 3 ⇒ Unbound
    ∣ eqb n 6 ⇒ Idle
    ∣ eqb n 8 ⇒ OutconPending
    ∣ eqb n 9 ⇒ InconPending
    ∣ eqb n 11 ⇒ DataXfer
    ∣ eqb n 12 ⇒ UserResetPending
    ∣ eqb n 13 ⇒ ProvResetPending
    ∣ Unattached

-- Document 02: a state's number in the public DLPI header, for its number in the manual's state table.
unfoldable pub header_number : ℕ → ℕ
header_number n =
    eqb n 3 ⇒ 0  -- unbound
    ∣ eqb n 4 ⇒ 1  -- bind pending
    ∣ eqb n 5 ⇒ 2  -- unbind pending
    ∣ eqb n 6 ⇒ 3  -- idle
    ∣ eqb n 0 ⇒ 4  -- unattached
    ∣ eqb n 1 ⇒ 5  -- attach pending
    ∣ eqb n 2 ⇒ 6  -- detach pending
    ∣ n  -- from 7 on both agree

abbrev pub number : Stream → ℕ
number s = number_of s.state

abbrev pub is_in : ℕ → Stream → Bool
is_in n s = eqb (number s) n

-- ---- the states by what a stream holds in them: definitions ask by these lists, never by the order of the numbers

abbrev pub is_among : List ℕ → Stream → Bool
is_among states s = has (number s) states

-- the states that the paper has
abbrev pub every_state : List ℕ
every_state = 0 ∷ 3 ∷ 6 ∷ 8 ∷ 9 ∷ 11 ∷ 12 ∷ 13 ∷ []

-- a binding
abbrev pub bound_states : List ℕ
bound_states = 6 ∷ 8 ∷ 9 ∷ 11 ∷ 12 ∷ 13 ∷ []

-- a binding that INFO_ACK tells: today the same states
abbrev pub told_states : List ℕ
told_states = bound_states

-- a binding in mode 1 and in no other: the states above 6
abbrev pub connection_states : List ℕ
connection_states = 8 ∷ 9 ∷ 11 ∷ 12 ∷ 13 ∷ []

-- a connection: asked for, up, or being reset
abbrev pub calling_states : List ℕ
calling_states = 8 ∷ 11 ∷ 12 ∷ 13 ∷ []

-- a connection that is up, or being reset
abbrev pub joined_states : List ℕ
joined_states = 11 ∷ 12 ∷ 13 ∷ []

-- A stream that holds nothing: one just opened, or a closed one.
abbrev pub no_stream : Stream
no_stream = record { state = Unattached; mode = 0; sap = 0; ppa = record { 0 = 0 }; granted = 0 }

-- one that is attached, and holds nothing else
abbrev pub attached_in : State → PpaNumber → Stream
attached_in q p = record { state = q; mode = 0; sap = 0; ppa = p; granted = 0 }

-- one with all that it held
abbrev pub in_state : State → Stream → Stream
in_state q s = record { state = q; mode = s.mode; sap = s.sap; ppa = s.ppa; granted = s.granted }

-- A stream that goes to a state holds what that state holds: nothing in 0, its PPA alone where no binding is held,
-- else all that it held.
abbrev pub settled : State → Stream → Stream
settled q s = pick (eqb (number_of q) 0) no_stream (pick (has (number_of q) bound_states) (in_state q s) (attached_in q s.ppa))

-- One of the table's streams: open or not, how it stands, and the numbers of its open indications, oldest first.
pub record Slot : Type 0 where
  pub is_open : Bool
  pub stream : Stream
  pub waiting : List ℕ

abbrev pub closed : Slot
closed = record { is_open = false; stream = no_stream; waiting = [] }

abbrev pub just_opened : Slot
just_opened = record { is_open = true; stream = no_stream; waiting = [] }

-- A table has 16 streams, numbered 0 to 15, and at most 8 PPAs, each with a 4-byte number and a 6-byte MAC.
abbrev pub stream_total : ℕ
stream_total = 16

abbrev pub most_ppas : ℕ
most_ppas = 8

abbrev pub mac_size : ℕ
mac_size = 6

-- an address as c, I and A have it: the MAC, then 1 byte of SAP
abbrev pub address_size : ℕ
address_size = mac_size + 1

-- with 2 bytes of Ethernet type it is the longest
abbrev pub most_address : ℕ
most_address = mac_size + 2

-- So an address has one of two forms: with a SAP or with a type. The form has a length, and a length of 7 or 8 a form.
abbrev pub length_of : Form → ℕ
length_of WithSap = address_size
length_of WithType = most_address

unfoldable pub form_in : ℕ → Form
form_in n = pick (eqb n most_address) WithType WithSap

-- the form of an address that ends in this number
unfoldable pub form_of : ℕ → Form
form_of sap = pick (ltb sap 256) WithSap WithType

-- A table remembers whether a stream was ever opened, and has one counter for correlation numbers.
pub record Table : Type 0 where
  pub remembers : Bool
  pub counter : ℕ
  pub ppas : List Ppa
  pub slots : List Slot

-- A fresh table has neither.
abbrev pub fresh : Table
fresh = record { remembers = false; counter = 1; ppas = []; slots = replicate stream_total closed }

-- The stream with a number. Past the table's end there is none that is open.
abbrev pub slot : Table → ℕ → Slot
slot t i = get_or t.slots i closed

abbrev pub stream : Table → ℕ → Stream
stream t i = (slot t i).stream

abbrev pub waiting : Table → ℕ → List ℕ
waiting t i = (slot t i).waiting

-- Opening takes the lowest free stream; a closed stream is free again. (16 where none is free.)
unfoldable pub lowest_free : Table → ℕ
lowest_free t = first_of (λ (x : Slot). not x.is_open) t.slots

-- A stream's token is its number plus 1.
abbrev pub token_of : ℕ → Token
token_of i = record { 0 = suc i }

-- The PPAs: their numbers, whether one is there, its MAC.
abbrev pub ppa_numbers : Table → List ℕ
ppa_numbers t = map (λ (p : Ppa). p.number.0) t.ppas

unfoldable pub knows : Table → PpaNumber → Bool
knows t p = has p.0 (ppa_numbers t)

abbrev pub no_ppa : Ppa
no_ppa = record { number = record { 0 = 0 }; mac = replicate mac_size 0 }

unfoldable pub mac_of : Table → PpaNumber → List ℕ
mac_of t p = (get_or t.ppas (first_of (λ (q : Ppa). eqb q.number.0 p.0) t.ppas) no_ppa).mac

-- the MAC of the PPA that stream i is attached to
abbrev pub mac_at : Table → ℕ → List ℕ
mac_at t i = mac_of t (stream t i).ppa

-- ---- the table with one thing changed
unfoldable pub with_slot : Table → ℕ → Slot → Table
with_slot t i x = record { remembers = t.remembers; counter = t.counter; ppas = t.ppas; slots = set t.slots i x }

-- a stream and its open numbers
unfoldable pub with_numbers : Table → ℕ → Stream → List ℕ → Table
with_numbers t i s w = with_slot t i (record { is_open = (slot t i).is_open; stream = s; waiting = w })

-- a stream alone
unfoldable pub with_stream : Table → ℕ → Stream → Table
with_stream t i s = with_numbers t i s (waiting t i)

unfoldable pub with_counter : Table → ℕ → Table
with_counter t n = record { remembers = t.remembers; counter = n; ppas = t.ppas; slots = t.slots }

unfoldable pub with_ppa : Table → Ppa → Table
with_ppa t p = record { remembers = t.remembers; counter = t.counter; ppas = t.ppas ++ (p ∷ []); slots = t.slots }

-- the table remembers an opening
unfoldable pub remembering : Table → Table
remembering t = record { remembers = true; counter = t.counter; ppas = t.ppas; slots = t.slots }
