-- Adding a PPA, opening and closing: refusals 9 and 3, and what a close tells the line.
use Rattle.std.specs.Prelude.{ℕ, List, [], ◌∷◌, map, length, ltb, leb}
use Rattle.ledger.specs.Choice.{◌⇒◌∣◌}
use Rattle.paper.specs.Base.{stream_total, most_ppas, is_in, is_among, calling_states, Slot, closed, just_opened, Table, slot, lowest_free, knows, with_slot, with_ppa, remembering}
use Rattle.paper.specs.RecordsOut.{Record, order}
use Rattle.paper.specs.Refusals.{all_open, no_new_ppa, Outcome, refused, served, served_opening}
use Rattle.paper.specs.declared.PpaNumber.{PpaNumber}
use Rattle.paper.specs.declared.LineOrder.TheVariants as line_order

-- G after any opening, or a ninth PPA, or a number already there
unfoldable pub adds_ppa : Table → PpaNumber → List ℕ → Outcome
adds_ppa t p mac =
    t.remembers ⇒ refused t no_new_ppa
    ∣ leb most_ppas (length t.ppas) ⇒ refused t no_new_ppa
    ∣ knows t p ⇒ refused t no_new_ppa
    ∣ served (with_ppa t (record { number = p; mac = mac })) []

-- O: the lowest free stream, unless all 16 are open
unfoldable pub opens : Table → Outcome
opens t =
    ltb (lowest_free t) stream_total ⇒ served_opening (with_slot (remembering t) (lowest_free t) just_opened) (lowest_free t)
    ∣ refused t all_open

-- a d with reason 0
abbrev pub goodbye : ℕ → ℕ → Record
goodbye i n = order i (line_order.Disconnect (record { 0 = n }) 0) []

-- Close writes a d with reason 0: from 8, 11, 12, 13 one with correlation 0, from 9 one for each open indication with
-- its number, oldest first.
unfoldable pub goodbyes : ℕ → Slot → List Record
goodbyes i x =
    is_in 9 x.stream ⇒ map (goodbye i) x.waiting
    ∣ is_among calling_states x.stream ⇒ goodbye i 0 ∷ []
    ∣ []

unfoldable pub closes : Table → ℕ → Outcome
closes t i = served (with_slot t i closed) (goodbyes i (slot t i))
