-- Document 02, connectionless traffic: the tests of a datagram's address, and the streams that a frame comes to.
use Rattle.std.specs.Prelude.{ℕ, zero, suc, ◌+◌, Bool, not, List, [], ◌∷◌, ◌++◌, take, eqb, ltb, Err, Ok, Result}
use Rattle.ledger.specs.Choice.{pick, both, ◌⇒◌∣◌}
use Rattle.ledger.specs.Lists.{joined}
use Rattle.octets.specs.Runs.{same_bytes}
use Rattle.paper.specs.Base.{stream_total, mac_size, length_of, form_of, Slot, Table, slot, knows, mac_of}
use Rattle.paper.specs.RecordsIn.{most_data, frame_called_in, frame_calling_in, frame_data_in}
use Rattle.paper.specs.RecordsOut.{Record, unitdata, datum}
use Rattle.paper.specs.Refusals.{over_long, nobody_there, Outcome, refused, served}
use Rattle.paper.specs.Saps.{is_sap, is_type}
use Rattle.paper.specs.StateRows.{frame_arrives, found, is_found}
use Rattle.paper.specs.declared.Stream.{Stream}
use Rattle.paper.specs.declared.StateRow.{StateRow}
use Rattle.paper.specs.declared.UnitdataRequest.{UnitdataRequest}
use Rattle.paper.specs.declared.Frame.{Frame}
use Rattle.paper.specs.declared.Form.{Form}
use Rattle.paper.specs.declared.Form.TheVariants.{WithSap, WithType}
use Rattle.paper.specs.declared.Rule.TheVariants as rule
use Rattle.paper.specs.declared.Service.TheVariants as service
use Rattle.paper.specs.declared.Rule.{Rule}
use Rattle.paper.specs.declared.Service.{Service}

-- ---- a datagram

-- a SAP that a bind could take: in that form one byte is a SAP, two bytes are a type
unfoldable pub could_be_bound : Form → ℕ → Bool
could_be_bound WithSap sap = is_sap sap
could_be_bound WithType sap = is_type sap

-- BADADDR: not the stream's own form, offset under 20, outside the message (the sum does not wrap), or a SAP no bind could
-- take.
unfoldable pub judge_datagram : Stream → UnitdataRequest → Result Service Rule
judge_datagram s u =
    not (eqb u.length (length_of (form_of s.sap))) ⇒ Err rule.DatagramLength
    ∣ ltb u.offset 20 ⇒ Err rule.DatagramTooEarly
    ∣ ltb u.size (u.offset + u.length) ⇒ Err rule.DatagramTooLate
    ∣ not (could_be_bound (form_of s.sap) u.sap) ⇒ Err rule.DatagramSapNotAllowed
    ∣ Ok (service.Unitdata u.offset (form_of s.sap))

-- ---- a frame

-- Each mode 2 stream of that PPA bound to its SAP: one with a state row for frames, bound to that number in that form.
unfoldable pub is_for : List StateRow → Frame → Stream → Bool
is_for rows f s =
    both (is_found (found rows s frame_arrives))
    (both (eqb s.ppa.0 f.ppa.0) (both (eqb s.sap f.sap) (eqb (length_of (form_of s.sap)) (length_of f.form))))

unfoldable pub is_shown : List StateRow → Frame → Slot → Bool
is_shown rows f x = both x.is_open (is_for rows f x.stream)

-- of the first n streams those that it is shown to, in stream order
abbrev pub shown_below : List StateRow → Table → Frame → ℕ → List ℕ
shown_below rows t f zero = []
shown_below rows t f (suc n) = shown_below rows t f n ++ pick (is_shown rows f (slot t n)) (n ∷ []) []

-- a called MAC that isn't the PPA's, or nobody bound, means no record
unfoldable pub shown_to : List StateRow → Table → List ℕ → Frame → List ℕ
shown_to rows t r f = same_bytes (take mac_size (frame_called_in r f.form)) (mac_of t f.ppa) ⇒ shown_below rows t f stream_total ∣ []

-- one indication with its M
abbrev pub indication : List ℕ → Frame → ℕ → List Record
indication r f i =
    unitdata i f.form (frame_called_in r f.form ++ frame_calling_in r f.form) ∷ datum i (frame_data_in r) ∷ []

abbrev pub indications : List ℕ → Frame → List ℕ → List Record
indications r f streams = joined (indication r f) streams

-- 5 for data over 64; 7 for a frame on an unknown PPA
unfoldable pub frames : List StateRow → Table → List ℕ → Frame → Outcome
frames rows t r f =
    ltb most_data f.bytes ⇒ refused t over_long
    ∣ not (knows t f.ppa) ⇒ refused t nobody_there
    ∣ served t (indications r f (shown_to rows t r f))
