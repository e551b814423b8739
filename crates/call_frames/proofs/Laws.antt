-- The tests of a stream in the order in which they are asked, and the bytes of an indication: its head, the block that is the same for all,
-- and its M.
use Prim.Native.Nat.{ℕ, ◌+◌, ◌*◌, ◌≤◌}
use native.Mathlib.Omega.{arith}
use mathlib.Core.Path.{◌≡◌, sym, ap, ◌∙◌}
use mathlib.Core.Bool.{true, false}
use mathlib.Core.List.{List, [], ◌∷◌, ◌++◌}
use lib.ListN.{length, take}
use lib.Dec.{eqb}
use Rattle.ledger.specs.Choice.{both, ◌⇒◌∣◌}
use Rattle.ledger.proofs.Tallies.{both_none}
use Rattle.ledger.proofs.Lists.{joined_append}
use Rattle.octets.specs.Blocks.{flat, block_size}
use Rattle.octets.proofs.Blocks.{pad-length}
use Rattle.octets.specs.Runs.{same_bytes}
use Rattle.paper.specs.Base.{Slot, Table, stream_total, mac_size, length_of, mac_of}
use Rattle.paper.specs.RecordsIn.{size_of, frame_called_in, frame_calling_in, frame_data_in}
use Rattle.paper.specs.RecordsOut.{unitdata, datum, bytes_of, all_bytes}
use Rattle.paper.specs.Replies.{unitdata_fields}
use Rattle.paper.specs.Datagrams.{is_for, is_shown, shown_below, shown_to, indication, indications}
use Rattle.paper.specs.StateRows.{state_rows, frame_arrives, found, is_found}
use Rattle.paper.specs.declared.Frame.{Frame}
use Rattle.paper.specs.declared.Kind.TheVariants as kind
use Rattle.paper.proofs.RecordsOut.{two_records}
use Rattle.paper.proofs.Frames.{indication-long}
use Rattle.paper.proofs.Tails.{form_most}
use Rattle.call_frames.specs.Showing.{block_of}

-- ---- who is shown a frame: an open stream that it is for

-- one bound to another SAP is not
pub other_sap : (f : Frame) (x : Slot) → eqb x.stream.sap f.sap ≡ false → false ≡ is_shown state_rows f x
unfolding is_shown is_for
other_sap f x e =
    sym (rw e (ap (both x.is_open) (ap (both (is_found (found state_rows x.stream frame_arrives))) (both_none (eqb x.stream.ppa.0 f.ppa.0))
    ∙ both_none (is_found (found state_rows x.stream frame_arrives))) ∙ both_none x.is_open))

-- nobody where the called MAC is another; else those of all the streams
pub not_called : (t : Table) (r : List ℕ) (f : Frame) → same_bytes (take mac_size (frame_called_in r f.form)) (mac_of t f.ppa) ≡ false → [] ≡ shown_to state_rows t r f
unfolding shown_to ◌⇒◌∣◌
not_called t r f e = rw e

pub called : (t : Table) (r : List ℕ) (f : Frame) → same_bytes (take mac_size (frame_called_in r f.form)) (mac_of t f.ppa) ≡ true
    → shown_below state_rows t f stream_total ≡ shown_to state_rows t r f
unfolding shown_to ◌⇒◌∣◌
called t r f e = rw e

-- ---- the indications

-- those to some streams, and then to others
pub shown_append : (r : List ℕ) (f : Frame) (a b : List ℕ) → all_bytes (indications r f a) ++ all_bytes (indications r f b) ≡ all_bytes (indications r f (a ++ b))
shown_append r f a b = sym (ap all_bytes (joined_append (indication r f) a b) ∙ joined_append bytes_of (indications r f a) (indications r f b))

module _ (r : List ℕ) (f : Frame) (whole : size_of kind.Frame ≤ length r) where
  pub block_size_lem : length (block_of r f.form) ≡ block_size
  block_size_lem = pad-length block_size (flat (unitdata_fields f.form) ++ frame_called_in r f.form ++ frame_calling_in r f.form) (omega (arith, indication-long r f whole, form_most f.form))

  -- one, to stream i
  pub one_indication : (i size : ℕ) (block body : List ℕ) → size ≡ 24 + 2 * length_of f.form → block ≡ block_of r f.form → body ≡ frame_data_in r
      → (80 ∷ i ∷ size ∷ []) ++ block ++ bytes_of (datum i body) ≡ all_bytes (indications r f (i ∷ []))
  one_indication i size block body l b d =
      let count : size ≡ length (flat (unitdata_fields f.form) ++ frame_called_in r f.form ++ frame_calling_in r f.form) = omega (arith, l, indication-long r f whole) in
      rw (count, b, d) (two_records (unitdata i f.form (frame_called_in r f.form ++ frame_calling_in r f.form)) (datum i (frame_data_in r)))
