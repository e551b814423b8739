-- How much stands behind the fields of a reply: an address has the bytes of a MAC and one or two more, and an event's record has two
-- addresses at most.
use Prim.Native.Nat.{ℕ, ◌≤◌}
use native.Mathlib.Omega.{arith}
use mathlib.Core.Path.{◌≡◌}
use mathlib.Core.List.{List, []}
use lib.ListN.{length, replicate, length-append}
use lib.Dec.{ltb}
use Rattle.ledger.specs.Choice.{pick}
use Rattle.ledger.proofs.Tallies.{picked}
use Rattle.paper.specs.Base.{mac_size, address_size, most_address, length_of, is_among, told_states}
use Rattle.paper.specs.RecordsIn.{called_in, calling_in}
use Rattle.paper.specs.Replies.{most_tail, sap_bytes, address_of, info_tail}
use Rattle.paper.specs.Effects.{behind_reply}
use Rattle.paper.specs.declared.Form.{Form}
use Rattle.paper.specs.declared.Form.TheVariants.{WithSap, WithType}
use Rattle.paper.specs.declared.Stream.{Stream}
use Rattle.paper.specs.declared.Reply.{Reply}
use Rattle.paper.specs.declared.Reply.TheVariants as reply
use Rattle.octets.specs.Runs.{part}
use Rattle.octets.specs.Blocks.{pad_to}
use Rattle.octets.proofs.Runs.{part-most}
use Rattle.octets.proofs.Blocks.{pad-length}

sap-most : (sap : ℕ) → length (sap_bytes sap) ≤ 2
sap-most sap = picked (λ (l : List ℕ). length l ≤ 2) (ltb sap 256) _ _ (λ e. omega arith) (λ e. omega arith)

-- an address has at most the bytes of its form, and the field of eight that it is written in has eight
pub form_most : (form : Form) → length_of form ≤ most_address
form_most WithSap = omega arith
form_most WithType = omega arith

-- and at least a MAC
pub form_least : (form : Form) → mac_size ≤ length_of form
form_least WithSap = omega arith
form_least WithType = omega arith

pub address_field : (b : List ℕ) (at : ℕ) (form : Form) → length (pad_to most_address (part b at (length_of form))) ≡ most_address
address_field b at form = pad-length most_address (part b at (length_of form)) (omega (arith, part-most b at (length_of form), form_most form))

module _ (mac : List ℕ) (six : length mac ≡ mac_size) where
  address_most : (sap : ℕ) → length (address_of mac sap) ≤ most_address
  unfolding address_of
  address_most sap = omega (arith, six, length-append mac (sap_bytes sap), sap-most sap)

  info_most : (s : Stream) → length (info_tail mac s) ≤ most_tail
  unfolding info_tail
  info_most s =
      let told : List ℕ = pick (is_among told_states s) (address_of mac s.sap) [] in
      let most : length told ≤ most_address = picked (λ (l : List ℕ). length l ≤ most_address) (is_among told_states s) (address_of mac s.sap) [] (λ z. address_most s.sap) (λ z. omega arith) in
      omega (arith, length-append told (replicate mac_size 0xff), most)

  pub tail_most : (m : List ℕ) (r : Reply) → length (behind_reply mac m r) ≤ most_tail
  unfolding behind_reply
  tail_most m (reply.InfoAck s) = info_most s
  tail_most m (reply.BindAck sap granted) = omega (arith, address_most sap)
  tail_most m (reply.ErrorAck code error) = omega arith
  tail_most m (reply.OkAck code) = omega arith
  tail_most m (reply.ConnectInd n) = omega (arith, length-append (called_in m) (calling_in m), part-most m 5 address_size, part-most m 12 address_size)
  tail_most m reply.ConnectCon = omega (arith, part-most m 2 address_size)
  tail_most m (reply.TokenAck k) = omega arith
  tail_most m (reply.DisconnectInd reason n) = omega arith
  tail_most m (reply.ResetInd reason) = omega arith
  tail_most m reply.ResetCon = omega arith
  tail_most m (reply.UderrorInd error) = omega arith
