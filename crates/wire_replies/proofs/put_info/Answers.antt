-- Whether INFO_ACK tells the binding is tested by the stream's state, as the paper has it, so either way the fields are the
-- stream's own.
use Prim.Native.Nat.{ℕ, ◌+◌, ◌-◌, ◌^◌}
use native.Mathlib.Omega.{arith}
use mathlib.Core.Path.{◌≡◌, sym, ap, ◌∙◌}
use mathlib.Core.Bool.{true}
use mathlib.Core.List.{List, ◌∷◌, ◌++◌}
use Rattle.octets.specs.Blocks.{flat}
use Rattle.octets.proofs.Writing.{wrote-same}
use Rattle.paper.specs.Base.{mac_size}
use Rattle.paper.specs.Replies.{sap_length, info_fields, info_of, content_of}
use Rattle.paper.specs.RecordsOut.{up, bytes_of, message_bytes}
use Rattle.paper.specs.declared.Reply.TheVariants.{InfoAck}
use Rattle.paper.specs.declared.Stream.{Stream}
use Rattle.wire_replies.proofs.put_info.Goals as goal

-- a message with the fields of a stream is its INFO_ACK
told : (s : ℕ) (q : Stream) (tail : List ℕ) {fields : List ℕ} → fields ≡ info_of q
    → message_bytes true s (flat (3 ∷ fields) ++ tail) ≡ bytes_of (up s (InfoAck q) tail)
unfolding content_of
told s q tail e = ap (λ (f : List ℕ). message_bytes true s (flat (3 ∷ f) ++ tail)) e

pub returns-then-not-is_told : goal.returns-then-not-is_told
unfolding info_of
returns-then-not-is_told c =
    let bound = c.is_told in
    let state = c.shown_state-state in
    let a = c.args in
    let e : info_fields state.result 0 0 3 0 ≡ info_of a.q =
    simp (sym bound.ensures ∙ c.if-not-is_told.true, state.ensures) in
    wrote-same (told a.s a.q a.tail.now e) c.put_info_fields.ensures

pub returns : goal.returns
unfolding info_of
returns c =
    let size = c.sap_length-size in
    let bound = c.is_told in
    let state = c.shown_state-state in
    let a = c.args in
    let known : size.result ≡ sap_length a.q.sap = size.ensures.is in
    let minus : 4294967295 - sap_length a.q.sap + 1 ≡ 2 ^ 32 - sap_length a.q.sap = omega arith in
    let e : info_fields state.result (mac_size + size.result) (4294967295 - size.result + 1) a.q.mode 76 ≡ info_of a.q =
    simp (sym bound.ensures ∙ c.if-not-is_told.false, state.ensures, known, minus) in
    wrote-same (told a.s a.q a.tail.now e) c.put_info_fields-2.ensures
