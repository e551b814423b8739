-- The bytes of the SAP go right behind the MAC: one under 256, else the two of an Ethernet type.
use borrow.Author.Rules.{rules}
use Prim.Native.Nat.{ℕ, ◌+◌, ◌≤◌}
use native.Mathlib.Omega.{arith}
use mathlib.Core.Path.{◌≡◌, refl}
use mathlib.Core.List.{List, [], ◌∷◌}
use lib.ListN.{length}
use borrow.Author.Tests.{lt-ltb, le-ltb}
use Rattle.octets.specs.Numbers.{be16}
use Rattle.octets.specs.Runs.{paste}
use Rattle.octets.specs.Writing.{WroteMost}
use Rattle.octets.proofs.Writing.{wrote_put, wrote-most}
use Rattle.paper.specs.Base.{mac_size, most_address}
use Rattle.paper.specs.Replies.{sap_bytes, address_of}
use Rattle.wire_replies.proofs.put_address.Goals as goal

-- the MAC, then the bytes of the SAP behind it
written : (mac room : List ℕ) (sap : ℕ) {n : ℕ} {b x y : List ℕ} → length mac ≡ mac_size → sap_bytes sap ≡ b → n ≡ mac_size + length b
    → n ≤ most_address → x ≡ paste room 0 mac → y ≡ paste x mac_size b
    → WroteMost most_address (address_of mac sap) 0 n room y
unfolding address_of
written mac room sap {b = b} h es en most ex ey =
    rw es (wrote-most (omega arith) (wrote_put mac b (omega arith) (record { ends = omega arith; stands = ex }) ey en))

pub returns-then-sap-lt256 : goal.returns-then-sap-lt256
returns-then-sap-lt256 c =
    let a = c.args in
    let sap : sap_bytes a.sap ≡ a.sap ∷ [] = rw (lt-ltb _ _ c.if-sap-lt256.true) in
    written a.mac a.room.now a.sap (search rules) sap refl (omega arith) c.put_bytes.ensures c.put_bytes-then-sap-lt256.ensures

pub returns : goal.returns
returns c =
    let a = c.args in
    let sap : sap_bytes a.sap ≡ be16 a.sap = rw (le-ltb _ _ c.if-sap-lt256.false) in
    written a.mac a.room.now a.sap (search rules) sap refl (omega arith) c.put_bytes.ensures c.put_number.ensures
