-- 'Messages', the ones from a user: codes, fields and sizes. L may exceed the fixed size.
use Rattle.std.specs.Prelude.{ℕ, ◌+◌, List, [], ◌∷◌, length, get_or, eqb, ltb, Err, Ok, Result}
use Rattle.ledger.specs.Choice.{◌⇒◌∣◌}
use Rattle.ledger.specs.Tally.{has}
use Rattle.octets.specs.Numbers.{be16_at, be32_at}
use Rattle.paper.specs.Base.{mac_size, form_in}
use Rattle.paper.specs.RecordsIn.{sap_at}
use Rattle.paper.specs.declared.Primitive.{Primitive}
use Rattle.paper.specs.declared.Primitive.TheVariants as primitive
use Rattle.paper.specs.declared.Request.{Request}
use Rattle.paper.specs.declared.Request.TheVariants as request
use Rattle.paper.specs.declared.Rule.TheVariants as rule
use Rattle.paper.specs.declared.Rule.{Rule}

abbrev pub code_in : List ℕ → ℕ
code_in m = be32_at m 0

-- The codes that step 1 of the order of errors answers with NOTSUPPORTED. (Document 02: a code once served leaves the list,
-- as 0x07 did.)
abbrev pub not_supported_codes : List ℕ
not_supported_codes = 0x0a ∷ 0x15 ∷ 0x1b ∷ 0x1d ∷ 0x1e ∷ 0x1f ∷ 0x20 ∷ []

unfoldable pub other_code : ℕ → Primitive
other_code code = has code not_supported_codes ⇒ primitive.NotSupported ∣ primitive.NotServed

unfoldable pub primitive_of : ℕ → Primitive
primitive_of code =
    eqb code 0x00 ⇒ primitive.Info
    ∣ eqb code 0x0b ⇒ primitive.Attach
    ∣ eqb code 0x0c ⇒ primitive.Detach
    ∣ eqb code 0x02 ⇒ primitive.Unbind
    ∣ eqb code 0x01 ⇒ primitive.Bind
    ∣ eqb code 0x0d ⇒ primitive.Connect
    ∣ eqb code 0x0f ⇒ primitive.ConnectRes
    ∣ eqb code 0x11 ⇒ primitive.Token
    ∣ eqb code 0x13 ⇒ primitive.Disconnect
    ∣ eqb code 0x17 ⇒ primitive.Reset
    ∣ eqb code 0x19 ⇒ primitive.ResetRes
    ∣ eqb code 0x07 ⇒ primitive.Unitdata
    ∣ other_code code

-- L under the size is a rule of step 1 that fails.
unfoldable pub sized : ℕ → List ℕ → Request → Result Request Rule
sized size m q = ltb (length m) size ⇒ Err rule.TooShort ∣ Ok q

-- The fields after the code, and the size. Growth and QOS offset are not read.
abbrev pub read_as : Primitive → List ℕ → Result Request Rule
read_as primitive.Info m = sized 4 m request.Info
read_as primitive.Attach m = sized 8 m (request.Attach (record { 0 = be32_at m 4 }))
read_as primitive.Detach m = sized 4 m request.Detach
read_as primitive.Unbind m = sized 4 m request.Unbind
read_as primitive.Bind m =
    sized 20 m
    (request.Bind (record { sap = be32_at m 4; most = be32_at m 8; mode = be16_at m 12; management = be16_at m 14; xidtest = be32_at m 16 }))
read_as primitive.Connect m =
    sized 24 m
    (request.Connect (record { length = be32_at m 4; offset = be32_at m 8; qos = be32_at m 12; size = length m; last = get_or m (be32_at m 8 + mac_size) 0 }))
read_as primitive.ConnectRes m =
    sized 24 m (request.ConnectRes (record { correlation = record { 0 = be32_at m 4 }; token = record { 0 = be32_at m 8 }; qos = be32_at m 12 }))
read_as primitive.Token m = sized 4 m request.Token
read_as primitive.Disconnect m = sized 12 m (request.Disconnect (record { reason = be32_at m 4; correlation = record { 0 = be32_at m 8 } }))
read_as primitive.Reset m = sized 4 m request.Reset
read_as primitive.ResetRes m = sized 4 m request.ResetRes
-- document 02: address length, address offset, priority (two fields, not read)
read_as primitive.Unitdata m =
    sized 20 m
    (request.Unitdata (record { length = be32_at m 4; offset = be32_at m 8; size = length m; sap = sap_at m (form_in (be32_at m 4)) (be32_at m 8 + mac_size) }))
read_as primitive.NotSupported m = Err rule.NotSupported
read_as primitive.NotServed m = Err rule.NotServed

-- Step 1 of the order of errors: what a message of at least four bytes asks for.
unfoldable pub asked_by : List ℕ → Result Request Rule
asked_by m = read_as (primitive_of (code_in m)) m
