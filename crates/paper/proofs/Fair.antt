-- What the order of errors has shown of a request: of one that it serves, the opposite of each rule; of one that a rule fails, that this
-- rule applies. One walk of the order, for whoever needs it.
use Rattle.std.proofs.Common.{Err, Ok, Result, Some}
use Prim.Native.Nat.{ℕ, suc, ◌+◌, ◌-◌, ◌%◌, ◌≤◌, ◌<◌, min}
use native.Mathlib.Omega.{arith}
use mathlib.Core.Path.{◌≡◌, refl, sym}
use mathlib.Core.Bool.{Bool, true, false, false≢true}
use mathlib.Core.List.{List}
use lib.ListN.{length}
use lib.Dec.{eqb, ltb, leb}
use borrow.Author.Tests.{eqb-true, eqb-false, ltb-true, ltb-false, le-leb, not-true, not-false}
use Rattle.ledger.specs.Choice.{pick, both, either, ◌⇒◌∣◌}
use Rattle.ledger.specs.Tally.{has}
use Rattle.ledger.proofs.Tallies.{picked, chosen, either_no}
use Rattle.paper.specs.Base.{length_of, form_of, is_in, Table, slot, stream, waiting, knows, address_size}
use Rattle.paper.specs.Saps.{is_sap, is_type, grant_of, as_bind_allows, is_listened_for, most_open}
use Rattle.paper.specs.Messages.{code_in, primitive_of, other_code, sized, read_as, asked_by}
use Rattle.paper.specs.StateRows.{info_req, bind_req, unbind_req, attach_req, detach_req, connect_req, connect_res, token_req, disconnect_req, reset_req, reset_res, unitdata_req}
use Rattle.paper.specs.Sight.{request_asks, carrier_of, answer_to, sight_by, carrier_at}
use Rattle.paper.specs.Datagrams.{could_be_bound, judge_datagram}
use Rattle.paper.specs.ErrorOrder.{judge_attach, judge_listening, judge_bind, judge_connect, judge_other, judge_itself, judge_carrier, judge_accept, judge_denial, judge_disconnect, judge_request}
use Rattle.paper.specs.Effects.{bound_in}
use Rattle.paper.specs.declared.State.{State}
use Rattle.paper.specs.declared.PpaNumber.{PpaNumber}
use Rattle.paper.specs.declared.Token.{Token}
use Rattle.paper.specs.declared.BindRequest.{BindRequest}
use Rattle.paper.specs.declared.ConnectRequest.{ConnectRequest}
use Rattle.paper.specs.declared.ConnectResponse.{ConnectResponse}
use Rattle.paper.specs.declared.DisconnectRequest.{DisconnectRequest}
use Rattle.paper.specs.declared.UnitdataRequest.{UnitdataRequest}
use Rattle.paper.specs.declared.Primitive.{Primitive}
use Rattle.paper.specs.declared.Primitive.TheVariants as primitive
use Rattle.paper.specs.declared.Request.{Request}
use Rattle.paper.specs.declared.Request.TheVariants as request
use Rattle.paper.specs.declared.Rule.{Rule}
use Rattle.paper.specs.declared.Rule.TheVariants as rule
use Rattle.paper.specs.declared.Carrier.{Carrier}
use Rattle.paper.specs.declared.Carrier.TheVariants as carrier
use Rattle.paper.specs.declared.Service.{Service}
use Rattle.paper.specs.declared.Service.TheVariants as service
use Rattle.paper.specs.declared.StateRow.{StateRow}

-- ---- what a served request has shown

-- a bind that may be, of stream i
pub record MayBind (t : Table) (i : ℕ) (b : BindRequest) : Type 0 where
  pub moded : either (eqb b.mode 1) (eqb b.mode 2) ≡ true
  pub unmanaged : b.management ≡ 0
  pub unautomatic : b.xidtest ≡ 0
  pub allowed : either (is_sap b.sap) (is_type b.sap) ≡ true
  -- mode 1 takes no type
  pub untyped : both (eqb b.mode 1) (is_type b.sap) ≡ false
  -- where it will listen, nobody else does
  pub unheard : both (eqb b.mode 1) (both (ltb 0 b.most) (is_listened_for t (stream t i).ppa b.sap)) ≡ false

-- a connect that may be, in message m: its address lies behind the fields and within the message
pub record MayConnect (m : List ℕ) (a : ConnectRequest) : Type 0 where
  pub no_qos : a.qos ≡ 0
  pub seven : a.length ≡ address_size
  pub behind : 24 ≤ a.offset
  pub inside : a.offset + address_size ≤ length m
  pub even : eqb (a.last % 2) 1 ≡ false

-- an accept, of stream i, of a number that is open there, and with no QOS, whose token names this carrier
pub record Offers (t : Table) (i : ℕ) (a : ConnectResponse) (c : Carrier) : Type 0 where
  pub number_open : has a.correlation.0 (waiting t i) ≡ true
  pub no_qos : a.qos ≡ 0
  pub names : carrier_of t i a.token ≡ c

-- another stream c that may carry a call of stream i
pub record MayCarry (t : Table) (i c : ℕ) : Type 0 where
  pub is_open : (slot t c).is_open ≡ true
  pub other : c ≡ i → ⊥
  pub idle : is_in 6 (stream t c) ≡ true
  pub same_ppa : (stream t c).ppa.0 ≡ (stream t i).ppa.0
  pub not_connectionless : eqb (stream t c).mode 2 ≡ false

-- a datagram that may go, of a stream bound to that SAP, in message m: its address is of the stream's own form, behind the fields and
-- within the message
pub record MaySend (sap : ℕ) (m : List ℕ) (u : UnitdataRequest) : Type 0 where
  pub form : u.length ≡ length_of (form_of sap)
  pub behind : 20 ≤ u.offset
  pub inside : u.offset + u.length ≤ length m
  pub bindable : could_be_bound (form_of sap) u.sap ≡ true

-- Request q of stream i, in message m, is served so, and stream c carries.
pub data Fair (t : Table) (i : ℕ) (m : List ℕ) : Request → ℕ → Service → Type 0 where
  informs : Fair t i m request.Info i service.Inform
  tells_token : Fair t i m request.Token i service.TellToken
  attaches : {p : PpaNumber} → knows t p ≡ true → Fair t i m (request.Attach p) i (service.Attach p)
  detaches : Fair t i m request.Detach i service.Detach
  binds : {b : BindRequest} → MayBind t i b → Fair t i m (request.Bind b) i (service.Bind b.mode b.sap (grant_of b.mode b.most))
  unbinds : Fair t i m request.Unbind i service.Unbind
  connects : {a : ConnectRequest} → MayConnect m a → Fair t i m (request.Connect a) i (service.Connect a.offset)
  -- the only one open, where this stream is to carry the call; or another stream may
  accepts_here : {a : ConnectResponse} → Offers t i a carrier.Itself → length (waiting t i) ≤ 1
      → Fair t i m (request.ConnectRes a) i (service.Accept a.correlation)
  accepts_on : {a : ConnectResponse} {c : ℕ} → Offers t i a (carrier.Other c (stream t c)) → MayCarry t i c
      → Fair t i m (request.ConnectRes a) c (service.Accept a.correlation)
  denies : {d : DisconnectRequest} → is_in 9 (stream t i) ≡ true → has d.correlation.0 (waiting t i) ≡ true
      → Fair t i m (request.Disconnect d) i (service.Deny d.correlation d.reason)
  disconnects : {d : DisconnectRequest} → is_in 9 (stream t i) ≡ false → d.correlation.0 ≡ 0
      → Fair t i m (request.Disconnect d) i (service.Disconnect d.reason)
  resets : Fair t i m request.Reset i service.Reset
  answers_reset : Fair t i m request.ResetRes i service.ResetRes
  sends_data : {u : UnitdataRequest} → MaySend (stream t i).sap m u → Fair t i m (request.Unitdata u) i (service.Unitdata u.offset (form_of (stream t i).sap))

-- ---- what a request that a rule fails has shown

-- Rule w fails request q of stream i: it applies. (In step 6 no earlier one does.)
pub data Faulty (t : Table) (i : ℕ) : Request → Rule → Type 0 where
  -- 3. ATTACH
  unknown_ppa : {p : PpaNumber} → knows t p ≡ false → Faulty t i (request.Attach p) rule.UnknownPpa
  -- 4. BIND
  unknown_mode : {b : BindRequest} → either (eqb b.mode 1) (eqb b.mode 2) ≡ false → Faulty t i (request.Bind b) rule.UnknownMode
  managed : {b : BindRequest} → eqb b.management 0 ≡ false → Faulty t i (request.Bind b) rule.Management
  automatic : {b : BindRequest} → eqb b.xidtest 0 ≡ false → Faulty t i (request.Bind b) rule.AutomaticXid
  not_allowed : {b : BindRequest} → either (is_sap b.sap) (is_type b.sap) ≡ false → Faulty t i (request.Bind b) rule.SapNotAllowed
  typed : {b : BindRequest} → both (eqb b.mode 1) (is_type b.sap) ≡ true → Faulty t i (request.Bind b) rule.TypeInModeOne
  listened_for : {b : BindRequest} → both (eqb b.mode 1) (both (ltb 0 b.most) (is_listened_for t (stream t i).ppa b.sap)) ≡ true
      → Faulty t i (request.Bind b) rule.ListenedFor
  -- 5. CONNECT_REQ
  connect_qos : {a : ConnectRequest} → eqb a.qos 0 ≡ false → Faulty t i (request.Connect a) rule.ConnectQos
  not_seven : {a : ConnectRequest} → eqb a.length address_size ≡ false → Faulty t i (request.Connect a) rule.AddressLength
  too_early : {a : ConnectRequest} → a.offset < 24 → Faulty t i (request.Connect a) rule.AddressTooEarly
  too_late : {a : ConnectRequest} → a.size < a.offset + address_size → Faulty t i (request.Connect a) rule.AddressTooLate
  odd : {a : ConnectRequest} → eqb (a.last % 2) 1 ≡ true → Faulty t i (request.Connect a) rule.AddressSapOdd
  -- 6. CONNECT_RES
  not_open : {a : ConnectResponse} → has a.correlation.0 (waiting t i) ≡ false → Faulty t i (request.ConnectRes a) rule.AcceptNotOpen
  accept_qos : {a : ConnectResponse} → has a.correlation.0 (waiting t i) ≡ true → eqb a.qos 0 ≡ false → Faulty t i (request.ConnectRes a) rule.AcceptQos
  others_open : {a : ConnectResponse} → Offers t i a carrier.Itself → 1 < length (waiting t i) → Faulty t i (request.ConnectRes a) rule.OthersOpen
  of_none : {a : ConnectResponse} → Offers t i a carrier.None → Faulty t i (request.ConnectRes a) rule.TokenOfNone
  not_idle : {a : ConnectResponse} {c : ℕ} → Offers t i a (carrier.Other c (stream t c)) → is_in 6 (stream t c) ≡ false → Faulty t i (request.ConnectRes a) rule.CarrierNotIdle
  other_ppa : {a : ConnectResponse} {c : ℕ} → Offers t i a (carrier.Other c (stream t c)) → is_in 6 (stream t c) ≡ true
      → eqb (stream t c).ppa.0 (stream t i).ppa.0 ≡ false → Faulty t i (request.ConnectRes a) rule.CarrierOfOtherPpa
  connectionless : {a : ConnectResponse} {c : ℕ} → Offers t i a (carrier.Other c (stream t c)) → is_in 6 (stream t c) ≡ true
      → eqb (stream t c).mode 2 ≡ true → Faulty t i (request.ConnectRes a) rule.CarrierConnectionless
  -- 7. DISCONNECT_REQ
  denial_not_open : {d : DisconnectRequest} → is_in 9 (stream t i) ≡ true → has d.correlation.0 (waiting t i) ≡ false
      → Faulty t i (request.Disconnect d) rule.DenialNotOpen
  not_zero : {d : DisconnectRequest} → is_in 9 (stream t i) ≡ false → eqb d.correlation.0 0 ≡ false
      → Faulty t i (request.Disconnect d) rule.NumberNotZero
  -- a datagram's address
  other_form : {u : UnitdataRequest} → eqb u.length (length_of (form_of (stream t i).sap)) ≡ false → Faulty t i (request.Unitdata u) rule.DatagramLength
  sent_early : {u : UnitdataRequest} → u.offset < 20 → Faulty t i (request.Unitdata u) rule.DatagramTooEarly
  sent_late : {u : UnitdataRequest} → u.size < u.offset + u.length → Faulty t i (request.Unitdata u) rule.DatagramTooLate
  not_bindable : {u : UnitdataRequest} → could_be_bound (form_of (stream t i).sap) u.sap ≡ false → Faulty t i (request.Unitdata u) rule.DatagramSapNotAllowed

-- ---- what a bind that may be leaves

-- is as BIND allows,
pub bind_allowed : {t : Table} {i : ℕ} {b : BindRequest} → MayBind t i b → (q : State) (p : PpaNumber)
    → as_bind_allows (bound_in q p b.mode b.sap (grant_of b.mode b.most)) ≡ true
unfolding as_bind_allows grant_of
bind_allowed {b = b} h q p = go (eqb b.mode 1) (eqb b.mode 2) (is_sap b.sap) (is_type b.sap) h.moded h.allowed h.untyped
  where
    go : (one two sap type : Bool) → either one two ≡ true → either sap type ≡ true → both one type ≡ false
        → either (both one (both sap (leb (pick two 0 (min b.most most_open)) most_open))) (both two (both (either sap type) (eqb (pick two 0 (min b.most most_open)) 0))) ≡ true
    go true two true false o a u = rw (le-leb (pick two 0 (min b.most most_open)) most_open (picked (λ (g : ℕ). g ≤ most_open) two 0 (min b.most most_open) (λ e. omega arith) (λ e. omega arith)))
    go true two sap true o a u = absurd (false≢true (sym u))
    go true two false false o a u = absurd (false≢true a)
    go false true sap type o a u = rw a
    go false false sap type o a u = absurd (false≢true o)

-- and listens where nobody else does.
pub bind_unheard : {t : Table} {i : ℕ} {b : BindRequest} → MayBind t i b → 0 < grant_of b.mode b.most → is_listened_for t (stream t i).ppa b.sap ≡ false
unfolding grant_of
bind_unheard {t} {i} {b} h = go (eqb b.mode 1) (eqb b.mode 2) (ltb 0 b.most) refl (is_listened_for t (stream t i).ppa b.sap) h.moded h.unheard
  where
    go : (one two some : Bool) → ltb 0 b.most ≡ some → (listened : Bool) → either one two ≡ true → both one (both some listened) ≡ false
        → 0 < pick two 0 (min b.most most_open) → listened ≡ false
    go true two true e l o u g = u
    go true true false e l o u g = absurd (omega arith)
    go true false false e l o u g = absurd (omega (arith, ltb-false 0 b.most e))
    go false true some e l o u g = absurd (omega arith)
    go false false some e l o u g = absurd (false≢true o)

-- ---- what a message that asks for a request has shown: its code is the request's, and a connect or a datagram was read with the message's size

abbrev size_read : ℕ → Request → ℕ
size_read l request.Info = l
size_read l request.Token = l
size_read l (request.Attach p) = l
size_read l request.Detach = l
size_read l (request.Bind b) = l
size_read l request.Unbind = l
size_read l (request.Connect c) = c.size
size_read l (request.ConnectRes a) = l
size_read l (request.Disconnect d) = l
size_read l request.Reset = l
size_read l request.ResetRes = l
size_read l (request.Unitdata u) = u.size

pub record Asks (m : List ℕ) (q : Request) : Type 0 where
  pub coded : code_in m ≡ (request_asks q).cause
  pub measured : size_read (length m) q ≡ length m

data ReadAs (m : List ℕ) : Result Request Rule → Type 0 where
  wrong : {w : Rule} → ReadAs m (Err w)
  right : {q : Request} → Asks m q → ReadAs m (Ok q)

-- the code of a primitive that is served
abbrev Coded : ℕ → Primitive → Type 0
Coded code primitive.Info = code ≡ info_req
Coded code primitive.Attach = code ≡ attach_req
Coded code primitive.Detach = code ≡ detach_req
Coded code primitive.Bind = code ≡ bind_req
Coded code primitive.Unbind = code ≡ unbind_req
Coded code primitive.Connect = code ≡ connect_req
Coded code primitive.ConnectRes = code ≡ connect_res
Coded code primitive.Token = code ≡ token_req
Coded code primitive.Disconnect = code ≡ disconnect_req
Coded code primitive.Reset = code ≡ reset_req
Coded code primitive.ResetRes = code ≡ reset_res
Coded code primitive.Unitdata = code ≡ unitdata_req
Coded code primitive.NotSupported = Unit {0}
Coded code primitive.NotServed = Unit {0}

coded : (code : ℕ) → Coded code (primitive_of code)
unfolding primitive_of other_code
coded code =
    chosen P _ _ _ (eqb-true code info_req) (λ _. chosen P _ _ _ (eqb-true code attach_req) (λ _. chosen P _ _ _ (eqb-true code detach_req) (λ _.
    chosen P _ _ _ (eqb-true code unbind_req) (λ _. chosen P _ _ _ (eqb-true code bind_req) (λ _. chosen P _ _ _ (eqb-true code connect_req) (λ _.
    chosen P _ _ _ (eqb-true code connect_res) (λ _. chosen P _ _ _ (eqb-true code token_req) (λ _. chosen P _ _ _ (eqb-true code disconnect_req) (λ _.
    chosen P _ _ _ (eqb-true code reset_req) (λ _. chosen P _ _ _ (eqb-true code reset_res) (λ _.
    chosen P _ _ _ (eqb-true code unitdata_req) (λ _. chosen P _ _ _ (λ _. tt) (λ _. tt)))))))))))))
  where
    P : Primitive → Type 0
    P = Coded code

module _ (m : List ℕ) where
  of_size : (n : ℕ) (q : Request) → code_in m ≡ (request_asks q).cause → size_read (length m) q ≡ length m → ReadAs m (sized n m q)
  unfolding sized
  of_size n q c h = chosen (ReadAs m) _ _ _ (λ e. wrong) (λ e. right (record { coded = c; measured = h }))

  reads : (p : Primitive) → Coded (code_in m) p → ReadAs m (read_as p m)
  reads primitive.Info c = of_size 4 request.Info c refl
  reads primitive.Attach c = of_size 8 (request.Attach _) c refl
  reads primitive.Detach c = of_size 4 request.Detach c refl
  reads primitive.Bind c = of_size 20 (request.Bind _) c refl
  reads primitive.Unbind c = of_size 4 request.Unbind c refl
  reads primitive.Connect c = of_size 24 (request.Connect _) c refl
  reads primitive.ConnectRes c = of_size 24 (request.ConnectRes _) c refl
  reads primitive.Token c = of_size 4 request.Token c refl
  reads primitive.Disconnect c = of_size 12 (request.Disconnect _) c refl
  reads primitive.Reset c = of_size 4 request.Reset c refl
  reads primitive.ResetRes c = of_size 4 request.ResetRes c refl
  reads primitive.Unitdata c = of_size 20 (request.Unitdata _) c refl
  reads primitive.NotSupported c = wrong
  reads primitive.NotServed c = wrong

  pub asks : {q : Request} → asked_by m ≡ Ok q → Asks m q
  unfolding asked_by
  asks {q} e = of_right (read_as (primitive_of (code_in m)) m) (reads (primitive_of (code_in m)) (coded (code_in m))) e
    where
      of_right : (a : Result Request Rule) → ReadAs m a → a ≡ Ok q → Asks m q
      of_right (Err w) h e = absurd (let z : ◌≡◌ {A = ℕ} 0 1 = cc in omega arith)
      of_right (Ok p) (right h) e = let z : p ≡ q = cc in rw z at h

-- ---- the walk

-- a verdict on request q: a rule that fails it, or a fair service
pub data Judged (t : Table) (i : ℕ) (m : List ℕ) (q : Request) (c : ℕ) : Result Service Rule → Type 0 where
  fails : {w : Rule} → Faulty t i q w → Judged t i m q c (Err w)
  serves : {v : Service} → Fair t i m q c v → Judged t i m q c (Ok v)

-- an order of tests, of which each verdict is such: a test has shown itself, or its opposite
infixr 5 ◌⟹◌∣◌
◌⟹◌∣◌ : {t : Table} {i : ℕ} {m : List ℕ} {q : Request} {c : ℕ} (b : Bool) {w : Rule} {v : Result Service Rule} → (b ≡ true → Faulty t i q w)
    → (b ≡ false → Judged t i m q c v) → Judged t i m q c (b ⇒ Err w ∣ v)
◌⟹◌∣◌ {t} {i} {m} {q} {c} b h g = chosen (Judged t i m q c) b _ _ (λ e. fails (h e)) g

module _ (t : Table) (i : ℕ) (m : List ℕ) where
  -- what the token of an accept names: this stream, or another that is open
  data Named : Carrier → Type 0 where
    itself : Named carrier.Itself
    nobody : Named carrier.None
    another : (c : ℕ) → (slot t c).is_open ≡ true → (c ≡ i → ⊥) → Named (carrier.Other c (stream t c))

  named : (k : Token) → Named (carrier_of t i k)
  unfolding carrier_of
  named k = chosen Named _ _ _ (λ e. itself) (λ e. chosen Named _ _ _ (λ o. another (k.0 - 1) o (other (either_no (eqb k.0 0) (eqb k.0 (suc i)) e))) (λ o. nobody))
    where
      other : (eqb k.0 0 ≡ false) × (eqb k.0 (suc i) ≡ false) → k.0 - 1 ≡ i → ⊥
      other e z = let a : k.0 ≡ 0 → ⊥ = eqb-false k.0 0 e.0 in let b : k.0 ≡ suc i → ⊥ = eqb-false k.0 (suc i) e.1 in omega arith

  fair_carrier : (a : ConnectResponse) (c : Carrier) → Named c → Offers t i a c
      → Judged t i m (request.ConnectRes a) (carrier_at i c) (judge_carrier (stream t i) a.correlation (length (waiting t i)) c)
  unfolding judge_carrier judge_itself judge_other
  fair_carrier a carrier.Itself itself f = _ ⟹ (λ y. others_open f (ltb-true _ _ y)) ∣ (λ n. serves (accepts_here f (ltb-false _ _ n)))
  fair_carrier a carrier.None nobody f = fails (of_none f)
  fair_carrier a (carrier.Other _ _) (another c o d) f =
      _ ⟹ (λ y. not_idle f (not-true _ y)) ∣ (λ n. _ ⟹ (λ y. other_ppa f (not-false _ n) (not-true _ y)) ∣ (λ p. _ ⟹ connectionless f (not-false _ n) ∣ (λ e.
      serves (accepts_on f (record { is_open = o; other = d; idle = not-false _ n; same_ppa = eqb-true _ _ (not-false _ p); not_connectionless = e })))))

  -- every verdict on a request that message m asks for, by any row
  pub judged_fairly : (x : StateRow) (q : Request) → Asks m q
      → Judged t i m q (carrier_at i (answer_to t i (Some x) (request_asks q).question).carrier) (judge_request (sight_by t i (Some x) (request_asks q).question) q)
  unfolding answer_to judge_request judge_attach judge_bind judge_listening judge_connect judge_accept judge_disconnect judge_denial judge_datagram
  judged_fairly x request.Info s = serves informs
  judged_fairly x request.Token s = serves tells_token
  judged_fairly x (request.Attach p) s = _ ⟹ (λ y. unknown_ppa (not-true _ y)) ∣ (λ k. serves (attaches (not-false _ k)))
  judged_fairly x request.Detach s = serves detaches
  judged_fairly x (request.Bind b) s =
      _ ⟹ (λ y. unknown_mode (not-true _ y)) ∣ (λ o. _ ⟹ (λ y. managed (not-true _ y)) ∣ (λ n. _ ⟹ (λ y. automatic (not-true _ y)) ∣ (λ a.
      _ ⟹ (λ y. not_allowed (not-true _ y)) ∣ (λ p. _ ⟹ typed ∣ (λ u. _ ⟹ listened_for ∣ (λ h. serves (binds
      (record { moded = not-false _ o; unmanaged = eqb-true _ _ (not-false _ n); unautomatic = eqb-true _ _ (not-false _ a); allowed = not-false _ p; untyped = u; unheard = h }))))))))
  judged_fairly x request.Unbind s = serves unbinds
  judged_fairly x (request.Connect a) s =
      _ ⟹ (λ y. connect_qos (not-true _ y)) ∣ (λ n. _ ⟹ (λ y. not_seven (not-true _ y)) ∣ (λ l. _ ⟹ (λ y. too_early (ltb-true _ _ y)) ∣ (λ f.
      _ ⟹ (λ y. too_late (ltb-true _ _ y)) ∣ (λ g. _ ⟹ odd ∣ (λ e.
      let u : a.offset + address_size ≤ a.size = ltb-false _ _ g in
      serves (connects (record { no_qos = eqb-true _ _ (not-false _ n); seven = eqb-true _ _ (not-false _ l); behind = ltb-false _ _ f; inside = omega (arith, s.measured); even = e })))))))
  judged_fairly x (request.ConnectRes a) s =
      _ ⟹ (λ y. not_open (not-true _ y)) ∣ (λ h. _ ⟹ (λ y. accept_qos (not-false _ h) (not-true _ y)) ∣ (λ n.
      fair_carrier a (carrier_of t i a.token) (named a.token) (record { number_open = not-false _ h; no_qos = eqb-true _ _ (not-false _ n); names = refl })))
  judged_fairly x (request.Disconnect d) s = chosen (Judged t i m (request.Disconnect d) i) _ _ _
      (λ e. _ ⟹ (λ y. denial_not_open e (not-true _ y)) ∣ (λ h. serves (denies e (not-false _ h))))
      (λ e. _ ⟹ (λ y. not_zero e (not-true _ y)) ∣ (λ z. serves (disconnects e (eqb-true _ _ (not-false _ z)))))
  judged_fairly x request.Reset s = serves resets
  judged_fairly x request.ResetRes s = serves answers_reset
  judged_fairly x (request.Unitdata u) s =
      _ ⟹ (λ y. other_form (not-true _ y)) ∣ (λ l. _ ⟹ (λ y. sent_early (ltb-true _ _ y)) ∣ (λ f. _ ⟹ (λ y. sent_late (ltb-true _ _ y)) ∣ (λ g.
      _ ⟹ (λ y. not_bindable (not-true _ y)) ∣ (λ b.
      let e : u.offset + u.length ≤ u.size = ltb-false _ _ g in
      serves (sends_data (record { form = eqb-true _ _ (not-false _ l); behind = ltb-false _ _ f; inside = omega (arith, s.measured); bindable = not-false _ b }))))))
