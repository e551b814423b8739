-- What comes to a stream is decided by its state row: with the row known, the decision is what is enacted.
use Rattle.std.proofs.Common.{Err, None, Ok, Option, Result, Some}
use Prim.Native.Nat.{ℕ, ◌+◌, ◌<◌}
use native.Mathlib.Numerals.{add-one}
use native.Mathlib.Omega.{arith}
use mathlib.Core.Path.{◌≡◌, refl, sym, ap, subst, ◌∙◌}
use mathlib.Core.Bool.{false, false≢true}
use mathlib.Core.List.{List}
use lib.Dec.{eqb}
use Rattle.ledger.proofs.Tallies.{picked}
use Rattle.paper.specs.Base.{stream_total, Table, stream}
use Rattle.paper.specs.RecordsOut.{in_order}
use Rattle.paper.specs.Refusals.{Outcome}
use Rattle.paper.specs.StateRows.{state_rows, found}
use Rattle.paper.specs.Sight.{Question, nothing, sends, request_asks, sight_by}
use Rattle.paper.specs.Effects.{changed, carried, enacted, orders_in, ups_in, told, onward, unchanged, acting, effect_of, error_effect}
use Rattle.paper.specs.ErrorOrder.{without_row}
use Rattle.paper.specs.Decide.{does, effect_by, decide_by}
use Rattle.paper.specs.Room.{Fits}
use Rattle.paper.specs.Step.{conclude, comes}
use Rattle.paper.specs.declared.Token.{Token}
use Rattle.paper.specs.declared.Stream.{Stream}
use Rattle.paper.specs.declared.Rule.{Rule}
use Rattle.paper.specs.declared.Service.TheVariants as service
use Rattle.paper.specs.declared.Request.{Request}
use Rattle.paper.specs.declared.StateRow.{StateRow}
use Rattle.paper.specs.declared.Change.{Change}
use Rattle.paper.specs.declared.Change.TheVariants.{Stays}
use Rattle.paper.specs.declared.Reply.{Reply}
use Rattle.paper.specs.declared.Effect.{Effect}
use Rattle.paper.proofs.Effects.{service_fits, error_fits}
use Rattle.call_outcomes.specs.Takes.{takes}
use Rattle.call_outcomes.specs.Deciding.{outcome_of, Placed}
use Rattle.call_outcomes.specs.Deciding as deciding
use Rattle.call_answering.specs.Judging.{RightlyJudged}
use Rattle.call_answering.specs.declared.Judgement.{Judgement}
use Rattle.paper.specs.declared.Service.{Service}

module _ (t : Table) (i : ℕ) (came : List ℕ) (code : ℕ) where
  -- an effect, where stream c carries
  abbrev doing : ℕ → Effect → Outcome
  doing c e = outcome_of t came (Ok (deciding.doing i c e))

  -- an error is the same whoever would carry
  error_enacted : (f : Option StateRow) (w : Question) (r : Rule) → doing i (error_effect code r) ≡ conclude t i came (sight_by t i f w) (does (error_effect code r))
  unfolding conclude enacted changed carried told in_order orders_in ups_in
  error_enacted f w r = refl

  pub wrong : (r : Rule) (e : Effect) → e ≡ error_effect code r → doing i e ≡ comes state_rows t i came (sends code (Err r))
  unfolding comes decide_by effect_by
  wrong r e z = ap (doing i) z ∙ error_enacted (found state_rows (stream t i) code) nothing r

  -- a request, by the row that was found
  module _ (q : Request) (s : Stream) (f : Option StateRow) (es : s ≡ stream t i) (ef : f ≡ found state_rows s (request_asks q).cause) where
    by_found : (g : Option StateRow) → f ≡ g
        → conclude t i came (sight_by t i g (request_asks q).question) (decide_by (sight_by t i g (request_asks q).question) (sends code (Ok q)) g) ≡ comes state_rows t i came (sends code (Ok q))
    unfolding comes
    by_found g h =
        ap (λ (g : Option StateRow). conclude t i came (sight_by t i g (request_asks q).question) (decide_by (sight_by t i g (request_asks q).question) (sends code (Ok q)) g))
        (sym h ∙ ef ∙ ap (λ (s : Stream). found state_rows s (request_asks q).cause) es)

    pub no_row : (e : Effect) → f ≡ None → e ≡ error_effect code (without_row q) → doing i e ≡ comes state_rows t i came (sends code (Ok q))
    unfolding decide_by effect_by
    no_row e h z = ap (doing i) z ∙ error_enacted None (request_asks q).question (without_row q) ∙ by_found None h

    pub by_row : (x : StateRow) (r : Judgement) (e : Effect) → f ≡ Some x → RightlyJudged t i q r → e ≡ effect_by (Some x) (record { 0 = i + 1 }) code s r.verdict
        → doing r.carrier e ≡ comes state_rows t i came (sends code (Ok q))
    unfolding conclude decide_by
    by_row x r e h j z = rw (z, (j x).verdict, (j x).carrier, es, add-one) (by_found (Some x) h)

-- ---- no message takes an open indication, and what it writes fits the room

placed : {t : Table} {i : ℕ} (e w : Effect) → i < stream_total → e ≡ w → takes w.change ≡ false → Fits w → Placed t i e
placed e w h z k f = record {
  within = h;
  place = λ taken. absurd (false≢true (sym k ∙ ap (λ (e : Effect). takes e.change) (sym z) ∙ taken));
  fits = subst (λ (e : Effect). Fits e) (sym z) f;
}

unchanged-takes : (x : StateRow) (s : Stream) → takes (unchanged x s) ≡ false
unchanged-takes x s = picked (λ (c : Change). takes c ≡ false) (eqb x.to x.from) Stays (onward x s) (λ e. refl) (λ e. refl)

message-takes : (x : StateRow) (k : Token) (code : ℕ) (s : Stream) (v : Result Service Rule) → takes (effect_by (Some x) k code s v).change ≡ false
unfolding effect_by effect_of
message-takes x k code s (Err r) = refl
message-takes x k code s (Ok service.Inform) = unchanged-takes x s
message-takes x k code s (Ok service.TellToken) = unchanged-takes x s
message-takes x k code s (Ok (service.Attach p)) = refl
message-takes x k code s (Ok service.Detach) = refl
message-takes x k code s (Ok (service.Bind mode sap granted)) = refl
message-takes x k code s (Ok service.Unbind) = refl
message-takes x k code s (Ok (service.Connect at)) = refl
message-takes x k code s (Ok (service.Accept n)) = refl
message-takes x k code s (Ok (service.Deny n reason)) = refl
message-takes x k code s (Ok (service.Disconnect reason)) = refl
message-takes x k code s (Ok service.Reset) = refl
message-takes x k code s (Ok service.ResetRes) = refl
message-takes x k code s (Ok (service.Unitdata at form)) = unchanged-takes x s

message-fits : (x : StateRow) (k : Token) (code : ℕ) (s : Stream) (v : Result Service Rule) → Fits (effect_by (Some x) k code s v)
unfolding effect_by
message-fits x k code s (Err r) = error_fits code r
message-fits x k code s (Ok v) = service_fits x k s v

module _ {t : Table} {i : ℕ} (e : Effect) (h : i < stream_total) where
  -- an error is a message up and nothing else, whatever the message
  pub error_placed : (p : Reply) → e ≡ acting Stays None false (Some p) → Placed t i e
  error_placed p z = placed e (acting Stays None false (Some p)) h z refl (omega arith)

  pub message-placed : (x : StateRow) (k : Token) (code : ℕ) (s : Stream) (v : Result Service Rule) → e ≡ effect_by (Some x) k code s v → Placed t i e
  message-placed x k code s v z = placed e (effect_by (Some x) k code s v) h z (message-takes x k code s v) (message-fits x k code s v)
