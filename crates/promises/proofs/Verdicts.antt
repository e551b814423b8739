-- What a message tells: the error of the first rule that applies, and none where none applies, as what serves a request says no error.
use Rattle.std.proofs.Common.{Err, Ok, Result}
use Prim.Native.Nat.{ℕ}
use native.Mathlib.Omega.{arith}
use mathlib.Core.Path.{◌≡◌, refl, sym, ap, ◌∙◌}
use mathlib.Core.Bool.{true}
use mathlib.Core.List.{List, [], ◌∷◌}
use lib.ListN.{length}
use Rattle.paper.specs.Base.{Table, slot, stream, token_of, mac_at}
use Rattle.paper.specs.ErrorCodes.{Complaint, error_ack, uderror_ind, complaint_of, error_by, error_of, reply_by}
use Rattle.paper.specs.Effects.{effect_of}
use Rattle.paper.specs.Messages.{code_in}
use Rattle.paper.specs.RecordsIn.{message_in}
use Rattle.paper.specs.RecordsOut.{up}
use Rattle.paper.specs.Refusals.{Outcome}
use Rattle.paper.specs.Sound.{sound}
use Rattle.paper.specs.Step.{step_by}
use Rattle.paper.specs.declared.Request.{Request}
use Rattle.paper.specs.declared.Rule.{Rule}
use Rattle.paper.specs.declared.StateRow.{StateRow}
use Rattle.paper.proofs.Walk.{erring, Replied, failing, serving, answers}
use Rattle.promises.specs.Answers.{Complete}
use Rattle.paper.specs.ErrorOrder.{verdict_on}
use Rattle.paper.proofs.Effects.{errors_in, service_silent, told_errors}
use Rattle.paper.specs.declared.Service.{Service}

abbrev pub errors_by : Result Service Rule → List ℕ
errors_by (Ok v) = []
errors_by (Err w) = error_of w ∷ []

-- what answers a message that breaks a rule tells the rule's error, so it tells one
complaint_tells : (i code : ℕ) (x : Complaint) → errors_in (up i (reply_by code x) [] ∷ []) ≡ error_by x ∷ []
complaint_tells i code (error_ack n) = refl
complaint_tells i code (uderror_ind n) = refl

pub erring_tells : {P : Type 0} (t : Table) (i code : ℕ) (w : Rule) → errors_in (erring t i code w).records ≡ [] → P
erring_tells t i code w e = absurd (omega (arith, ap length (sym (complaint_tells i code (complaint_of w)) ∙ e)))

module _ (rows : List StateRow) (t : Table) where
  pub answer_tells : {i : ℕ} {m r : List ℕ} {a : Result Request Rule} {o : Outcome} → Replied rows t i m r a o → errors_in o.records ≡ errors_by (verdict_on rows t i m a)
  answer_tells {i} {m} (failing {w = w} e) = complaint_tells i (code_in m) (complaint_of w) ∙ sym (ap errors_by e)
  answer_tells {i} {r = r} (serving {x = x} {c = c} {v = v} e h f) =
      told_errors i c (slot t i) (mac_at t i) r (effect_of x (token_of i) (stream t i) v)
      ∙ service_silent x (token_of i) (stream t i) v
      ∙ sym (ap errors_by e)

  -- A complete message that we serve is answered: refusals 16, 10, 1, 2, 5 and 4 do not apply.
  module _ (s : sound t ≡ true) (r : List ℕ) (room i : ℕ) (q : Request) (c : Complete t r room i q) where
    pub complete_answered : Replied rows t i (message_in r c.size) r (Ok q) (step_by rows t r room)
    complete_answered = answers rows t r room s c.roomy c.read (record { is_open = c.is_open; coded = c.coded; whole = c.whole; few = c.few }) c.asks

    pub complete_tells : errors_in (step_by rows t r room).records ≡ errors_by (verdict_on rows t i (message_in r c.size) (Ok q))
    complete_tells = answer_tells complete_answered
