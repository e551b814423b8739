-- What a request with a state row sees, and what it comes to by that.
use Rattle.std.specs.Prelude.{ℕ, ◌≡◌, Some}
use Rattle.paper.specs.Base.{Table}
use Rattle.paper.specs.Sight.{request_asks, Sight, sight_by, carrier_at}
use Rattle.paper.specs.ErrorOrder.{judge_request}
use Rattle.paper.specs.declared.Request.{Request}
use Rattle.paper.specs.declared.StateRow.{StateRow}
use Rattle.call_answering.specs.declared.Judgement.{Judgement}

abbrev pub seen : Table → ℕ → StateRow → Request → Sight
seen t i x q = sight_by t i (Some x) (request_asks q).question

pub record Judged (t : Table) (i : ℕ) (q : Request) (x : StateRow) (r : Judgement) : Type 0 where
  pub verdict : r.verdict ≡ judge_request (seen t i x q) q
  pub carrier : r.carrier ≡ carrier_at i (seen t i x q).answer.carrier

-- whichever row it has
abbrev pub RightlyJudged : Table → ℕ → Request → Judgement → Type 0
RightlyJudged t i q r = (x : StateRow) → Judged t i q x r
