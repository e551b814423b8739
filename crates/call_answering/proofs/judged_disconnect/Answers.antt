-- The rules of step 7 are told whether its number is open.
use Rattle.paper.specs.Sight.{answer_to}
use Rattle.paper.specs.ErrorOrder.{judge_request}
use Rattle.call_answering.proofs.judged_disconnect.Goals as goal

pub returns : goal.returns
unfolding judge_request answer_to
returns c =
    λ x. record {
      verdict = rw (c.alone.ensures, c.judge_disconnect.ensures, c.is_waiting-waits.ensures, c.requires.loaded);
      carrier = rw c.alone.ensures;
    }
