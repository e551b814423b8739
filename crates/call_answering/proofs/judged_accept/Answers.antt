-- The rules of step 6 are told what the table says of its number, its count and its token.
use Rattle.paper.specs.Sight.{answer_to}
use Rattle.paper.specs.ErrorOrder.{judge_request}
use Rattle.call_answering.proofs.judged_accept.Goals as goal

pub returns : goal.returns
unfolding judge_request answer_to
returns c =
    λ x. record {
      verdict =
          rw (c.judge_accept-verdict.ensures, c.carrier_of-carrier.ensures, c.count_at-count.ensures)
          (rw (c.is_waiting-waits.ensures, c.requires.loaded));
      carrier = rw (c.carrier_at-place.ensures, c.carrier_of-carrier.ensures);
    }
