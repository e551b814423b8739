-- In each form the test is that of a bind.
use Rattle.paper.specs.Datagrams.{could_be_bound}
use Rattle.paper_rules.proofs.datagrams.could_be_bound.Goals as goal

pub returns-in-WithSap : goal.returns-in-WithSap
unfolding could_be_bound
returns-in-WithSap c = rw c.in-WithSap.is c.is_sap.ensures

pub returns-in-WithType : goal.returns-in-WithType
unfolding could_be_bound
returns-in-WithType c = rw c.in-WithType.is c.is_type.ensures
