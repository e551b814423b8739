-- One byte or two, by the form.
use Rattle.paper.specs.RecordsIn.{sap_at}
use Rattle.paper.proofs.addresses.sap_at.Goals as goal

pub returns-in-WithSap : goal.returns-in-WithSap
unfolding sap_at
returns-in-WithSap c = rw c.in-WithSap.is c.byte_at.ensures

pub returns-in-WithType : goal.returns-in-WithType
unfolding sap_at
returns-in-WithType c = rw c.in-WithType.is c.number_at.ensures
