-- By the answer's two cases; a byte's number fits where it is put.
use Rattle.paper.specs.Exclusions.{telling_of}
use Rattle.kungthevi.proofs.saps.telling_of.Goals as goal

pub returns-in-Some : goal.returns-in-Some
unfolding telling_of
returns-in-Some c = rw (c.in-Some.is, c.ground_number.ensures, c.place_number.ensures)

pub returns-in-None : goal.returns-in-None
unfolding telling_of
returns-in-None c = rw c.in-None.is c.sap_length.ensures.is
