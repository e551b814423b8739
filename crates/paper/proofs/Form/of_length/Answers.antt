-- The code asks for the longer length, as the definition does.
use borrow.Author.Tests.{eq-eqb, ne_eqb}
use Rattle.paper.specs.Base.{form_in}
use Rattle.paper.proofs.Form.of_length.Goals as goal

pub returns-then-n : goal.returns-then-n
unfolding form_in
returns-then-n c = rw (eq-eqb _ _ c.if-n.true)

pub returns : goal.returns
unfolding form_in
returns c = rw (ne_eqb _ _ c.if-n.false)
