-- A number under 256 is one byte.
use borrow.Author.Tests.{lt-ltb, le-ltb}
use Rattle.paper.specs.Base.{form_of}
use Rattle.paper.proofs.Form.of_sap.Goals as goal

pub returns-then-sap-lt256 : goal.returns-then-sap-lt256
unfolding form_of
returns-then-sap-lt256 c = rw (lt-ltb _ _ c.if-sap-lt256.true)

pub returns : goal.returns
unfolding form_of
returns c = rw (le-ltb _ _ c.if-sap-lt256.false)
