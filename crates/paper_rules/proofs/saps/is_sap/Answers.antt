-- A SAP is a number under 256 of which no exclusion holds.
use borrow.Author.Tests.{lt-ltb, le-ltb}
use Rattle.paper.proofs.Exclusions.{tied}
use borrow.Author.Rules.{rules}
use Rattle.paper_rules.proofs.saps.is_sap.Goals as goal

pub returns-then-n-lt256 : goal.returns-then-n-lt256
returns-then-n-lt256 c = rw ((tied c.args.n (search rules)).saps, lt-ltb _ _ c.if-n-lt256.true) c.none_excludes.ensures

pub returns-else-n-lt256 : goal.returns-else-n-lt256
returns-else-n-lt256 c = rw ((tied c.args.n (search rules)).saps, le-ltb _ _ c.if-n-lt256.false)
