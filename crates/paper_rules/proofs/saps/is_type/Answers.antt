-- A type is a number from 256 on of which no exclusion holds.
use borrow.Author.Tests.{le-leb, lt-leb}
use Rattle.paper.proofs.Exclusions.{tied}
use borrow.Author.Rules.{rules}
use Rattle.paper_rules.proofs.saps.is_type.Goals as goal

pub returns-then-n-ge256 : goal.returns-then-n-ge256
returns-then-n-ge256 c = rw ((tied c.args.n (search rules)).types, le-leb _ _ c.if-n-ge256.true) c.none_excludes.ensures

pub returns-else-n-ge256 : goal.returns-else-n-ge256
returns-else-n-ge256 c = rw ((tied c.args.n (search rules)).types, lt-leb _ _ c.if-n-ge256.false)
