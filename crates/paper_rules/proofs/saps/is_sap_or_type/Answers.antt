-- What a bind can take is a number of which no exclusion holds.
use Rattle.paper.proofs.Exclusions.{tied}
use borrow.Author.Rules.{rules}
use Rattle.paper_rules.proofs.saps.is_sap_or_type.Goals as goal

pub returns : goal.returns
returns c = rw (tied c.args.n (search rules)).binds c.none_excludes.ensures
