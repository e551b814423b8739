-- The test of odd numbers is the definition's, and all numbers pass the other.
use Rattle.paper_rules.proofs.exclusions.is_of.Goals as goal

pub returns-in-Odd : goal.returns-in-Odd
returns-in-Odd c = rw c.in-Odd.is
