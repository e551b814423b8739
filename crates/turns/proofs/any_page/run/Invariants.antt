-- Each turn leaves what the next one asks.
use Rattle.turns.specs.Programs.{Standing}
use Rattle.turns.proofs.any_page.run.Given as goal

abbrev pub invariant-loop : goal.invariant-loop
invariant-loop g l = Standing g.P.Program.tells l.table l.program l.room l.input l.page l.t
