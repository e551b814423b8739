-- Each turn leaves what the next one asks.
use Rattle.turns.specs.Programs.{Standing}
use Rattle.turns.proofs.run.Given as goal

abbrev pub invariant-loop : goal.invariant-loop
invariant-loop g l = Standing g.P.LentProgram.tells l.table l.program l.room l.input l.page l.t
