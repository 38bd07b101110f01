use Rattle.cli_held.specs.Todo.{texts}
use Rattle.cli_held.specs.internal.Words.{IsRest, IsSoFar}
use Rattle.cli_held.proofs.line.rest_of.Given as goal

abbrev pub invariant-loop-i : goal.invariant-loop-i
invariant-loop-i l = IsRest (texts l.words) l.from l.i l.rest × IsSoFar (texts l.words) l.from l.i l.rest
