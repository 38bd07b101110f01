use Rattle.std.proofs.Common.{◌≡◌, take}
use Rattle.cli_facts.specs.Runs.{expanded}
use Rattle.cli_facts.proofs.runs.runs_of.Given as goal

abbrev pub invariant-loop-used : goal.invariant-loop-used
invariant-loop-used l = expanded l.runs.items ≡ take l.used-index l.uses
