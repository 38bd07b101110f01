use Rattle.std.proofs.Common.{◌≡◌, ◌++◌}
use Rattle.sqdeepjudge.specs.NotJudged.{numbered}
use Rattle.sqdeepjudge.proofs.not_judged.add_clauses.Given as goal

abbrev pub invariant-clauses : goal.invariant-clauses
invariant-clauses l = l.all.items ≡ l.fn.all.items ++ numbered l.kind l.row l.number
