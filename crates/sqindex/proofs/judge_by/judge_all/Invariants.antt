use Rattle.std.proofs.Common.{◌<◌, ℕ}
use Rattle.sqindex.specs.internal.Held.{held_by}
use Rattle.sqindex.specs.internal.Marking.{IsSoundBy}
use Rattle.sqindex.proofs.judge_by.judge_all.Given as goal

abbrev pub invariant-entries : goal.invariant-entries
invariant-entries l = (j : ℕ) → j < l.i → IsSoundBy l.key (held_by l.entries) j
