use Rattle.std.proofs.Common.{List, ◌++◌, drop}
use Rattle.rig_missing.specs.Missing.{AreMissing}
use Rattle.rig_missing.specs.declared.missing.Missing.{Missing}
use Rattle.rig_missing.proofs.missing.missing_calls.Given as goal

abbrev pub invariant-loop-j : goal.invariant-loop-j
invariant-loop-j l = (rest : List Missing) → AreMissing l.size.bytes l.image (drop l.j l.changes) rest → AreMissing l.size.bytes l.image l.changes (l.found.items ++ rest)
