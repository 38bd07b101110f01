use Rattle.std.proofs.Common.{◌≡◌, ◌+◌, ◌++◌, ◌≤◌, drop}
use Rattle.schema_index.specs.Terms.{extents}
use Rattle.schema_index.proofs.terms.extents.Given as goal

abbrev pub invariant-loop-i : goal.invariant-loop-i
invariant-loop-i l = record { shallow : l.depth ≤ l.i; so_far : extents l.from l.from 0 l.inner ≡ l.found.items ++ extents l.start (l.from + l.i) l.depth (drop l.i l.inner) }
