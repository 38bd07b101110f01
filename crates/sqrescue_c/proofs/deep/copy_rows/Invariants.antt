use Rattle.std.proofs.Common.{◌≡◌, ◌<◌, ℕ, get_or}
use Rattle.sqrescue_c.specs.Deeps.{rows_of}
use Rattle.sqrescue_c.proofs.deep.copy_rows.Given as goal

abbrev pub invariant-loop-i : goal.invariant-loop-i
invariant-loop-i l = (k : ℕ) → k < l.i → get_or l.rows k 0 ≡ get_or (rows_of l.unjudged) k 0
