use Rattle.std.proofs.Common.{List, ℕ, ◌++◌, ◌-◌, false}
use Rattle.std.specs.Io.KnownBytes.{Appends}
use Rattle.sqrows.specs.Rows.{Row}
use Rattle.cli_change_text.specs.Changes.{AreDifferences}
use Rattle.cli_change_text.proofs.differences.write_differences.Given as goal

abbrev pub invariant-loop-j : goal.invariant-loop-j
invariant-loop-j g l =
    (t : List ℕ) × Appends (g.W.Write.contents l.fn.out) (g.W.Write.contents l.out) t
    × ((more : List ℕ) → AreDifferences l.style.encoding l.style.columns.now (record { rowid = l.old.rowid; values = l.old.values }) (record { rowid = l.new.rowid; values = l.new.values }) l.begun l.j (l.count - l.j) more
    → AreDifferences l.style.encoding l.style.columns.now (record { rowid = l.old.rowid; values = l.old.values }) (record { rowid = l.new.rowid; values = l.new.values }) false 0 l.count (t ++ more))
