use Rattle.std.proofs.Common.{◌≡◌, ℕ, List, ◌++◌, drop}
use Rattle.std.specs.Io.KnownBytes.{Appends}
use Rattle.cli_show.specs.Reports.{runs_text}
use Rattle.cli_show.proofs.report.write_runs.Given as goal

abbrev pub invariant-loop-run : goal.invariant-loop-run
invariant-loop-run g l = (text : List ℕ) × Appends (g.W.Write.contents l.fn.out) (g.W.Write.contents l.out) text
    × (text ++ runs_text l.first (drop l.run-index l.runs) ≡ runs_text 1 l.runs)
