use Rattle.std.proofs.Common.{◌≡◌, ◌∷◌, get_or, map, take}
use Rattle.std.specs.Io.KnownBytes.{Appends}
use Rattle.cli_text.specs.Facts.{joined}
use Rattle.cli_text.specs.Logs.{spans}
use Rattle.cli_text.specs.Reports.{comma, span_text}
use Rattle.cli_text.proofs.report.write_commits.Given as goal

abbrev pub invariant-loop-i : goal.invariant-loop-i
invariant-loop-i g l =
    (l.before ≡ get_or (0 ∷ l.commits) l.i 0)
    × Appends (g.W.Write.contents l.fn.out) (g.W.Write.contents l.out)
    (joined comma (map (λ s. span_text l.entries s.0 s.1) (take l.i (spans l.commits))))
