use Rattle.std.proofs.Common.{◌≡◌, ℕ, List, length}
use Rattle.std.specs.Prelude.{slice_get, Some, Option}
use Rattle.std.specs.List.{enumerate_from, flat_map}
use Rattle.cli_show.specs.PageLines.{IsLoggedAt}
use Rattle.cli_show.specs.Reports.{placed}
use Rattle.cli_show.specs.internal.Reports.{AreWritten}
use Rattle.cli_text.specs.declared.pages.Logged.{Logged}
use Rattle.cli_show.proofs.report.write_logged.Given as goal

abbrev pub invariant-loop-i : goal.invariant-loop-i
invariant-loop-i g l =
    (places : List (Option Logged)) × (length places ≡ l.i)
    × ((i : ℕ) (place : Option Logged) → slice_get places i ≡ Some place → IsLoggedAt l.found i place)
    × AreWritten (g.W.Write.contents l.fn.out) (g.W.Write.contents l.out) l.runs (flat_map (λ e. placed e.0 e.1) (enumerate_from 1 places))
