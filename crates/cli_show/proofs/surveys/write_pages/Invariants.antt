use Rattle.std.proofs.Common.{◌≡◌, ℕ, List, length}
use Rattle.std.specs.Prelude.{slice_get, Some}
use Rattle.std.specs.List.{flat_map}
use Rattle.std.specs.Io.KnownBytes.{Appends}
use Rattle.cli_text.specs.Pages.{page_line_text}
use Rattle.cli_text.specs.declared.pages.PageLine.{PageLine}
use Rattle.cli_show.specs.PageLines.{IsPageLine}
use Rattle.cli_show.proofs.surveys.write_pages.Given as goal

abbrev pub invariant-loop-i : goal.invariant-loop-i
invariant-loop-i g l =
    (lines : List PageLine) × (length lines ≡ l.i) × ((i : ℕ) (line : PageLine) → slice_get lines i ≡ Some line → IsPageLine l.found i line)
    × Appends (g.W.Write.contents l.fn.out) (g.W.Write.contents l.out) (flat_map (page_line_text l.style) lines)
