-- The runs of a report that were written, while there are more.
use Rattle.std.specs.Prelude.{◌≡◌, ℕ, ◌<◌, ◌==◌, List, [], ◌∷◌, ◌++◌, length, map, slice_get, Option, None, Some, option_to_list}
use Rattle.std.specs.List.{flat_map}
use Rattle.std.specs.Io.KnownBytes.{Appends}
use Rattle.cli_text.specs.Facts.{joined}
use Rattle.cli_text.specs.Reports.{line_comma}
use Rattle.cli_show.specs.Reports.{logged_text, pages_of}
use Rattle.cli_show.specs.declared.report.LoggedRun.{LoggedRun}
use Rattle.cli_show.specs.declared.report.LoggedRuns.{LoggedRuns}

-- a page that stands at this place in the log, if it stands in the log
abbrev pub page_at : (page : ℕ) → Option ℕ → List (ℕ × ℕ)
page_at page None = []
page_at page (Some number) = (page, number) ∷ []

-- From the old text to the new one runs were written, and with the last one, which may still grow, they are these pages.
pub record AreWritten (old new : Option (List ℕ)) (runs : LoggedRuns) (pages : List (ℕ × ℕ)) : Type 0 where
  pub written : List LoggedRun
  pub is_first : runs.is_first ≡ (length written == 0)
  pub text : Appends old new (joined line_comma (map logged_text written))
  pub none_empty : (i : ℕ) (run : LoggedRun) → slice_get (written ++ option_to_list runs.last) i ≡ Some run → 0 < run.count
  pub are_pages : flat_map pages_of (written ++ option_to_list runs.last) ≡ pages
