-- A page as it is written, and a file that has one (own).
use Rattle.std.specs.Prelude.{ℕ, List, Option}
use Rattle.std.specs.Io.KnownBytes.{Appends}
use Rattle.sqval.specs.Limits.{Bounds}
use Rattle.cli_report.specs.Pages.{IsPage}
use Rattle.cli_report.specs.Shown.{IsLogIn}
use Rattle.cli_report.specs.declared.pages.Shown.{Shown}
use Rattle.cli_report.specs.declared.pages.Template.{Template}

-- The page was appended of a file of this name and what is shown of it, whose log is one of any bytes in which it counts.
abbrev pub AppendsPage : {F : Type 0} → Template → (file : List ℕ) → Shown F → (before after : Option (List ℕ)) → Type 0
AppendsPage template file shown before after = (limits : Bounds) (front : Option ℕ) (wal journal : List ℕ) → IsLogIn limits front wal journal shown.facts.log
    → (text : List ℕ) × IsPage template limits.frames wal journal file shown text × Appends before after text

-- Behind what a file had it has that page now, all of which was durable before the file got its name.
abbrev pub HasPage : {W F : Type 0} → (contents : W → Option (List ℕ)) → (is_synced is_named : W → Type 0) → Template → (file : List ℕ) → Shown F → (made : W) → Type 0
HasPage {W} contents is_synced is_named template file shown made =
    (whole : W) × AppendsPage template file shown (contents made) (contents whole) × is_synced whole × is_named whole
