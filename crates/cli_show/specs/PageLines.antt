-- The lines of a database's pages (own).
use Rattle.std.specs.Prelude.{◌≡◌, ℕ, ◌+◌, ◌<◌, ◌≤◌, List, length, slice_get, Option, Some}
use Rattle.cli_facts.specs.Faults.{IsFirstFault}
use Rattle.sqview.specs.Laid.{place_of}
use Rattle.sqview.specs.Origins.{AreFramePlaces}
use Rattle.cli_text.specs.declared.pages.Logged.{Logged}
use Rattle.cli_text.specs.declared.pages.PageLine.{PageLine}
use Rattle.cli_show.specs.Logged.{IsLoggedFrame, IsLoggedRecord}
use Rattle.cli_show.specs.Names.{names_of, IsNameAt}
use Rattle.cli_show.specs.Pages.{IsOrdered}
use Rattle.cli_show.specs.Records.{AreRecordsOf}
use Rattle.cli_show.specs.declared.surveys.Surveyed.{Surveyed}

-- where page i, from 0, stands in the log that counts: a write-ahead log whose front is above 0, or a journal
pub record IsLoggedAt {F : Type 0} (found : Surveyed F) (i : ℕ) (logged : Option Logged) : Type 0 where
  pub frame : 1 ≤ found.view.front → (wal : List ℕ) → i < found.view.count
      → AreFramePlaces found.view.page_size wal found.view.front found.view.count found.view.places.items
      → IsLoggedFrame found.view.page_size wal found.view.front (i + 1) logged
  pub record_number : found.view.front ≡ 0 → (journal : List ℕ) → i < found.view.count → AreRecordsOf journal found.records
      → IsLoggedRecord journal (place_of found.view.places.items (i + 1)) logged

-- The line of page i, from 0: its number, its role, the name of its tree, its place in the log, and the first fault that was told at it.
pub record IsPageLine {F : Type 0} (found : Surveyed F) (i : ℕ) (line : PageLine) : Type 0 where
  pub number : i < 4294967295 → line.number ≡ i + 1
  pub role : slice_get found.survey.roles.items i ≡ Some line.role
  pub name : IsNameAt (names_of found.names) line.role line.name
  pub logged : IsLoggedAt found i line.logged
  pub fault : IsOrdered found.survey → IsFirstFault found.survey.faults.items line.number line.fault

-- a line for each page
pub record ArePageLines {F : Type 0} (found : Surveyed F) (lines : List PageLine) : Type 0 where
  pub all : length lines ≡ length found.survey.roles.items
  pub each : (i : ℕ) (line : PageLine) → slice_get lines i ≡ Some line → IsPageLine found i line
