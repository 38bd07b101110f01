-- What is found of files.
use Rattle.std.specs.Prelude.{◌≡◌, ◌⊎◌, ℕ, ◌^◌, ◌<◌, Bool, List, length, Option, None, Some, Ok, Err}
use Rattle.std.specs.Result.{result_err}
use Rattle.sqval.specs.Database.{Database}
use Rattle.sqval.specs.Limits.{Bounds}
use Rattle.sqpage.specs.Freelist.{IsPage}
use Rattle.sqpage.specs.declared.fault.CheckError.{CheckError}
use Rattle.sqjournal.specs.Journal.{IsHot}
use Rattle.sqview.specs.LogView.{pages_of}
use Rattle.sqview.specs.declared.view_error.ViewError.TheVariants as views
use Rattle.sqpast.specs.declared.past_error.PastError.TheVariants.{Refused}
use Rattle.sqpast.specs.declared.past_error.PastError.TheVariants as past
use Rattle.cli_words.specs.declared.requests.Commit.{Commit}
use Rattle.cli_facts.specs.Fronts.{IsFrontOf}
use Rattle.cli_facts.specs.declared.fronts.Front.{Front}
use Rattle.cli_facts.specs.declared.outcome.Refusal.{Refusal}
use Rattle.cli_facts.specs.declared.outcome.Refusal.TheVariants.{TwoLogs, TooLarge, AutoVacuum, NoSuchPage, NoSuchCommit, CommitOverwritten, NoMemory}
use Rattle.cli_show.specs.Pages.{IsSurveyed, IsOrdered, IsUnsurveyed}
use Rattle.cli_show.specs.Records.{AreRecordsOf}
use Rattle.cli_show.specs.Views.{AskedAnswer, AskedShows, AskedRefused}
use Rattle.cli_show.specs.declared.contents.Contents.{Contents}
use Rattle.cli_show.specs.declared.surveys.Found.{Found}
use Rattle.cli_show.specs.declared.surveys.Found.TheVariants.{Pages, Nothing}
use Rattle.cli_show.specs.declared.surveys.Surveyed.{Surveyed}

-- the fault that `check` answers, if there is one
abbrev pub fault_in : {F : Type 0} → Found F → Option CheckError
fault_in (Pages found) = result_err found.survey.answer
fault_in (Nothing error) = Some error

-- the front at which the view stands
abbrev pub IsFrontFound : {F : Type 0} → Found F → Option Front → Type 0
IsFrontFound (Pages found) front = IsFrontOf found.view.front found.view.page_size front
IsFrontFound (Nothing error) front = front ≡ None

-- the files of the view give their bytes
abbrev pub IsGivenFound : {F : Type 0} → (gives : F → Type 0) → Found F → Type 0
IsGivenFound gives (Pages found) = gives found.view.db × gives found.view.log
IsGivenFound gives (Nothing error) = Unit {0}

-- Of files: the view that is asked for, the survey of its pages, with pointer maps or without, and the records of the hot
-- journal.
pub record IsSurveyOf {F : Type 0} (maps : Bool) (limits : Bounds) (bytes : F → List ℕ) (at : Commit) (files : Contents (List ℕ)) (found : Surveyed F) : Type 0 where
  pub view : AskedAnswer limits bytes at files.db files.wal files.journal (Ok found.view)
  pub survey : IsSurveyed maps (pages_of bytes found.view) found.view.page_size (Ok found.survey)
  pub ordered : IsOrdered found.survey
  pub records : AreRecordsOf files.journal found.records

-- That; or the fault that stands alone: that of a header at page 1, or the one for which the pages can't be walked over.
abbrev pub IsFoundOf : {F : Type 0} → (maps : Bool) → (limits : Bounds) → (bytes : F → List ℕ) → (at : Commit) → (files : Contents (List ℕ)) → Found F → Type 0
IsFoundOf maps limits bytes at files (Pages found) = IsSurveyOf maps limits bytes at files found
IsFoundOf maps limits bytes at files (Nothing error) =
    ((error.page ≡ 1) × AskedRefused limits at files.db files.wal files.journal (Refused (views.Header error.fault)))
    ⊎ ((size : ℕ) × (d : Database) × AskedShows at size files.db files.wal files.journal d × IsSurveyed maps d size (Err error))

-- Why nothing is found of files that are given: what refuses their view or their journal, or their database has pointer
-- maps or no page; or memory ran out.
abbrev pub IsUnfound : (maps : Bool) → (limits : Bounds) → (at : Commit) → (files : Contents (List ℕ)) → Refusal → Type 0
IsUnfound maps limits at files TwoLogs = AskedRefused limits at files.db files.wal files.journal (Refused views.TwoLogs)
IsUnfound maps limits at files NoSuchCommit = AskedRefused limits at files.db files.wal files.journal (Refused views.NoSuchCommit)
IsUnfound maps limits at files CommitOverwritten = AskedRefused limits at files.db files.wal files.journal past.CommitOverwritten
IsUnfound maps limits at files TooLarge =
    (IsHot files.journal × (2 ^ 40 < length files.journal)) ⊎ AskedRefused limits at files.db files.wal files.journal (Refused views.TooLarge)
IsUnfound maps limits at files AutoVacuum = (size : ℕ) × (d : Database) × AskedShows at size files.db files.wal files.journal d × IsUnsurveyed maps d size AutoVacuum
IsUnfound maps limits at files NoSuchPage = (size : ℕ) × (d : Database) × AskedShows at size files.db files.wal files.journal d × ¬ IsPage d 1
IsUnfound maps limits at files NoMemory = Unit {0}
IsUnfound maps limits at files _ = ⊥
