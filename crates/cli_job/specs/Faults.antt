-- The fault that the pages of files have (own).
use Rattle.std.specs.Prelude.{◌≡◌, ◌⊎◌, ℕ, Bool, List, Option, Some, Result, Ok, Err, IsSomeAnd}
use Rattle.std.specs.Result.{result_err}
use Rattle.sqval.specs.Database.{Database}
use Rattle.sqval.specs.Limits.{Bounds}
use Rattle.sqpage.specs.declared.fault.CheckError.{CheckError}
use Rattle.sqcheck.specs.declared.survey.Survey.{Survey}
use Rattle.sqpast.specs.declared.past_error.PastError.TheVariants.{Refused}
use Rattle.sqview.specs.declared.view_error.ViewError.TheVariants as views
use Rattle.cli_words.specs.declared.requests.Commit.{Commit}
use Rattle.cli_show.specs.Pages.{IsSurveyed}
use Rattle.cli_show.specs.Views.{AskedRefused, AskedShows}
use Rattle.cli_show.specs.declared.contents.Contents.{Contents}

-- the fault that a survey names, or for which there is none
abbrev pub fault_of : Result Survey CheckError → Option CheckError
fault_of (Ok survey) = result_err survey.answer
fault_of (Err error) = Some error

-- The pages of files have this fault, or none; where the header names no database, that is their fault.
abbrev pub HaveFault : (maps : Bool) → Bounds → (at : Commit) → (files : Contents (List ℕ)) → Option CheckError → Type 0
HaveFault maps limits at files fault =
    ((size : ℕ) × (d : Database) × AskedShows at size files.db files.wal files.journal d
    × ((found : Result Survey CheckError) × IsSurveyed maps d size found × (fault ≡ fault_of found)))
    ⊎ IsSomeAnd fault (λ error. (error.page ≡ 1) × AskedRefused limits at files.db files.wal files.journal (Refused (views.Header error.fault)))
