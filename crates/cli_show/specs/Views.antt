-- The view that is asked for, and what is found there.
use Rattle.std.specs.Prelude.{◌≡◌, ◌⊎◌, ℕ, Bool, List, Result, Ok, Err}
use Rattle.sqjournal.specs.Journal.{IsHot}
use Rattle.sqval.specs.Limits.{Bounds}
use Rattle.sqval.specs.Database.{Database}
use Rattle.sqview.specs.At.{ViewsAt, AtRefusedWithin, IsShownAtWithin}
use Rattle.sqview.specs.LogView.{Views, ViewRefusedWithin, IsShownWithin}
use Rattle.sqview.specs.Verdicts.{FindsWith, IsUnjudgedWith}
use Rattle.sqview.specs.declared.judge_error.JudgeError.TheVariants as judgments
use Rattle.sqview.specs.declared.verdict.Verdict.{Verdict}
use Rattle.sqview.specs.declared.verdict.Verdict.TheVariants.{Clean, Damaged}
use Rattle.sqview.specs.declared.view.View.{View}
use Rattle.sqview.specs.declared.view_error.ViewError.TheVariants as views
use Rattle.sqpast.specs.Used.{used_part, AreCounts, IsUsedPart}
use Rattle.sqpast.specs.declared.used.Counts.{Counts}
use Rattle.sqpast.specs.Files.{PastViews, PastRefusedWithin, IsPastShownWithin}
use Rattle.sqpast.specs.declared.past_error.PastError.{PastError}
use Rattle.sqpast.specs.declared.past_error.PastError.TheVariants.{Refused}
use Rattle.sqpast.specs.declared.past_error.PastError.TheVariants as past
use Rattle.cli_facts.specs.Refusals.{refusal_of_past}
use Rattle.cli_facts.specs.declared.outcome.Refusal.{Refusal}
use Rattle.cli_facts.specs.declared.outcome.Refusal.TheVariants.{AutoVacuum, CommitOverwritten, NoMemory, NoSuchCommit, TooLarge, TwoLogs}
use Rattle.cli_words.specs.Commits.{commit_named}
use Rattle.cli_words.specs.declared.requests.Commit.{Commit}
use Rattle.cli_words.specs.declared.requests.Commit.TheVariants.{Last, Front, At}
use Rattle.cli_words.specs.declared.requests.Options.{Options}
use Rattle.cli_show.specs.Limits.{limits_named}

-- the database of these files there, of pages of this size: at a commit that is asked for the one that was there,
-- whatever was copied into the file since
abbrev pub WholeShows : (at : Commit) → (size : ℕ) → (db wal journal : List ℕ) → Database → Type 0
WholeShows Last size db wal journal d = Views size db wal journal d
WholeShows (Front m) size db wal journal d = ViewsAt m size db wal journal d
WholeShows (At m) size db wal journal d = PastViews m size db wal journal d

-- the pages of it that SQLite would use
abbrev pub AskedShows : (at : Commit) → (size : ℕ) → (db wal journal : List ℕ) → Database → Type 0
AskedShows at size db wal journal d = (whole : Database) × WholeShows at size db wal journal whole × (d ≡ used_part whole)

-- how many pages it has, and how many its header says
abbrev pub AreAskedCounts : (at : Commit) → (db wal journal : List ℕ) → Counts → Type 0
AreAskedCounts at db wal journal counts = (size : ℕ) × (whole : Database) × WholeShows at size db wal journal whole × AreCounts whole counts

-- a view of the whole database there
abbrev pub IsWholeView : {F : Type 0} → (limits : Bounds) (bytes : F → List ℕ) → (at : Commit) → (db wal journal : List ℕ) → View F → Type 0
IsWholeView limits bytes Last db wal journal v = IsShownWithin limits bytes db wal journal v
IsWholeView limits bytes (Front m) db wal journal v = IsShownAtWithin limits bytes m db wal journal v
IsWholeView limits bytes (At m) db wal journal v = IsPastShownWithin limits bytes m db wal journal v

-- a view of the pages of it that SQLite would use
abbrev pub IsAskedView : {F : Type 0} → (limits : Bounds) (bytes : F → List ℕ) → (at : Commit) → (db wal journal : List ℕ) → View F → Type 0
IsAskedView {F} limits bytes at db wal journal v = (whole : View F) × IsWholeView limits bytes at db wal journal whole × IsUsedPart bytes whole v

-- why there is none
abbrev pub AskedRefused : (limits : Bounds) → (at : Commit) → (db wal journal : List ℕ) → PastError → Type 0
AskedRefused limits Last db wal journal (Refused error) = ViewRefusedWithin limits db wal journal error
AskedRefused limits Last db wal journal past.CommitOverwritten = ⊥
AskedRefused limits (Front m) db wal journal (Refused error) = AtRefusedWithin limits m db wal journal error
AskedRefused limits (Front m) db wal journal past.CommitOverwritten = ⊥
AskedRefused limits (At m) db wal journal error = PastRefusedWithin limits m db wal journal error

abbrev pub WholeAnswer : {F : Type 0} → (limits : Bounds) (bytes : F → List ℕ) → (at : Commit) → (db wal journal : List ℕ)
    → Result (View F) PastError → Type 0
WholeAnswer limits bytes at db wal journal (Ok v) = IsWholeView limits bytes at db wal journal v
WholeAnswer limits bytes at db wal journal (Err error) = AskedRefused limits at db wal journal error

abbrev pub AskedAnswer : {F : Type 0} → (limits : Bounds) (bytes : F → List ℕ) → (at : Commit) → (db wal journal : List ℕ)
    → Result (View F) PastError → Type 0
AskedAnswer limits bytes at db wal journal (Ok v) = IsAskedView limits bytes at db wal journal v
AskedAnswer limits bytes at db wal journal (Err error) = AskedRefused limits at db wal journal error

-- whose bytes it reads a log's pages from: at the last commit a hot journal's, otherwise the write-ahead log's
abbrev pub ReadsLog : (at : Commit) → (wal journal log : List ℕ) → Type 0
ReadsLog Last wal journal log = (IsHot journal → log ≡ journal) × ((¬ IsHot journal) → log ≡ wal)
ReadsLog (Front m) wal journal log = log ≡ wal
ReadsLog (At m) wal journal log = log ≡ wal

-- the fault of the file's own header, which names no database there
abbrev pub IsHeadless : (limits : Bounds) → (at : Commit) → (db wal journal : List ℕ) → Verdict → Type 0
IsHeadless limits at db wal journal (Clean report) = ⊥
IsHeadless limits at db wal journal (Damaged e) = (e.page ≡ 1) × AskedRefused limits at db wal journal (Refused (views.Header e.fault))

-- what is found of the database there, with pointer maps or without; or that fault
abbrev pub IsFound : (maps : Bool) → (limits : Bounds) → (at : Commit) → (db wal journal : List ℕ) → Verdict → Type 0
IsFound maps limits at db wal journal verdict =
    ((size : ℕ) × (d : Database) × AskedShows at size db wal journal d × FindsWith maps d size verdict)
    ⊎ IsHeadless limits at db wal journal verdict

-- why nothing is found there: what refuses their view, or the database that they show isn't judged
abbrev pub IsNotFound : (maps : Bool) → (limits : Bounds) → (at : Commit) → (db wal journal : List ℕ) → Refusal → Type 0
IsNotFound maps limits at db wal journal TwoLogs = AskedRefused limits at db wal journal (Refused views.TwoLogs)
IsNotFound maps limits at db wal journal TooLarge = AskedRefused limits at db wal journal (Refused views.TooLarge)
IsNotFound maps limits at db wal journal NoSuchCommit = AskedRefused limits at db wal journal (Refused views.NoSuchCommit)
IsNotFound maps limits at db wal journal CommitOverwritten = AskedRefused limits at db wal journal past.CommitOverwritten
IsNotFound maps limits at db wal journal AutoVacuum = (size : ℕ) × (d : Database) × AskedShows at size db wal journal d × IsUnjudgedWith maps d judgments.AutoVacuum
IsNotFound maps limits at db wal journal NoMemory = Unit {0}
IsNotFound maps limits at db wal journal _ = ⊥

-- the same, as options ask for it and as the program refuses it
abbrev pub IsUnasked : Options → (db wal journal : List ℕ) → Refusal → Type 0
IsUnasked options db wal journal refusal = (error : PastError) × AskedRefused (limits_named options.large) (commit_named options) db wal journal error
    × (refusal ≡ refusal_of_past error)
