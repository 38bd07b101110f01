-- What is wrong with files that a crash left (own).
use Rattle.std.specs.Prelude.{◌≡◌, ◌≢◌, ◌⊎◌, ℕ, ◌<◌, ◌≤◌, List, [], Some, None}
use Rattle.std.specs.List.{concat}
use Rattle.sqval.specs.Bytes.{word}
use Rattle.sqval.specs.Database.{Database, page}
use Rattle.sqcheck.specs.WellFormed.{WellFormed}
use Rattle.sqcheck.specs.Stands.{Stands}
use Rattle.sqview.specs.LogView.{Views, ViewRefused}
use Rattle.sqview.specs.Logs.{AreTwoLogs}
use Rattle.sqview.specs.declared.view_error.ViewError.{ViewError}
use Rattle.sqview.specs.declared.view_error.ViewError.TheVariants.{Header, NoMemory}
use Rattle.rig_judge.specs.Shown.{Commit, IsLastShown, FilesShow}
use Rattle.rig_judge.specs.declared.judgment.Judgment.{Judgment}
use Rattle.rig_judge.specs.declared.judgment.Judgment.TheVariants.{Kept, Lost, Mixed, Fault, Refused}

-- The judgment of a database of pages of this size, where a commit is known to be durable: it is the one of the last
-- commit that is shown, or that of none, by whether it is well formed. One that has pointer maps isn't checked.
abbrev pub IsJudged : List Commit → (known : ℕ) → Database → (size : ℕ) → Judgment → Type 0
IsJudged commits known d size (Kept k) = IsLastShown commits d (Some k) × (known ≤ k)
IsJudged commits known d size (Lost k) = IsLastShown commits d (Some k) × (k < known)
IsJudged commits known d size Mixed = IsLastShown commits d None × (WellFormed d size ⊎ (word (page d 1) 52 ≢ 0))
IsJudged commits known d size (Fault e) = IsLastShown commits d None × Stands d size e.fault e.page × ¬ WellFormed d size
IsJudged commits known d size (Refused e) = ⊥

-- The judgment of files of which one log counts, or none: that of the database that they show, or what refuses them. Where
-- memory is refused there is none.
abbrev pub IsViewJudgment : List Commit → (known : ℕ) → (db wal journal : List ℕ) → Judgment → Type 0
IsViewJudgment commits known db wal journal (Refused (Header fault)) =
    ViewRefused db wal journal (Header fault) × (db ≡ [] → IsLastShown commits [] None)
IsViewJudgment commits known db wal journal (Refused NoMemory) = ⊥
IsViewJudgment commits known db wal journal (Refused e) = ViewRefused db wal journal e
IsViewJudgment commits known db wal journal j = (size : ℕ) × (d : Database) × FilesShow size db wal journal d × IsJudged commits known d size j

-- the file that is left where a hot journal is rolled back: the pages that it restores
abbrev pub LeavesRolled : (db journal file : List ℕ) → Type 0
LeavesRolled db journal file = (size : ℕ) × (d : Database) × Views size db [] journal d × (file ≡ concat d)

-- the judgment of files beside two logs, as SQLite opens them: it rolls the journal back, and then the write-ahead log counts
abbrev pub IsRolledJudgment : List Commit → (known : ℕ) → (db wal journal : List ℕ) → Judgment → Type 0
IsRolledJudgment commits known db wal journal j =
    ((file : List ℕ) × LeavesRolled db journal file × IsViewJudgment commits known file wal [] j)
    ⊎ ((e : ViewError) × (e ≢ NoMemory) × ViewRefused db [] journal e × (j ≡ Refused e))

-- the judgment of files
abbrev pub IsFilesJudgment : List Commit → (known : ℕ) → (db wal journal : List ℕ) → Judgment → Type 0
IsFilesJudgment commits known db wal journal j =
    ((¬ AreTwoLogs wal journal) × IsViewJudgment commits known db wal journal j)
    ⊎ (AreTwoLogs wal journal × IsRolledJudgment commits known db wal journal j)
