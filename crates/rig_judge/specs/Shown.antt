-- Which committed database files show (own).
use Rattle.std.specs.Prelude.{◌≡◌, ◌≢◌, ◌⊎◌, ◌↔◌, ℕ, ◌+◌, ◌-◌, ◌<◌, ◌≤◌, IsTrue, Bool, true, false, List, [], ◌∷◌, ◌++◌, length, get_or, map, Option, Some, None}
use Rattle.std.specs.List.{Contains}
use Rattle.sqval.specs.Database.{Database, page}
use Rattle.sqview.specs.LogView.{IsAlone, Views, ViewRefused}
use Rattle.sqview.specs.declared.view_error.ViewError.{ViewError}
use Rattle.sqview.specs.declared.view_error.ViewError.TheVariants.{NoMemory}
use Rattle.rig_judge.specs.Leaves.{AreLeaves}
use Rattle.rig_judge.specs.declared.snapshot.Snapshot.{Snapshot}
use Rattle.rig_judge.specs.declared.history.History.{History}

-- a committed database, and the pages of it whose bytes say nothing
pub record Commit : Type 0 where
  pub pages : Database
  pub leaves : List ℕ

abbrev pub commit_of : Snapshot → Commit
commit_of s = record { pages = s.pages.items; leaves = s.leaves.items }

-- this database, with the leaves of its freelist
pub record IsTaken (d : Database) (c : Commit) : Type 0 where
  pub pages : c.pages ≡ d
  pub leaves : AreLeaves d c.leaves

-- page p of a commit has these bytes, or may hold any
abbrev pub AgreesAt : Commit → (p : ℕ) → List ℕ → Type 0
AgreesAt c p bytes = (bytes ≡ page c.pages p) ⊎ Contains c.leaves p

-- A database shows a commit: it has as many pages, and each that isn't a leaf of the commit's freelist has its bytes.
abbrev pub Shows : Commit → Database → Type 0
Shows c d = (length d ≡ length c.pages) × ((p : ℕ) → 1 ≤ p → p ≤ length d → AgreesAt c p (page d p))

-- the commits of a history, the oldest first
abbrev pub commits_of : History → List Commit
commits_of h = map commit_of h.commits.items

-- no commit
abbrev pub nothing : Commit
nothing = record { pages = []; leaves = [] }

-- commit number k, counted from 0
abbrev pub nth : List Commit → (k : ℕ) → Commit
nth commits k = get_or commits k nothing

-- a database shows no commit from number `from` on
abbrev pub ShowsNoneFrom : List Commit → (from : ℕ) → Database → Type 0
ShowsNoneFrom commits from d = (j : ℕ) → from ≤ j → j < length commits → ¬ Shows (nth commits j) d

-- the number of the last commit that a database shows
abbrev pub IsLastShown : List Commit → Database → Option ℕ → Type 0
IsLastShown commits d None = ShowsNoneFrom commits 0 d
IsLastShown commits d (Some k) = (k < length commits) × Shows (nth commits k) d × ShowsNoneFrom commits (k + 1) d

-- a database shows the last commit
abbrev pub ShowsLast : List Commit → Database → Type 0
ShowsLast commits d = (0 < length commits) × Shows (nth commits (length commits - 1)) d

-- the database that files show; a file without bytes, beside which no log counts, shows the one of no pages
abbrev pub FilesShow : (size : ℕ) (db wal journal : List ℕ) → Database → Type 0
FilesShow size db wal journal d = Views size db wal journal d ⊎ ((db ≡ []) × IsAlone wal journal × (d ≡ []))

-- a database was taken, as it isn't the last commit's; or it is that
abbrev pub IsAdded : Database → (taken : Bool) → (old new : List Commit) → Type 0
IsAdded d true old new = (¬ ShowsLast old d) × ((c : Commit) × IsTaken d c × (new ≡ old ++ c ∷ []))
IsAdded d false old new = ShowsLast old d × (new ≡ old)

-- the same of the database that files show; or they show none, for another reason than that memory was refused
abbrev pub IsNoted : (db wal journal : List ℕ) → (taken : Bool) → (old new : List Commit) → Type 0
IsNoted db wal journal taken old new =
    ((size : ℕ) × (d : Database) × FilesShow size db wal journal d × IsAdded d taken old new)
    ⊎ ((e : ViewError) × (e ≢ NoMemory) × ViewRefused db wal journal e × (taken ≡ false) × (new ≡ old))

-- whether files show a commit; those that show no database, for another reason than that memory was refused, don't
abbrev pub IsShowing : Commit → (db wal journal : List ℕ) → (shows : Bool) → Type 0
IsShowing c db wal journal shows =
    ((size : ℕ) × (d : Database) × FilesShow size db wal journal d × (IsTrue shows ↔ Shows c d))
    ⊎ ((e : ViewError) × (e ≢ NoMemory) × ViewRefused db wal journal e × (shows ≡ false))
