-- What is shown of a file and its log at a commit, whatever the file was before checkpoints of this log changed it.
use Rattle.std.specs.Prelude.{◌≡◌, ◌⊎◌, ℕ, ◌≤◌, ◌<◌, List, length}
use Rattle.sqval.specs.Bytes.{AreBytes}
use Rattle.sqval.specs.Database.{Database}
use Rattle.sqwal.specs.View.{IsView}
use Rattle.history.specs.Past.{IsPast}
use Rattle.history.specs.Table.{AreUntil, AreGreatest}
use Rattle.history.specs.declared.table.Table.{Table}
use Rattle.sqview.specs.declared.view_error.ViewError.TheVariants.{Unread, NoMemory}
use Rattle.sqview.specs.declared.view_error.ViewError.{ViewError}

-- at the front of a log what file and log show; before it what was there, whatever the file was before
abbrev pub ShowsAt : (front m size : ℕ) (db wal : List ℕ) → Database → Type 0
ShowsAt front m size db wal d = ((m ≡ front) × IsView size db wal m d) ⊎ ((m < front) × IsPast size wal front db m d)

-- the file couldn't be read, or there is no memory
abbrev pub IsSource : ViewError → Type 0
IsSource e = (e ≡ Unread) ⊎ (e ≡ NoMemory)

-- which pages are gone at which commits, of so many pages at least
pub record IsTable (size : ℕ) (w : List ℕ) (front : ℕ) (file : List ℕ) (pages : ℕ) (t : Table) : Type 0 where
  pub until : List ℕ
  pub are : AreUntil size w front file until
  pub greatest : AreGreatest until t.greatest.items
  pub bytes : AreBytes file
  pub long : pages ≤ length t.greatest.items
