-- The database that a file and its log define at a commit (fileformat2, 4.5).
use Rattle.std.specs.Prelude.{◌≡◌, ◌↔◌, ◌⊎◌, ℕ, suc, ◌*◌, ◌<◌, ◌≤◌, List, [], length, Result, Ok, Err}
use Rattle.sqval.specs.Database.{Database}
use Rattle.sqval.specs.Limits.{Bounds, usual}
use Rattle.sqval.specs.PageSize.{IsPageSize}
use Rattle.sqwal.specs.Header.{named_size}
use Rattle.sqwal.specs.Frames.{size_of, IsValidFrame, IsCommit}
use Rattle.sqwal.specs.View.{IsView}
use Rattle.sqjournal.specs.Journal.{IsHot}
use Rattle.sqpage.specs.Header.{HasMagic, HasPageSize, size_named}
use Rattle.sqpage.specs.declared.fault.Fault.TheVariants as faults
use Rattle.sqview.specs.LogView.{head_of, own_pages, IsOwn, IsLogged, IsAlone, Views, pages_of}
use Rattle.sqview.specs.Logs.{AreTwoLogs}
use Rattle.sqview.specs.Places.{most_kept}
use Rattle.sqview.specs.Origins.{AreFramePlaces}
use Rattle.sqview.specs.declared.view.View.{View}
use Rattle.sqview.specs.declared.view_error.ViewError.{ViewError}
use Rattle.sqview.specs.declared.view_error.ViewError.TheVariants.{TwoLogs, TooLarge, Header, Unread, NoMemory, NoSuchCommit}

-- frame m of the log ends a commit, and no hot journal lies beside it
pub record IsCommitAt (wal journal : List ℕ) (m : ℕ) : Type 0 where
  pub cold : ¬ IsHot journal
  pub valid : IsValidFrame (named_size wal) wal m
  pub commit : IsCommit (named_size wal) wal m

-- The database at commit frame m, of pages of this size: at 0 the file's own, whatever the log that counts says. None
-- where both logs count.
abbrev pub ViewsAt : (m size : ℕ) (db wal journal : List ℕ) → Database → Type 0
ViewsAt m size db wal journal d =
    ((m ≡ 0) × IsOwn size db d × ¬ AreTwoLogs wal journal)
    ⊎ (IsCommitAt wal journal m × (size ≡ named_size wal) × IsView size db wal m d)

-- at the front of a log that counts it is the database that file and log show
abbrev pub FrontIsShown : Type 0
FrontIsShown = (front size : ℕ) (db wal journal : List ℕ) (d : Database) → IsLogged wal journal front
    → ViewsAt front size db wal journal d ↔ Views size db wal journal d

-- and at 0 where no log counts
abbrev pub ZeroIsShown : Type 0
ZeroIsShown = (size : ℕ) (db wal journal : List ℕ) (d : Database) → IsAlone wal journal → ViewsAt 0 size db wal journal d ↔ Views size db wal journal d

-- the size of its pages, and how many there are
abbrev pub HasSizesAt : (m size count : ℕ) (db wal journal : List ℕ) → Type 0
HasSizesAt m size count db wal journal =
    ((m ≡ 0) × IsPageSize size × (size ≡ size_named (head_of db)) × (count ≡ own_pages size db))
    ⊎ (IsCommitAt wal journal m × (size ≡ named_size wal) × (count ≡ size_of size wal m))

-- a frame is asked for of a log that is longer than one that is read within these limits
abbrev pub IsTooLongAtWithin : (limits : Bounds) (m : ℕ) (wal journal : List ℕ) → Type 0
IsTooLongAtWithin limits m wal journal = (1 ≤ m) × (¬ IsHot journal) × IsValidFrame (named_size wal) wal (suc limits.frames)

-- the database would be above the limit
abbrev pub IsAboveAtWithin : (limits : Bounds) (m : ℕ) (db wal journal : List ℕ) → Type 0
IsAboveAtWithin limits m db wal journal = (size : ℕ) × (count : ℕ) × HasSizesAt m size count db wal journal × (limits.bytes < count * size)

-- what refuses a view at a commit frame within these limits, where the file is read: the first condition that holds
abbrev pub AtRefusedWithin : (limits : Bounds) (m : ℕ) (db wal journal : List ℕ) → ViewError → Type 0
AtRefusedWithin limits m db wal journal TwoLogs = AreTwoLogs wal journal
AtRefusedWithin limits m db wal journal TooLarge = (¬ AreTwoLogs wal journal) × (IsTooLongAtWithin limits m wal journal ⊎ ((¬ IsTooLongAtWithin limits m wal journal) × IsAboveAtWithin limits m db wal journal))
AtRefusedWithin limits m db wal journal NoSuchCommit = (¬ AreTwoLogs wal journal) × (¬ IsTooLongAtWithin limits m wal journal) × (1 ≤ m) × ¬ IsCommitAt wal journal m
AtRefusedWithin limits m db wal journal (Header faults.Magic) = (m ≡ 0) × (¬ AreTwoLogs wal journal) × (¬ IsAboveAtWithin limits m db wal journal) × ¬ HasMagic (head_of db)
AtRefusedWithin limits m db wal journal (Header faults.PageSize) = (m ≡ 0) × (¬ AreTwoLogs wal journal) × (¬ IsAboveAtWithin limits m db wal journal) × HasMagic (head_of db) × ¬ HasPageSize (head_of db)
AtRefusedWithin limits m db wal journal (Header _) = ⊥
AtRefusedWithin limits m db wal journal Unread = ⊥
AtRefusedWithin limits m db wal journal NoMemory = Unit {0}

-- a view of these files at a commit frame that is not refused
pub record IsShownAtWithin {F : Type 0} (limits : Bounds) (bytes : F → List ℕ) (m : ℕ) (db wal journal : List ℕ) (v : View F) : Type 0 where
  pub shows : ViewsAt m v.page_size db wal journal (pages_of bytes v)
  pub stands : v.front ≡ m
  pub one : ¬ AreTwoLogs wal journal
  pub short : ¬ IsTooLongAtWithin limits m wal journal
  pub within : ¬ IsAboveAtWithin limits m db wal journal
  pub headed : m ≡ 0 → HasMagic (head_of db)
  pub unplaced : m ≡ 0 → v.places.items ≡ []
  pub placed : 1 ≤ m → length v.places.items ≡ v.count
  pub framed : 1 ≤ m → AreFramePlaces v.page_size wal m v.count v.places.items
  pub few : v.places.kept ≤ most_kept v.page_size (bytes v.log)

abbrev pub AtAnswerWithin : {F : Type 0} → (limits : Bounds) (bytes : F → List ℕ) (m : ℕ) (db wal journal : List ℕ) → Result (View F) ViewError → Type 0
AtAnswerWithin limits bytes m db wal journal (Ok v) = IsShownAtWithin limits bytes m db wal journal v
AtAnswerWithin limits bytes m db wal journal (Err e) = AtRefusedWithin limits m db wal journal e

-- the same at the usual limits
abbrev pub AtRefused : (m : ℕ) (db wal journal : List ℕ) → ViewError → Type 0
AtRefused m db wal journal e = AtRefusedWithin usual m db wal journal e

abbrev pub AtAnswer : {F : Type 0} → (bytes : F → List ℕ) → (m : ℕ) (db wal journal : List ℕ) → Result (View F) ViewError → Type 0
AtAnswer bytes m db wal journal r = AtAnswerWithin usual bytes m db wal journal r
