-- The database that files had at a commit of their log, whatever the file was before checkpoints of this log changed it.
use Rattle.std.specs.Prelude.{◌≡◌, ◌≢◌, ◌↔◌, ◌⊎◌, ℕ, suc, ◌<◌, ◌≤◌, List, [], length, Result, Ok, Err}
use Rattle.sqval.specs.Database.{Database}
use Rattle.sqval.specs.Limits.{Bounds, usual}
use Rattle.sqwal.specs.Header.{named_size}
use Rattle.sqwal.specs.Frames.{IsValidFrame}
use Rattle.sqjournal.specs.Journal.{IsHot}
use Rattle.sqpage.specs.Header.{HasMagic, size_named}
use Rattle.sqpage.specs.declared.fault.Fault.TheVariants as faults
use Rattle.history.specs.Past.{IsUnknown}
use Rattle.history.specs.Known.{IsPoint}
use Rattle.sqview.specs.At.{AtRefusedWithin, IsAboveAtWithin}
use Rattle.sqview.specs.LogView.{head_of, IsOwn, IsLogged, IsAlone, Views, pages_of}
use Rattle.sqview.specs.Logs.{AreTwoLogs}
use Rattle.sqview.specs.Origins.{AreFramePlaces}
use Rattle.sqview.specs.declared.view.View.{View}
use Rattle.sqview.specs.declared.view_error.ViewError.TheVariants.{TooLarge, Header, Unread}
use Rattle.sqpast.specs.Past.{ShowsAt}
use Rattle.sqpast.specs.declared.past_error.PastError.{PastError}
use Rattle.sqpast.specs.declared.past_error.PastError.TheVariants.{Refused, CommitOverwritten}

-- no write-ahead log has a commit, or a hot journal is current
abbrev pub IsWithoutLog : (wal journal : List ℕ) → Type 0
IsWithoutLog wal journal = IsAlone wal journal ⊎ (IsHot journal × ¬ AreTwoLogs wal journal)

-- The database at commit frame m, or at 0, of pages of this size. Without a log only 0 has one, the file's own.
abbrev pub PastViews : (m size : ℕ) (db wal journal : List ℕ) → Database → Type 0
PastViews m size db wal journal d =
    ((m ≡ 0) × IsOwn size db d × IsWithoutLog wal journal)
    ⊎ ((front : ℕ) × IsLogged wal journal front × IsPoint size wal m × (size ≡ named_size wal) × ShowsAt front m size db wal d)

-- At the front of a log it is the database that the files show.
abbrev pub PastFrontIsShown : Type 0
PastFrontIsShown = (front size : ℕ) (db wal journal : List ℕ) (d : Database) → IsLogged wal journal front
    → PastViews front size db wal journal d ↔ Views size db wal journal d

-- So it is at 0 if nothing is beside the file.
abbrev pub PastZeroIsShown : Type 0
PastZeroIsShown = (size : ℕ) (db wal journal : List ℕ) (d : Database) → IsAlone wal journal → PastViews 0 size db wal journal d ↔ Views size db wal journal d

-- the log has more frames than are read within these limits
abbrev pub IsLogTooLongWithin : (limits : Bounds) (wal journal : List ℕ) → Type 0
IsLogTooLongWithin limits wal journal = (¬ IsHot journal) × IsValidFrame (named_size wal) wal (suc limits.frames)

-- the file's header names another page size than its log
abbrev pub NamesOtherSize : (db wal journal : List ℕ) → Type 0
NamesOtherSize db wal journal = (front : ℕ) × IsLogged wal journal front × (size_named (head_of db) ≢ named_size wal)

-- What refuses a view at commit frame m, or at 0. CommitOverwritten: the file may have been two that have different
-- databases there. At 0 a log counts too. Otherwise as without checkpoints.
abbrev pub PastRefusedWithin : (limits : Bounds) (m : ℕ) (db wal journal : List ℕ) → PastError → Type 0
PastRefusedWithin limits m db wal journal CommitOverwritten =
    (front : ℕ) × IsLogged wal journal front × IsPoint (named_size wal) wal m × (m < front) × IsUnknown (named_size wal) wal front db m
PastRefusedWithin limits m db wal journal (Refused TooLarge) = AtRefusedWithin limits m db wal journal TooLarge ⊎ ((m ≡ 0) × IsLogTooLongWithin limits wal journal)
PastRefusedWithin limits m db wal journal (Refused (Header faults.PageSize)) = AtRefusedWithin limits m db wal journal (Header faults.PageSize) ⊎ ((m ≡ 0) × NamesOtherSize db wal journal)
PastRefusedWithin limits m db wal journal (Refused e) = AtRefusedWithin limits m db wal journal e

-- a view of these files at commit frame m, or at 0, that is not refused
pub record IsPastShownWithin {F : Type 0} (limits : Bounds) (bytes : F → List ℕ) (m : ℕ) (db wal journal : List ℕ) (v : View F) : Type 0 where
  pub shows : PastViews m v.page_size db wal journal (pages_of bytes v)
  pub stands : v.front ≡ m
  pub one : ¬ AreTwoLogs wal journal
  pub short : ¬ IsLogTooLongWithin limits wal journal
  pub within : ¬ IsAboveAtWithin limits m db wal journal
  pub headed : m ≡ 0 → HasMagic (head_of db)
  pub unplaced : m ≡ 0 → v.places.items ≡ []
  pub placed : 1 ≤ m → length v.places.items ≡ v.count
  pub framed : 1 ≤ m → AreFramePlaces v.page_size wal m v.count v.places.items

abbrev pub PastAnswerWithin : {F : Type 0} → (limits : Bounds) (bytes : F → List ℕ) (m : ℕ) (db wal journal : List ℕ) → Result (View F) PastError → Type 0
PastAnswerWithin limits bytes m db wal journal (Ok v) = IsPastShownWithin limits bytes m db wal journal v
PastAnswerWithin limits bytes m db wal journal (Err e) = PastRefusedWithin limits m db wal journal e

-- the answer isn't that a file could not be read
abbrev pub IsPastRead : {A : Type 0} → Result A PastError → Type 0
IsPastRead (Ok x) = Unit {0}
IsPastRead (Err (Refused Unread)) = ⊥
IsPastRead (Err e) = Unit {0}

-- the same at the usual limits
abbrev pub PastAnswer : {F : Type 0} → (bytes : F → List ℕ) → (m : ℕ) (db wal journal : List ℕ) → Result (View F) PastError → Type 0
PastAnswer bytes m db wal journal r = PastAnswerWithin usual bytes m db wal journal r
