-- The database that a file and the log beside it show.
use Rattle.std.specs.Prelude.{◌≡◌, ◌⊎◌, ℕ, suc, ◌*◌, ◌^◌, ◌<◌, ◌≤◌, ◌==◌, cond, List, [], length, Result, Ok, Err}
use Rattle.sqval.specs.Bytes.{word}
use Rattle.sqval.specs.Database.{Database, page, file_page, file_pages}
use Rattle.sqval.specs.Limits.{Bounds, usual}
use Rattle.sqval.specs.PageSize.{IsPageSize}
use Rattle.sqwal.specs.Header.{named_size}
use Rattle.sqwal.specs.Frames.{size_of, IsValidFrame, IsFront}
use Rattle.sqwal.specs.View.{IsView}
use Rattle.sqjournal.specs.Journal.{IsHot}
use Rattle.sqjournal.specs.Restored.{IsRolledBack}
use Rattle.sqpage.specs.Header.{HasMagic, HasPageSize, size_named}
use Rattle.sqpage.specs.declared.fault.Fault.TheVariants as faults
use Rattle.sqview.specs.Laid.{laid}
use Rattle.sqview.specs.Logs.{AreTwoLogs}
use Rattle.sqview.specs.Places.{most_kept}
use Rattle.sqview.specs.Origins.{AreFramePlaces, AreJournalPlaces}
use Rattle.sqview.specs.declared.view.View.{View}
use Rattle.sqview.specs.declared.view_error.ViewError.{ViewError}
use Rattle.sqview.specs.declared.view_error.ViewError.TheVariants.{TwoLogs, TooLarge, Header, Unread, NoMemory, NoSuchCommit}

-- the first 100 bytes of a file, with zeros past its end
unfoldable pub head_of : (file : List ℕ) → List ℕ
head_of file = file_page 100 file 1

-- How many pages a file has: as many as its header says, where the number isn't zero and was written with the last
-- change (fileformat2, 1.3.7), otherwise by its length.
unfoldable pub own_pages : (size : ℕ) → (file : List ℕ) → ℕ
own_pages size file =
    cond (word (head_of file) 28 == 0) (file_pages size file)
    (cond (word (head_of file) 24 == word (head_of file) 92) (word (head_of file) 28) (file_pages size file))

-- the database of a file by its own header, with zeros past the file's end
pub record IsOwn (size : ℕ) (file : List ℕ) (d : Database) : Type 0 where
  pub size_is : IsPageSize size
  pub named : size ≡ size_named (head_of file)
  pub count : length d ≡ own_pages size file
  pub each : (p : ℕ) → 1 ≤ p → p ≤ length d → page d p ≡ file_page size file p

-- the log has a front, and no hot journal lies beside it
pub record IsLogged (wal journal : List ℕ) (front : ℕ) : Type 0 where
  pub cold : ¬ IsHot journal
  pub some : 1 ≤ front
  pub is : IsFront (named_size wal) wal front

-- neither the journal nor the log says anything
pub record IsAlone (wal journal : List ℕ) : Type 0 where
  pub cold : ¬ IsHot journal
  pub none : IsFront (named_size wal) wal 0

-- The database that a file shows with its log and its journal, of pages of this size: the one that a hot journal
-- restores, otherwise the one at the log's front, otherwise the file's own. None where both logs count.
abbrev pub Views : (size : ℕ) (db wal journal : List ℕ) → Database → Type 0
Views size db wal journal d =
    (IsHot journal × (size ≡ word journal 24) × IsRolledBack db journal d × ¬ AreTwoLogs wal journal)
    ⊎ ((front : ℕ) × IsLogged wal journal front × (size ≡ named_size wal) × IsView size db wal front d)
    ⊎ (IsAlone wal journal × IsOwn size db d)

-- the size of its pages, and how many there are
abbrev pub HasSizes : (size count : ℕ) (db wal journal : List ℕ) → Type 0
HasSizes size count db wal journal =
    (IsHot journal × (size ≡ word journal 24) × (count ≡ word journal 16))
    ⊎ ((front : ℕ) × IsLogged wal journal front × (size ≡ named_size wal) × (count ≡ size_of size wal front))
    ⊎ (IsAlone wal journal × IsPageSize size × (size ≡ size_named (head_of db)) × (count ≡ own_pages size db))

-- the one that counts is longer than one that is read within these limits: a journal of more than 2 ^ 40 bytes, or a
-- log of more valid frames
abbrev pub IsTooLongWithin : (limits : Bounds) (wal journal : List ℕ) → Type 0
IsTooLongWithin limits wal journal =
    (IsHot journal × (2 ^ 40 < length journal)) ⊎ ((¬ IsHot journal) × IsValidFrame (named_size wal) wal (suc limits.frames))

-- the database would be above the limit
abbrev pub IsAboveWithin : (limits : Bounds) (db wal journal : List ℕ) → Type 0
IsAboveWithin limits db wal journal = (size : ℕ) × (count : ℕ) × HasSizes size count db wal journal × (limits.bytes < count * size)

-- what refuses a view within these limits, where the file is read: the first condition that holds
abbrev pub ViewRefusedWithin : (limits : Bounds) (db wal journal : List ℕ) → ViewError → Type 0
ViewRefusedWithin limits db wal journal TwoLogs = AreTwoLogs wal journal
ViewRefusedWithin limits db wal journal TooLarge = (¬ AreTwoLogs wal journal) × (IsTooLongWithin limits wal journal ⊎ ((¬ IsTooLongWithin limits wal journal) × IsAboveWithin limits db wal journal))
ViewRefusedWithin limits db wal journal (Header faults.Magic) = (¬ IsTooLongWithin limits wal journal) × (¬ IsAboveWithin limits db wal journal) × IsAlone wal journal × ¬ HasMagic (head_of db)
ViewRefusedWithin limits db wal journal (Header faults.PageSize) = (¬ IsTooLongWithin limits wal journal) × (¬ IsAboveWithin limits db wal journal) × IsAlone wal journal × HasMagic (head_of db) × ¬ HasPageSize (head_of db)
ViewRefusedWithin limits db wal journal (Header _) = ⊥
ViewRefusedWithin limits db wal journal Unread = ⊥
ViewRefusedWithin limits db wal journal NoMemory = Unit {0}
ViewRefusedWithin limits db wal journal NoSuchCommit = ⊥

-- the pages of a view, by what its file and its log have
abbrev pub pages_of : {F : Type 0} → (bytes : F → List ℕ) → View F → Database
pages_of bytes v = laid v.page_size v.count (bytes v.db) (bytes v.log) v.places.items

-- the frame at which a view stands: the front of the log where that counts, otherwise 0
abbrev pub StandsAt : (wal journal : List ℕ) (front : ℕ) → Type 0
StandsAt wal journal front = IsLogged wal journal front ⊎ ((front ≡ 0) × ((m : ℕ) → ¬ IsLogged wal journal m))

-- a view of these files that is not refused
pub record IsShownWithin {F : Type 0} (limits : Bounds) (bytes : F → List ℕ) (db wal journal : List ℕ) (v : View F) : Type 0 where
  pub shows : Views v.page_size db wal journal (pages_of bytes v)
  pub one : ¬ AreTwoLogs wal journal
  pub short : ¬ IsTooLongWithin limits wal journal
  pub within : ¬ IsAboveWithin limits db wal journal
  pub headed : IsAlone wal journal → HasMagic (head_of db)
  pub stands : StandsAt wal journal v.front
  pub unplaced : IsAlone wal journal → v.places.items ≡ []
  pub placed : (¬ IsAlone wal journal) → length v.places.items ≡ v.count
  pub framed : 1 ≤ v.front → AreFramePlaces v.page_size wal v.front v.count v.places.items
  pub recorded : IsHot journal → AreJournalPlaces journal v.count v.places.items
  pub few : v.places.kept ≤ most_kept v.page_size (bytes v.log)

abbrev pub ViewAnswerWithin : {F : Type 0} → (limits : Bounds) (bytes : F → List ℕ) (db wal journal : List ℕ) → Result (View F) ViewError → Type 0
ViewAnswerWithin limits bytes db wal journal (Ok v) = IsShownWithin limits bytes db wal journal v
ViewAnswerWithin limits bytes db wal journal (Err e) = ViewRefusedWithin limits db wal journal e

-- the same at the usual limits
abbrev pub ViewRefused : (db wal journal : List ℕ) → ViewError → Type 0
ViewRefused db wal journal e = ViewRefusedWithin usual db wal journal e

abbrev pub ViewAnswer : {F : Type 0} → (bytes : F → List ℕ) → (db wal journal : List ℕ) → Result (View F) ViewError → Type 0
ViewAnswer bytes db wal journal r = ViewAnswerWithin usual bytes db wal journal r

-- whose bytes a view reads: the file's, and a hot journal's, otherwise the write-ahead log's
pub record ReadsFrom (db wal journal file log : List ℕ) : Type 0 where
  pub file_is : file ≡ db
  pub hot : IsHot journal → log ≡ journal
  pub cold : (¬ IsHot journal) → log ≡ wal
