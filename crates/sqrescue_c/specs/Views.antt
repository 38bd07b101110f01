-- What the calls on files and their views answer.
use Rattle.std.specs.Prelude.{◌≡◌, ◌⊎◌, ℕ, ◌<◌, ◌≤◌, List, [], length}
use Rattle.sqval.specs.Database.{Database}
use Rattle.sqval.specs.Limits.{usual}
use Rattle.sqpast.specs.Files.{PastViews, PastRefusedWithin}
use Rattle.sqpast.specs.declared.past_error.PastError.{PastError}
use Rattle.sqview.specs.Laid.{laid}
use Rattle.sqview.specs.LogView.{Views, IsAlone, ReadsFrom, ViewRefused}
use Rattle.sqview.specs.declared.view_error.ViewError.{ViewError}
use Rattle.sqrescue_c.specs.Statuses.{view_status, past_status}

-- the files show a database with pages of this size, and so many of them
pub record HasSize (db wal journal : List ℕ) (size count : ℕ) : Type 0 where
  pub database : Database
  pub shown : Views size db wal journal database
  pub counted : length database ≡ count

-- the view of a caller: what the files show, by these bytes and these places, as many as are needed
pub record IsOpened (db wal journal : List ℕ) (size count : ℕ) (file log places : List ℕ) : Type 0 where
  pub shown : Views size db wal journal (laid size count file log places)
  pub reads : ReadsFrom db wal journal file log
  pub unplaced : IsAlone wal journal → places ≡ []
  pub placed : (¬ IsAlone wal journal) → length places ≡ count

-- the refusal of this number
pub record IsRefused (db wal journal : List ℕ) (number : ℕ) : Type 0 where
  pub error : ViewError
  pub numbered : number ≡ view_status error
  pub refused : ViewRefused db wal journal error

-- a log counts, and the database has more pages than there is room for places
pub record IsCrowded (db wal journal : List ℕ) (room number : ℕ) : Type 0 where
  pub numbered : number ≡ 9
  pub count : ℕ
  pub size : ℕ
  pub has : HasSize db wal journal size count
  pub counts : ¬ IsAlone wal journal
  pub more : room < count

abbrev pub OpenRefused : (db wal journal : List ℕ) → (room number : ℕ) → Type 0
OpenRefused db wal journal room number = IsCrowded db wal journal room number ⊎ IsRefused db wal journal number

-- the view of a caller at commit frame m, or at 0: the database there, by the bytes of the file and of the write-ahead
-- log, and these places, as many as are needed
pub record IsOpenedAt (m : ℕ) (db wal journal : List ℕ) (size count : ℕ) (file log places : List ℕ) : Type 0 where
  pub shown : PastViews m size db wal journal (laid size count file log places)
  pub file_is : file ≡ db
  pub log_is : log ≡ wal
  pub unplaced : m ≡ 0 → places ≡ []
  pub placed : 1 ≤ m → length places ≡ count

-- the refusal of this number
pub record IsRefusedAt (m : ℕ) (db wal journal : List ℕ) (number : ℕ) : Type 0 where
  pub error : PastError
  pub numbered : number ≡ past_status error
  pub refused : PastRefusedWithin usual m db wal journal error

-- the database at the commit has more pages than there is room for places
pub record IsCrowdedAt (m : ℕ) (db wal journal : List ℕ) (room number : ℕ) : Type 0 where
  pub numbered : number ≡ 9
  pub commit : 1 ≤ m
  pub size : ℕ
  pub database : Database
  pub shown : PastViews m size db wal journal database
  pub more : room < length database

abbrev pub AtRefusedBy : (m : ℕ) (db wal journal : List ℕ) → (room number : ℕ) → Type 0
AtRefusedBy m db wal journal room number = IsCrowdedAt m db wal journal room number ⊎ IsRefusedAt m db wal journal number
