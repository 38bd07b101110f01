-- What is asked for by flags: a database at a commit, larger limits, pointer maps (own).
use Rattle.std.specs.Prelude.{◌≡◌, ◌⊎◌, ℕ, ◌/◌, ◌%◌, ◌<◌, Bool, true, false, cond, ◌==◌, List}
use Rattle.sqval.specs.Database.{Database}
use Rattle.sqval.specs.Limits.{Bounds, usual, greatest}
use Rattle.sqview.specs.LogView.{Views, ViewRefusedWithin}
use Rattle.sqdeepjudge.specs.Missing.{IsInFrames, IsInLog}
use Rattle.sqpast.specs.Files.{PastViews, PastRefusedWithin}
use Rattle.sqpast.specs.Used.{used_part, AreCounts}
use Rattle.sqpast.specs.declared.used.Counts.{Counts}
use Rattle.sqpast.specs.declared.past_error.PastError.{PastError}
use Rattle.sqpast.specs.declared.past_error.PastError.TheVariants.{Refused, CommitOverwritten}

-- whether a flag, a power of two, is set
abbrev pub is_set : (flags flag : ℕ) → Bool
is_set flags flag = (flags / flag) % 2 == 1

-- at a commit, 4; the greatest limits, 8; with pointer maps, 16
abbrev pub at_commit : ℕ
at_commit = 4

abbrev pub is_at : ℕ → Bool
is_at flags = is_set flags at_commit

abbrev pub limits_of : ℕ → Bounds
limits_of flags = cond (is_set flags 8) greatest usual

abbrev pub maps_of : ℕ → Bool
maps_of flags = is_set flags 16

-- none but these, and 64, which calls by path have
pub record AreAskedFlags (flags : ℕ) : Type 0 where
  pub low : flags < 128
  pub no_others : flags % 4 ≡ 0
  pub not_complete : flags / 32 % 2 ≡ 0

-- the same and, of a deep check, that all is to be judged, 32
abbrev pub is_complete : ℕ → Bool
is_complete flags = is_set flags 32

pub record AreDeepFlags (flags : ℕ) : Type 0 where
  pub low : flags < 128
  pub no_others : flags % 4 ≡ 0

-- the database that the files show, or the one at commit frame m, or at 0, if that is asked for
pub record ShowsWhole (flags m size : ℕ) (db wal journal : List ℕ) (d : Database) : Type 0 where
  pub at : is_at flags ≡ true → PastViews m size db wal journal d
  pub shown : is_at flags ≡ false → Views size db wal journal d

-- the pages of it that SQLite uses
abbrev pub ShowsAsked : (flags m size : ℕ) (db wal journal : List ℕ) → Database → Type 0
ShowsAsked flags m size db wal journal d = (whole : Database) × ShowsWhole flags m size db wal journal whole × (d ≡ used_part whole)

-- how many pages it has, and how many its header says
abbrev pub AreAskedCounts : (flags m : ℕ) (db wal journal : List ℕ) → Counts → Type 0
AreAskedCounts flags m db wal journal counts = (size : ℕ) × (whole : Database) × ShowsWhole flags m size db wal journal whole × AreCounts whole counts

-- The log has page p: a frame up to the commit that is asked for, otherwise the log that is current.
abbrev pub HasPage : (flags m size : ℕ) (wal journal : List ℕ) → (p : ℕ) → Type 0
HasPage flags m size wal journal p = ((is_at flags ≡ true) × IsInFrames size wal m p) ⊎ ((is_at flags ≡ false) × IsInLog size wal journal p)

-- what refuses the database that the files show; no commit is asked for
abbrev pub ShownRefused : (limits : Bounds) (db wal journal : List ℕ) → PastError → Type 0
ShownRefused limits db wal journal (Refused e) = ViewRefusedWithin limits db wal journal e
ShownRefused limits db wal journal CommitOverwritten = ⊥

-- why it isn't shown
pub record AskedRefused (flags m : ℕ) (db wal journal : List ℕ) (error : PastError) : Type 0 where
  pub at : is_at flags ≡ true → PastRefusedWithin (limits_of flags) m db wal journal error
  pub shown : is_at flags ≡ false → ShownRefused (limits_of flags) db wal journal error
