-- What a recovery refuses besides two logs and what is too large.
use Rattle.std.specs.Prelude.{◌≡◌, ◌≢◌, ◌⊎◌, ◌↔◌, ℕ, suc, ◌-◌, ◌≤◌, List, [], length, drop}
use Rattle.sqwal.specs.Header.{named_size}
use Rattle.sqwal.specs.Frames.{IsValidFrame, IsFront}
use Rattle.sqwal.specs.Refusal.{most_frames}
use Rattle.sqwal.specs.Answers.{LogRefused}
use Rattle.sqwal.specs.declared.error.WalFormatError.TheVariants.{UnknownVersion}
use Rattle.sqjournal.specs.Header.{magic}
use Rattle.sqjournal.specs.Journal.{IsHot}
use Rattle.sqpage.specs.Header.{HasMagic, HasPageSize, size_named}
use Rattle.sqview.specs.LogView.{head_of}

-- the last 8 bytes of a journal are the magic, as where it names a super-journal (fileformat2, 3)
abbrev pub EndsWithMagic : (journal : List ℕ) → Type 0
EndsWithMagic journal = drop (length journal - 8) journal ≡ magic

-- a journal that counts names a super-journal
pub record NamesSuperJournal (wal journal : List ℕ) : Type 0 where
  pub hot : IsHot journal
  pub alone : wal ≡ []
  pub named : EndsWithMagic journal

-- a log that counts is of another version
pub record IsOfOtherVersion (wal journal : List ℕ) : Type 0 where
  pub cold : ¬ IsHot journal
  pub refused : LogRefused wal UnknownVersion

-- a log has a front, and no more valid frames than are scanned
pub record HasFront (wal : List ℕ) : Type 0 where
  pub front : ℕ
  pub some : 1 ≤ front
  pub is : IsFront (named_size wal) wal front
  pub short : ¬ IsValidFrame (named_size wal) wal (suc most_frames)

-- a database file names pages of another size than this one
pub record NamesOtherSize (db : List ℕ) (size : ℕ) : Type 0 where
  pub long : 18 ≤ length db
  pub magic : HasMagic (head_of db)
  pub is_size : HasPageSize (head_of db)
  pub other : size_named (head_of db) ≢ size

-- a log that counts has a front, and pages of another size than the database file names
pub record HaveOtherSizes (db wal journal : List ℕ) : Type 0 where
  pub cold : ¬ IsHot journal
  pub has : HasFront wal
  pub other : NamesOtherSize db (named_size wal)

-- A call answers 14, 15 and 16 exactly where a recovery refuses the files so, but that no memory may stand in place of
-- 16; and no greater number.
pub record RefusesAsRecovery (db wal journal : List ℕ) (number : ℕ) : Type 0 where
  pub version : (number ≡ 14) ↔ IsOfOtherVersion wal journal
  pub super_journal : (number ≡ 15) ↔ NamesSuperJournal wal journal
  pub sizes : number ≡ 16 → HaveOtherSizes db wal journal
  pub other_sizes : HaveOtherSizes db wal journal → (number ≡ 16) ⊎ (number ≡ 6)
  pub greatest : number ≤ 16

-- the same of a call at a commit frame, where a recovery up to there refuses the files; at 0 none is. An overwritten commit
-- is 30.
pub record RefusesAsRecoveryAt (m : ℕ) (db wal journal : List ℕ) (number : ℕ) : Type 0 where
  pub version : (number ≡ 14) ↔ ((1 ≤ m) × IsOfOtherVersion wal journal)
  pub no_super_journal : number ≢ 15
  pub sizes : number ≡ 16 → (1 ≤ m) × HaveOtherSizes db wal journal
  pub other_sizes : 1 ≤ m → HaveOtherSizes db wal journal → (number ≡ 16) ⊎ (number ≡ 6)
  pub greatest : (number ≤ 16) ⊎ (number ≡ 30)
