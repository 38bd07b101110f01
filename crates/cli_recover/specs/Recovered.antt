-- What is shown before a recovery is shown after it (fileformat2, 3 and 4.3).
use Rattle.std.specs.Prelude.{◌≡◌, ◌≢◌, ℕ, ◌≤◌, List, [], length, Ok}
use Rattle.sqval.specs.Bytes.{word}
use Rattle.sqval.specs.Database.{Database, page}
use Rattle.sqval.specs.Limits.{Bounds}
use Rattle.sqjournal.specs.Journal.{IsHot}
use Rattle.sqpage.specs.Header.{size_named}
use Rattle.crashdisk.specs.Call.{DiskState, ArePresent}
use Rattle.walcore.specs.Folding.{FoldAnswerWithin}
use Rattle.walcore.specs.declared.folding.Folded.{Folded}
use Rattle.rollcore.specs.Replaying.{ReplayAnswer}
use Rattle.rollcore.specs.declared.replaying.Replayed.{Replayed}
use Rattle.sqview.specs.LogView.{head_of, Views}

-- The header on page 1 names the size of the pages, and as many pages as there are, unless its count doesn't count
-- (fileformat2, 1.3.7).
pub record NamesItself (size : ℕ) (d : Database) : Type 0 where
  pub sized : size_named (head_of (page d 1)) ≡ size
  pub counted : word (head_of (page d 1)) 28 ≢ 0 → word (head_of (page d 1)) 24 ≡ word (head_of (page d 1)) 92
      → word (head_of (page d 1)) 28 ≡ length d

-- A log that was folded: what the files showed is shown by the file alone, if it names itself.
abbrev pub FoldKeepsView : Type 0
FoldKeepsView = (limits : Bounds) (size : ℕ) (db wal journal after : List ℕ) (folded : Folded) (old new : DiskState) (d : Database)
    → FoldAnswerWithin limits size db wal (Ok folded) old new → ArePresent new.db after → ¬ IsHot journal
    → (1 ≤ folded.frames → NamesItself size d) → Views size db wal journal d → Views size after [] journal d

-- A journal that was replayed: what the files showed is shown by the file and what is left of the journal, if it names
-- itself.
abbrev pub ReplayKeepsView : Type 0
ReplayKeepsView = (most size : ℕ) (db wal journal after left : List ℕ) (replayed : Replayed) (old new : DiskState) (d : Database)
    → ReplayAnswer most db journal (Ok replayed) old new → ArePresent old.db db
    → ArePresent new.db after → ArePresent new.log left
    → (IsHot journal → NamesItself size d) → Views size db wal journal d → Views size after wal left d
