-- What the folding of a log into its database does (fileformat2, 4.3).
use Rattle.std.specs.Prelude.{◌≡◌, ◌≢◌, ◌⊎◌, ℕ, suc, ◌*◌, ◌<◌, ◌≤◌, List, Result, Ok, Err, []}
use Rattle.sqval.specs.Database.{Database}
use Rattle.sqwal.specs.Header.{IsHeader, named_size}
use Rattle.sqwal.specs.Frames.{size_of, IsValidFrame, IsFront}
use Rattle.sqwal.specs.View.{IsView}
use Rattle.crashdisk.specs.State.{IsSettled}
use Rattle.crashdisk.specs.Call.{DiskState, ArePresent}
use Rattle.sqval.specs.Limits.{Bounds, usual}
use Rattle.sqval.specs.Held.{IsJust}
use Rattle.walcore.specs.declared.folding.Folded.{Folded}
use Rattle.walcore.specs.declared.error.WalError.{WalError}
use Rattle.walcore.specs.declared.error.WalError.TheVariants.{TooLarge, PageSize, NoMemory, Device, SectorAbovePage}
use Rattle.crashdisk.specs.Keeps.{KeepsBytes, IsLogDurable, HadRefusal, TearsPages}

-- the log has more valid frames than the limits allow, or its front's database is above them
abbrev pub IsTooLargeWithin : Bounds → List ℕ → Type 0
IsTooLargeWithin limits w = IsValidFrame (named_size w) w (suc limits.frames)
    ⊎ ((m : ℕ) × (1 ≤ m) × IsFront (named_size w) w m × (limits.bytes < size_of (named_size w) w m * named_size w))

-- the log is one of pages of another size
abbrev pub IsOfOtherSize : (size : ℕ) → List ℕ → Type 0
IsOfOtherSize size w = IsHeader (named_size w) w × (named_size w ≢ size)

-- a log of no bytes is durable
abbrev pub IsEmptyDurable : DiskState → Type 0
IsEmptyDurable s = s.log.len ≡ 0 → IsLogDurable s []

-- The log w was folded into the file db. The log is empty and durable. With front 0 the file is as it was, and durable unless
-- there was no log; otherwise it is durable, and just the view.
pub record IsFolded (size : ℕ) (db w : List ℕ) (f : Folded) (new : DiskState) : Type 0 where
  pub front : IsFront (named_size w) w f.frames
  pub none : f.frames ≡ 0 → (f.size ≡ 0) × ArePresent new.db db × (w ≢ [] → IsSettled new.db db)
  pub some : 1 ≤ f.frames → (f.size ≡ size_of size w f.frames) × (named_size w ≡ size)
      × ((d : Database) × IsView size db w f.frames d × ((bytes : List ℕ) × IsSettled new.db bytes × IsJust size d bytes))
  pub log : IsLogDurable new []

-- what a fold of pages of this size answers, and what it leaves
abbrev pub FoldAnswerWithin : (limits : Bounds) (size : ℕ) (db w : List ℕ) → Result Folded WalError → (old new : DiskState) → Type 0
FoldAnswerWithin limits size db w (Ok f) old new = (TearsPages size old → ⊥) × (IsTooLargeWithin limits w → ⊥) × (IsOfOtherSize size w → ⊥) × IsFolded size db w f new
FoldAnswerWithin limits size db w (Err SectorAbovePage) old new = TearsPages size old × (new ≡ old)
FoldAnswerWithin limits size db w (Err TooLarge) old new = (TearsPages size old → ⊥) × IsTooLargeWithin limits w × KeepsBytes old new
FoldAnswerWithin limits size db w (Err PageSize) old new = (TearsPages size old → ⊥) × (IsTooLargeWithin limits w → ⊥) × IsOfOtherSize size w × KeepsBytes old new
FoldAnswerWithin limits size db w (Err NoMemory) old new = (TearsPages size old → ⊥) × KeepsBytes old new
FoldAnswerWithin limits size db w (Err Device) old new = (TearsPages size old → ⊥) × HadRefusal old new
FoldAnswerWithin limits size db w (Err _) old new = ⊥

-- the same at the usual limits
abbrev pub FoldAnswer : (size : ℕ) (db w : List ℕ) → Result Folded WalError → (old new : DiskState) → Type 0
FoldAnswer size db w result old new = FoldAnswerWithin usual size db w result old new

-- for whatever bytes are present
abbrev pub FoldsWithin : (limits : Bounds) (size : ℕ) → Result Folded WalError → (old new : DiskState) → Type 0
FoldsWithin limits size result old new = (db w : List ℕ) → ArePresent old.db db → ArePresent old.log w → FoldAnswerWithin limits size db w result old new
