-- What calls of a disk leave as it was, and disks on which an engine recovers pages (own).
use Rattle.std.specs.Prelude.{◌≡◌, ◌⊎◌, ℕ, ◌+◌, ◌-◌, ◌^◌, ◌<◌, ◌≤◌, true, List, [], length, take, drop, Result, Err}
use Rattle.std.specs.List.{Contains}
use Rattle.crashdisk.specs.State.{IsSectorSize, IsImage, IsSettled}
use Rattle.crashdisk.specs.Call.{DiskState, IsSoundDisk, ArePresent, Looks, Change, HasCalls, Nothing}
use Rattle.crashdisk.specs.declared.error.DiskError.{DiskError}

-- ---- What stays.

-- both files are as they were, whatever was set of the disk
pub record SameFiles (old new : DiskState) : Type 0 where
  pub sector : new.sector ≡ old.sector
  pub tears : new.tears ≡ old.tears
  pub db : new.db ≡ old.db
  pub log : new.log ≡ old.log
  pub kept : new.kept ≡ old.kept
  pub handed : new.handed ≡ old.handed
  pub refused : old.refused ≤ new.refused
  pub count : new.refused < 2 ^ 64

-- calls that changed no byte
pub record Still (old new : DiskState) : Type 0 where
  pub sector : new.sector ≡ old.sector
  pub tears : new.tears ≡ old.tears
  pub db : new.db ≡ old.db
  pub log : new.log ≡ old.log
  pub kept : new.kept ≡ old.kept
  pub handed : new.handed ≡ old.handed
  pub refused : old.refused ≤ new.refused
  pub count : new.refused < 2 ^ 64
  pub calls : HasCalls Nothing old new

-- nothing was done, or one call that changes no byte
abbrev pub LooksOnce : (old new : DiskState) → Type 0
LooksOnce old new = (new ≡ old) ⊎ ((end : ℕ) × (result : Result (Unit {0}) DiskError) × Looks end result old new)

-- no byte has changed
pub record KeepsBytes (old new : DiskState) : Type 0 where
  pub db : new.db ≡ old.db
  pub log : (bytes : List ℕ) → ArePresent old.log bytes → ArePresent new.log bytes

-- Nothing was done to a disk but calls that asked for no other changes than these. Its sectors stay as they are.
pub record IsSameDisk (May : Change → Type 0) (old new : DiskState) : Type 0 where
  pub sector : new.sector ≡ old.sector
  pub tears : new.tears ≡ old.tears
  pub calls : HasCalls May old new

-- Such calls of a disk: it is sound, with the same sectors, and its count of refusals hasn't fallen.
pub record Later (May : Change → Type 0) (old new : DiskState) : Type 0 where
  pub sector : new.sector ≡ old.sector
  pub tears : new.tears ≡ old.tears
  pub refused : old.refused ≤ new.refused
  pub sound : IsSoundDisk new
  pub calls : HasCalls May old new

-- a call of the disk was refused, or had been so often that the count stands at its greatest
abbrev pub HadRefusal : (old new : DiskState) → Type 0
HadRefusal old new = (old.refused < new.refused) ⊎ (new.refused ≡ 2 ^ 64 - 1)

-- ---- What is told of a call.

-- a call of the disk that was refused is told: the answer is the error `device`
abbrev pub TellsRefusal : {T E : Type 0} → (device : E) → Result T E → (old new : DiskState) → Type 0
TellsRefusal device result old new = old.refused < new.refused → result ≡ Err device

-- ---- What is recovered.

-- nothing of the log is unsynced
pub record IsLogDurable (s : DiskState) (w : List ℕ) : Type 0 where
  pub settled : IsSettled s.log w
  pub kept : s.tears ≡ true → s.kept ≡ w
  pub handed : s.handed ≡ []

-- each file that a crash may leave is so long
abbrev pub IsLong : (n : ℕ) → DiskState → Type 0
IsLong n s = (db : List ℕ) → IsImage s.sector s.tears s.db db → length db ≡ n

-- on a disk that tears its sectors are larger than pages of this size
abbrev pub TearsPages : (size : ℕ) → DiskState → Type 0
TearsPages size s = (s.tears ≡ true) × (size < s.sector)

-- A disk on which pages of this size are recovered. A page has one of the sizes of a sector.
pub record Suits (size : ℕ) (s : DiskState) : Type 0 where
  pub sound : IsSoundDisk s
  pub sectors : IsSectorSize s.sector
  pub pages : IsSectorSize size
  pub whole : TearsPages size s → ⊥

-- the n bytes of w at a place stand there in what was kept, or lie whole there in a piece that was handed over
abbrev pub StandsWhole : (kept : List ℕ) (handed : List (ℕ × List ℕ)) → List ℕ → (at n : ℕ) → Type 0
StandsWhole kept handed w at n = ((at + n ≤ length kept) × (take n (drop at w) ≡ take n (drop at kept)))
    ⊎ ((write : ℕ × List ℕ) × Contains handed write × (write.0 ≤ at) × (at + n ≤ write.0 + length write.1) × (take n (drop at w) ≡ take n (drop (at - write.0) write.1)))
