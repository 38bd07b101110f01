-- What the writing of frames does to a core and its disk (fileformat2, 4.1).
use Rattle.std.specs.Prelude.{◌≡◌, ℕ, ◌+◌, ◌≤◌, List, ◌∷◌, ◌++◌, Result, Ok, Err, IsOk, OnOk, OnErr, length, []}
use Rattle.sqval.specs.Database.{Database, Pages}
use Rattle.sqwal.specs.Header.{IsHeaderOf}
use Rattle.sqwal.specs.Frames.{frame_end, page_of, summed, IsFrameHead}
use Rattle.sqwal.specs.Sums.{IsSumOf}
use Rattle.sqwal.specs.declared.sum.Sum.{Sum}
use Rattle.crashdisk.specs.Call.{DiskState, IsSoundDisk, Writes, HasCalls}
use Rattle.crashdisk.specs.declared.file.File.TheVariants.{Log}
use Rattle.crashdisk.specs.declared.error.DiskError.{DiskError}
use Rattle.crashdisk.specs.Keeps.{HadRefusal}
use Rattle.crashdisk.specs.internal.Keeps.{Told}
use Rattle.sqwal.specs.Refusal.{most_frames}
use Rattle.walcore.specs.Made.{IsExtended}
use Rattle.walcore.specs.Changes.{MayExtend}
use Rattle.walcore.specs.Standing.{IsBehind, Stands, IsPresent}
use Rattle.walcore.specs.Fits.{IsIndexed}
use Rattle.walcore.specs.declared.state.Core.{Core}
use Rattle.walcore.specs.declared.error.WalError.{WalError}
use Rattle.walcore.specs.declared.error.WalError.TheVariants.{Device}

-- what no frame changes of a core
pub record KeepsCore (old new : Core) : Type 0 where
  pub page_size : new.page_size ≡ old.page_size
  pub is_open : new.is_open ≡ old.is_open
  pub drained : new.drained ≡ old.drained
  pub header : new.header ≡ old.header
  pub mark : new.mark ≡ old.mark
  pub size : new.size ≡ old.size
  pub used : new.used ≡ old.used
  pub unsynced : new.unsynced ≡ old.unsynced
  pub marks : new.marks ≡ old.marks
  pub bound : new.index.bound ≡ old.index.bound
  pub room : new.index.room ≡ old.index.room

-- a frame of this page more
pub record HasFrame (page : ℕ) (after : Sum) (old new : Core) : Type 0 where
  pub frames : new.frames ≡ old.frames + 1
  pub sum : new.sum ≡ after
  pub pages : new.index.pages ≡ old.index.pages ++ page ∷ []
  pub last : new.last_page ≡ page

-- A frame is written behind the last one, by one call.
pub record FrameStep {T : Type 0} (page size : ℕ) (content : List ℕ) (result : Result T WalError) (old new : Core) (s t : DiskState) : Type 0 where
  pub called : Result T DiskError
  pub told : Told Device called result
  pub head : List ℕ
  pub after : Sum
  pub made : IsFrameHead old.header old.sum page size content head after
  pub wrote : Writes Log (frame_end old.page_size old.frames) (head ++ content) called s t
  pub done : IsOk result → HasFrame page after old new

-- the core is for the same log, with a frame more where that was written; only the disk refuses it
pub record CoreStep {T : Type 0} (result : Result T WalError) (old new : Core) : Type 0 where
  pub keeps : KeepsCore old new
  pub count : OnOk result (new.frames ≡ old.frames + 1)
  pub error : OnErr result (result ≡ Err Device)

-- Of the log f the first n frames are there to be read, and a core knows it so far.
pub record KnowsLog (f : List ℕ) (n : ℕ) (core : Core) (s : DiskState) : Type 0 where
  pub frames : core.frames ≡ n
  pub header : IsHeaderOf f core.header
  pub sum : IsSumOf core.header.order (summed core.page_size f n) core.sum
  pub table : IsIndexed core.page_size f n core.index
  pub last : 1 ≤ n → core.last_page ≡ page_of core.page_size f n
  pub present : IsPresent core.page_size f n s

-- calls that wrote frames behind the first n of the log f, which has m
pub record Going (size : ℕ) (f : List ℕ) (m n : ℕ) (s t : DiskState) : Type 0 where
  pub refused : s.refused ≤ t.refused
  pub sound : IsSoundDisk t
  pub sector : t.sector ≡ s.sector
  pub tears : t.tears ≡ s.tears
  pub calls : HasCalls (MayExtend size (f ∷ [])) s t
  pub stands : (logs : List (List ℕ)) (h : List Database) (index : ℕ → ℕ) (mark d c : ℕ) → Stands size logs f m h index mark d c s → IsBehind size d (frame_end size n) s → Stands size logs f m h index mark d c t

-- all frames of the log were written, and no call was refused; or one was
abbrev pub FramesAnswer : {T : Type 0} → (size : ℕ) → List ℕ → (m n : ℕ) → Result T WalError → (new : Core) → (s t : DiskState) → Type 0
FramesAnswer size f m n (Ok _) new s t = Going size f m n s t × KnowsLog f m new t × (t.refused ≡ s.refused)
FramesAnswer size f m n (Err e) new s t = Going size f m n s t × (e ≡ Device) × HadRefusal s t

-- a log of n frames, before it is extended by these pages, goes on to be it
abbrev pub WritesFrames : {T : Type 0} → Pages → (size : ℕ) → Result T WalError → (old new : Core) → (s t : DiskState) → Type 0
WritesFrames pages size result old new s t = (e f : List ℕ) (n : ℕ) → IsExtended old.page_size e n pages size f → n + length pages ≤ most_frames → KnowsLog f n old s
    → FramesAnswer old.page_size f (n + length pages) n result new s t
