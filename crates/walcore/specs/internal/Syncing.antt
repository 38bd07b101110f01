-- How a log is made durable: with a copy of its last frame, or without (own).
use Rattle.std.specs.Prelude.{◌≡◌, ℕ, ◌+◌, ◌%◌, ◌≤◌, Bool, true, false, not, ◌&&◌, ◌==◌, List, ◌∷◌, Result, Ok, Err, []}
use Rattle.sqwal.specs.Frames.{frame_end, page_of, size_of, content_of}
use Rattle.sqwal.specs.Log.{IsLog}
use Rattle.sqwal.specs.Refusal.{most_frames}
use Rattle.crashdisk.specs.Call.{DiskState}
use Rattle.crashdisk.specs.declared.file.File.TheVariants.{Log}
use Rattle.walcore.specs.Made.{IsExtended}
use Rattle.crashdisk.specs.internal.Keeps.{SyncStep}
use Rattle.walcore.specs.internal.Going.{KnowsLog, FramesAnswer}
use Rattle.walcore.specs.Commits.{SameMarks}
use Rattle.walcore.specs.declared.state.Core.{Core}
use Rattle.walcore.specs.declared.error.WalError.{WalError}
use Rattle.walcore.specs.declared.error.WalError.TheVariants.{Device}

-- f is the log e of n frames with its last frame once more
abbrev pub IsRepeated : (size : ℕ) (e : List ℕ) (n : ℕ) (f : List ℕ) → Type 0
IsRepeated size e n f = IsExtended size e n ((page_of size e n, content_of size e n) ∷ []) (size_of size e n) f

-- On a disk that tears a copy is due where there was a commit and the log doesn't end where a sector ends.
abbrev pub is_due : Core → DiskState → Bool
is_due core s = s.tears && (core.unsynced && not (frame_end core.page_size core.frames % s.sector == 0))

-- a core knows the log e, of which f is the one with its last frame once more
pub record KnowsLast (e f : List ℕ) (core : Core) (s : DiskState) : Type 0 where
  pub some : 1 ≤ core.frames
  pub log : IsLog core.page_size e core.frames
  pub more : IsRepeated core.page_size e core.frames f
  pub few : core.frames + 1 ≤ most_frames
  pub knows : KnowsLog e core.frames core s
  pub size_is : core.size ≡ size_of core.page_size e core.frames

-- the copy was written, or a call was refused
abbrev pub RepeatAnswer : {T : Type 0} → Result T WalError → (old new : Core) → (s t : DiskState) → Type 0
RepeatAnswer result old new s t = (e f : List ℕ) → KnowsLast e f old s → FramesAnswer old.page_size f (old.frames + 1) old.frames result new s t

-- two cores with the same readers and newest database
pub record Repeats (old new : Core) : Type 0 where
  pub page_size : new.page_size ≡ old.page_size
  pub marks : SameMarks old new
  pub used : new.used ≡ old.used

-- the log is synced behind a copy, if that was written
abbrev pub SyncsBehind : {T : Type 0} → (copied result : Result T WalError) → (s t : DiskState) → Type 0
SyncsBehind (Ok _) result s t = SyncStep Device Log result s t
SyncsBehind (Err e) result s t = (result ≡ Err e) × (t ≡ s)

-- a copy is written, and then the log is synced
pub record SyncsCopy {T : Type 0} (result : Result T WalError) (old new : Core) (s t : DiskState) : Type 0 where
  pub mid : DiskState
  pub copied : Result T WalError
  pub core : Repeats old new
  pub frame : RepeatAnswer copied old new s mid
  pub synced : SyncsBehind copied result mid t

-- the log is made durable
abbrev pub SyncsBy : {T : Type 0} → (due : Bool) → Result T WalError → (old new : Core) → (s t : DiskState) → Type 0
SyncsBy true result old new s t = SyncsCopy result old new s t
SyncsBy false result old new s t = (new ≡ old) × SyncStep Device Log result s t

-- it is made durable, with a copy where that is due
abbrev pub SyncsFrames : {T : Type 0} → Result T WalError → (old new : Core) → (s t : DiskState) → Type 0
SyncsFrames result old new s t = SyncsBy (is_due old s) result old new s t
