-- What a call of a disk does to it, what a crash does, and how a disk begins (own).
use Rattle.std.specs.Prelude.{◌≡◌, ◌⊎◌, ℕ, ◌+◌, ◌-◌, ◌<◌, ◌≤◌, ◌^◌, min, max, Bool, true, false, List, [], ◌∷◌, ◌++◌, length, get_or, Result, Ok, Err}
use Rattle.crashdisk.specs.State.{FileState, byte, written, WriteTouches, cut_to, CutTouches, Changed, IsDone, IsSynced, IsShuffled, IsImage, IsSettled, IsSound, longest}
use Rattle.crashdisk.specs.Stop.{Settings, past_call, past_sync, stops_call, stops_sync, fails_call, Heeds}
use Rattle.crashdisk.specs.declared.file.File.{File}
use Rattle.crashdisk.specs.declared.file.File.TheVariants.{Db, Log}
use Rattle.crashdisk.specs.declared.error.DiskError.{DiskError}
use Rattle.crashdisk.specs.declared.error.DiskError.TheVariants.{Stopped, Failed, TooLong, NoMemory}

-- what a disk lists: the size of a sector in bytes, whether it tears, both files, how many calls it refused, and what is set
-- of it
pub record DiskState : Type 0 where
  pub sector : ℕ
  pub tears : Bool
  pub db : FileState
  pub log : FileState
  pub refused : ℕ
  -- on a disk that tears, of the log: its bytes when it last had nothing unsynced, and each write since then
  pub kept : List ℕ
  pub handed : List (ℕ × List ℕ)
  pub settings : Settings

-- what holds of each disk that keeps its word
pub record IsSoundDisk (s : DiskState) : Type 0 where
  pub db : IsSound s.sector s.db
  pub log : IsSound s.sector s.log
  pub refused : s.refused < 2 ^ 64
  pub untorn : s.tears ≡ false → (s.kept ≡ []) × (s.handed ≡ [])

abbrev pub of : File → DiskState → FileState
of Db s = s.db
of Log s = s.log

abbrev pub other : File → File
other Db = Log
other Log = Db

-- the calls that were refused by Stopped, Failed or NoMemory, up to the greatest number of 64 bits
abbrev pub counted : {T : Type 0} → Result T DiskError → ℕ → ℕ
counted (Ok _) n = n
counted (Err TooLong) n = n
counted (Err Stopped) n = min (n + 1) (2 ^ 64 - 1)
counted (Err Failed) n = min (n + 1) (2 ^ 64 - 1)
counted (Err NoMemory) n = min (n + 1) (2 ^ 64 - 1)

-- A call that would end at this place is TooLong exactly above the limit of a file, unless the disk was stopped.
-- One that names no place ends at 0.
abbrev pub EndsWithin : {T : Type 0} → Result T DiskError → (end : ℕ) → Type 0
EndsWithin (Ok _) end = end ≤ longest
EndsWithin (Err TooLong) end = longest < end
EndsWithin (Err Stopped) end = Unit {0}
EndsWithin (Err Failed) end = end ≤ longest
EndsWithin (Err NoMemory) end = end ≤ longest

-- a change of one file, by what was answered
abbrev pub ChangedBy : {T : Type 0} → (sector : ℕ) (touches : ℕ → Type 0) (target : ℕ → ℕ) (end : ℕ) → Result T DiskError → FileState → FileState → Type 0
ChangedBy sector touches target end (Ok _) old new = Changed sector touches target end old new × IsDone sector touches target end new
ChangedBy sector touches target end (Err Failed) old new = Changed sector touches target end old new
ChangedBy sector touches target end (Err _) old new = new ≡ old

-- a sync of one file, by what was answered
abbrev pub SyncedBy : {T : Type 0} → (sector : ℕ) → Result T DiskError → FileState → FileState → Type 0
SyncedBy sector (Ok _) old new = IsSynced old new
SyncedBy sector (Err Failed) old new = IsShuffled sector old new
SyncedBy sector (Err _) old new = new ≡ old

-- what was handed over, with this write
abbrev pub with_write : {T : Type 0} → Bool → File → Result T DiskError → ℕ → List ℕ → List (ℕ × List ℕ) → List (ℕ × List ℕ)
with_write true Log (Ok _) at bytes handed = handed ++ (at, bytes) ∷ []
with_write true Log (Err Failed) at bytes handed = handed ++ (at, bytes) ∷ []
with_write true Log (Err _) at bytes handed = handed
with_write true Db _ at bytes handed = handed
with_write false _ _ at bytes handed = handed

-- a list of the present bytes
pub record ArePresent (s : FileState) (bytes : List ℕ) : Type 0 where
  pub len : length bytes ≡ s.len
  pub each : (i : ℕ) → i < s.len → get_or bytes i 0 ≡ byte s i

-- what is kept and was handed over, after a sync
abbrev pub SinceSync : {T : Type 0} → Bool → File → Result T DiskError → DiskState → DiskState → Type 0
SinceSync true Log (Ok _) old new = ArePresent old.log new.kept × (new.handed ≡ [])
SinceSync true Log (Err _) old new = (new.kept ≡ old.kept) × (new.handed ≡ old.handed)
SinceSync true Db _ old new = (new.kept ≡ old.kept) × (new.handed ≡ old.handed)
SinceSync false _ _ old new = (new.kept ≡ old.kept) × (new.handed ≡ old.handed)

-- what each call leaves of the disk
pub record Elsewhere {T : Type 0} (f : File) (result : Result T DiskError) (old new : DiskState) : Type 0 where
  pub sector : new.sector ≡ old.sector
  pub tears : new.tears ≡ old.tears
  pub other : of (other f) new ≡ of (other f) old
  pub refused : new.refused ≡ counted result old.refused

-- a write of these bytes at a place of a file
pub record Writes {T : Type 0} (f : File) (at : ℕ) (bytes : List ℕ) (result : Result T DiskError) (old new : DiskState) : Type 0 where
  pub elsewhere : Elsewhere f result old new
  pub kept : new.kept ≡ old.kept
  pub handed : new.handed ≡ with_write old.tears f result at bytes old.handed
  pub are_bytes : (i : ℕ) → get_or bytes i 0 < 256
  pub settings : new.settings ≡ past_call old.settings
  pub heeds : Heeds old.settings.scripted (stops_call old.settings.stops) (fails_call old.settings.stops) result
  pub within : EndsWithin result (at + length bytes)
  pub file : ChangedBy old.sector (WriteTouches old.sector (of f old) at bytes) (written (of f old) at bytes) (max (of f old).len (at + length bytes)) result (of f old) (of f new)

-- a change of the length of a file to n bytes
pub record Cuts {T : Type 0} (f : File) (n : ℕ) (result : Result T DiskError) (old new : DiskState) : Type 0 where
  pub elsewhere : Elsewhere f result old new
  pub kept : new.kept ≡ old.kept
  pub handed : new.handed ≡ old.handed
  pub settings : new.settings ≡ past_call old.settings
  pub heeds : Heeds old.settings.scripted (stops_call old.settings.stops) (fails_call old.settings.stops) result
  pub within : EndsWithin result n
  pub file : ChangedBy old.sector (CutTouches old.sector (of f old) n) (cut_to (of f old) n) n result (of f old) (of f new)

-- a sync of a file
pub record Syncs {T : Type 0} (f : File) (result : Result T DiskError) (old new : DiskState) : Type 0 where
  pub elsewhere : Elsewhere f result old new
  pub since : SinceSync old.tears f result old new
  pub settings : new.settings ≡ past_sync old.settings
  pub heeds : Heeds old.settings.scripted (stops_sync old.settings.stops) (fails_call old.settings.stops) result
  pub within : EndsWithin result 0
  pub file : SyncedBy old.sector result (of f old) (of f new)

-- a call that changes nothing but the counts, and would end at this place
pub record Looks {T : Type 0} (end : ℕ) (result : Result T DiskError) (old new : DiskState) : Type 0 where
  pub within : EndsWithin result end
  pub sector : new.sector ≡ old.sector
  pub tears : new.tears ≡ old.tears
  pub db : new.db ≡ old.db
  pub log : new.log ≡ old.log
  pub refused : new.refused ≡ counted result old.refused
  pub kept : new.kept ≡ old.kept
  pub handed : new.handed ≡ old.handed
  pub settings : new.settings ≡ past_call old.settings
  pub heeds : Heeds old.settings.scripted (stops_call old.settings.stops) (fails_call old.settings.stops) result

-- what is asked for: these bytes at a place of a file, another length of a file, or a sync of it
pub data Change : Type 0 where
  write : (f : File) → (at : ℕ) → (bytes : List ℕ) → Change
  set_len : (f : File) → (n : ℕ) → Change
  sync : (f : File) → Change

-- one call of a disk, whatever it answers; what it asks for may be asked for
abbrev pub IsCall : (May : Change → Type 0) → (old new : DiskState) → Type 0
IsCall May old new = ((f : File) × (at : ℕ) × (bytes : List ℕ) × (result : Result (Unit {0}) DiskError) × May (write f at bytes) × Writes f at bytes result old new)
    ⊎ (((f : File) × (n : ℕ) × (result : Result (Unit {0}) DiskError) × May (set_len f n) × Cuts f n result old new)
    ⊎ (((f : File) × (result : Result (Unit {0}) DiskError) × May (sync f) × Syncs f result old new)
    ⊎ ((end : ℕ) × (result : Result (Unit {0}) DiskError) × Looks end result old new)))

-- from state to state of a disk by one call each
abbrev pub GoesThrough : (May : Change → Type 0) → (states : List DiskState) (old new : DiskState) → Type 0
GoesThrough May [] old new = new ≡ old
GoesThrough May (mid ∷ states) old new = IsCall May old mid × GoesThrough May states mid new

-- nothing was done to a disk but calls, and they asked for no other changes than these
pub record HasCalls (May : Change → Type 0) (old new : DiskState) : Type 0 where
  pub states : List DiskState
  pub each : GoesThrough May states old new

-- no change
abbrev pub Nothing : Change → Type 0
Nothing change = ⊥

-- what is kept while nothing of the log is unsynced
abbrev pub kept_of : Bool → List ℕ → List ℕ
kept_of true log = log
kept_of false log = []

-- a crash left these files
pub record IsCrash (db log : List ℕ) (old new : DiskState) : Type 0 where
  pub sector : new.sector ≡ old.sector
  pub tears : new.tears ≡ old.tears
  pub refused : new.refused ≡ old.refused
  pub db_image : IsImage old.sector old.tears old.db db
  pub log_image : IsImage old.sector old.tears old.log log
  pub db_left : IsSettled new.db db
  pub log_left : IsSettled new.log log
  pub kept : new.kept ≡ kept_of old.tears log
  pub handed : new.handed ≡ []

-- a disk with a database that is durable and an empty log
pub record IsNew (size : ℕ) (torn : Bool) (bytes : List ℕ) (s : DiskState) : Type 0 where
  pub sector : s.sector ≡ size
  pub tears : s.tears ≡ torn
  pub refused : s.refused ≡ 0
  pub db : IsSettled s.db bytes
  pub log : IsSettled s.log []
  pub kept : s.kept ≡ []
  pub handed : s.handed ≡ []
