-- What is left of a file, and counted, by what a call answered.
use Rattle.crashdisk.proofs.Words.{Bool, Changed, ChangedBy, Db, DiskError, Err, Failed, FileState, IsShuffled, IsSynced, List, Log, NoMemory, Ok, Result, Stopped, SyncedBy, TooLong, arith, counted, false, refl, subst, sym, true, with_write, ℕ, ◌+◌, ◌<◌, ◌^◌, ◌≡◌, ◌≤◌}

-- What holds of a file before a call, and of it after a change, holds after the call.
pub by_change : {T : Type 0} (P : FileState → Type 0) (sector : ℕ) (touches : ℕ → Type 0) (target : ℕ → ℕ) (end : ℕ) (result : Result T DiskError) (old new : FileState)
    → (Changed sector touches target end old new → P new) → P old → ChangedBy sector touches target end result old new → P new
by_change P sector touches target end (Ok _) old new made kept by = made by.0
by_change P sector touches target end (Err Failed) old new made kept by = made by
by_change P sector touches target end (Err Stopped) old new made kept same = subst P (sym same) kept
by_change P sector touches target end (Err TooLong) old new made kept same = subst P (sym same) kept
by_change P sector touches target end (Err NoMemory) old new made kept same = subst P (sym same) kept

-- The same of a sync.
pub by_sync : {T : Type 0} (P : FileState → Type 0) (sector : ℕ) (result : Result T DiskError) (old new : FileState)
    → (IsSynced old new → P new) → (IsShuffled sector old new → P new) → P old → SyncedBy sector result old new → P new
by_sync P sector (Ok _) old new done failed kept by = done by
by_sync P sector (Err Failed) old new done failed kept by = failed by
by_sync P sector (Err Stopped) old new done failed kept same = subst P (sym same) kept
by_sync P sector (Err TooLong) old new done failed kept same = subst P (sym same) kept
by_sync P sector (Err NoMemory) old new done failed kept same = subst P (sym same) kept

-- The count of refused calls never falls, and stays a number of 64 bits.
pub counted_within : {T : Type 0} (result : Result T DiskError) (n : ℕ) → n < 2 ^ 64 → (n ≤ counted result n) × (counted result n < 2 ^ 64)
counted_within (Ok _) n lt = (omega arith, omega arith)
counted_within (Err TooLong) n lt = (omega arith, omega arith)
counted_within (Err Stopped) n lt = (omega arith, omega arith)
counted_within (Err Failed) n lt = (omega arith, omega arith)
counted_within (Err NoMemory) n lt = (omega arith, omega arith)

-- A write of the database hands nothing over.
pub handed_db : {T : Type 0} (tears : Bool) (result : Result T DiskError) (at : ℕ) (bytes : List ℕ) (handed : List (ℕ × List ℕ)) → with_write tears Db result at bytes handed ≡ handed
handed_db true result at bytes handed = refl
handed_db false result at bytes handed = refl
