-- What a disk that tears keeps of its log (own).
use Rattle.std.specs.Prelude.{◌≡◌, ℕ, ◌-◌, ◌≤◌, Bool, IsTrue, true, false, List, [], length, take, Result, Ok, Err}
use Rattle.crashdisk.specs.State.{FileState}
use Rattle.crashdisk.specs.Call.{ArePresent}
use Rattle.crashdisk.specs.internal.Held.{Stands}
use Rattle.crashdisk.specs.declared.held.Held.{Held}
use Rattle.crashdisk.specs.declared.since.Since.{Since}
use Rattle.crashdisk.specs.declared.error.DiskError.{DiskError}
use Rattle.crashdisk.specs.declared.error.DiskError.TheVariants.{Stopped, Failed, TooLong, NoMemory}
use Rattle.crashdisk.specs.Since.{kept_bytes, handed_writes}

-- without the last write, where it wasn't made
abbrev pub by_answer : Result (Unit {0}) DiskError → List (ℕ × List ℕ) → List (ℕ × List ℕ)
by_answer (Ok v) handed = handed
by_answer (Err Failed) handed = handed
by_answer (Err Stopped) handed = take (length handed - 1) handed
by_answer (Err TooLong) handed = take (length handed - 1) handed
by_answer (Err NoMemory) handed = take (length handed - 1) handed

-- after a sync of the log
abbrev pub Synced : (tears : Bool) → FileState → Since → Since → Type 0
Synced true log old new = ArePresent log (kept_bytes new) × (handed_writes new ≡ [])
Synced false log old new = new ≡ old

-- after a crash that left these bytes of it
abbrev pub Left : (tears : Bool) → (image : List ℕ) → Since → Since → Type 0
Left true image old new = (kept_bytes new ≡ image) × (handed_writes new ≡ [])
Left false image old new = new ≡ old

-- what holds of the log of a modelled disk: one that tears has room for all bytes of it
pub record StandsLog (sector : ℕ) (tears : Bool) (held : Held) (since : Since) : Type 0 where
  pub stands : Stands sector held
  pub room : IsTrue tears → held.greatest ≤ length since.room.items

-- what is kept stays, and these writes are handed over
pub record Hands (writes : List (ℕ × List ℕ)) (old new : Since) : Type 0 where
  pub kept : kept_bytes new ≡ kept_bytes old
  pub handed : handed_writes new ≡ writes
