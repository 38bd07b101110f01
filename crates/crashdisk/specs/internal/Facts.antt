-- What an engine keeps of what a crash may leave (own).
use Rattle.std.specs.Prelude.{◌≡◌, ◌⊎◌, ℕ, ◌/◌, ◌<◌, ◌≤◌, ◌+◌, min, Bool, IsTrue, List, length, get_or}
use Rattle.crashdisk.specs.State.{FileState, IsImage, IsSound, Meets}
use Rattle.crashdisk.specs.Call.{DiskState, of, other, HasCalls}
use Rattle.crashdisk.specs.internal.Call.{InFile}
use Rattle.crashdisk.specs.declared.file.File.{File}
use Rattle.crashdisk.specs.Facts.{IsFixed}

-- each file that a crash may leave has this byte there, with zeros past its end
abbrev pub IsSteady : (sector : ℕ) (tears : Bool) → FileState → (i b : ℕ) → Type 0
IsSteady sector tears s i b = (c : List ℕ) → IsImage sector tears s c → get_or c i 0 ≡ b

-- the same of a file of a disk
abbrev pub Steady : File → DiskState → (i b : ℕ) → Type 0
Steady f s i b = IsSteady s.sector s.tears (of f s) i b

-- the same of a file of a disk
abbrev pub Fixed : File → DiskState → (i b : ℕ) → Type 0
Fixed f s i b = IsFixed s.sector s.tears (of f s) i b

-- a place that a write of this range may change: on a disk that tears, all of each sector that it touches
abbrev pub Spreads : (sector : ℕ) (tears : Bool) (from to i : ℕ) → Type 0
Spreads sector tears from to i = ((from ≤ i) × (i < to)) ⊎ (IsTrue tears × Meets sector from to (i / sector))

-- On a disk that tears, a place past the file at its longest isn't in a sector that was touched. (Where it is, the file
-- may be lengthened over whatever the sector holds there.)
abbrev pub IsClear : (sector : ℕ) (tears : Bool) → FileState → (i : ℕ) → Type 0
IsClear sector tears s i = IsTrue tears → s.greatest ≤ i → 0 < length (s.earlier (i / sector)) → ⊥

-- The file before calls that wrote nothing but in this range, from which the file c comes that a crash may leave after them.
pub record Earlier (sector : ℕ) (tears : Bool) (from to : ℕ) (old : FileState) (c : List ℕ) : Type 0 where
  pub file : List ℕ
  pub image : IsImage sector tears old file
  pub shorter : length file ≤ length c
  pub reaches : min (length c) old.len ≤ length file
  -- where they didn't lengthen the file
  pub whole : to ≤ old.len → length file ≡ length c
  -- outside the range a byte stays; or it was past the end then, and they put a zero there
  pub each : (i : ℕ) → i < length file → (Spreads sector tears from to i → ⊥) → (get_or c i 0 ≡ get_or file i 0) ⊎ ((old.len ≤ i) × (get_or c i 0 ≡ 0))

-- Calls that wrote nothing of a file but in this range, and didn't shorten it: each file that a crash may leave after
-- them comes from one that a crash might have left before them.
pub record AltersFile (sector : ℕ) (tears : Bool) (from to : ℕ) (old new : FileState) : Type 0 where
  pub sound : IsSound sector new
  pub least : old.least ≤ new.least
  pub len : old.len ≤ new.len
  pub comes : (c : List ℕ) → IsImage sector tears new c → Earlier sector tears from to old c

-- and they left the other file alone
pub record Alters (f : File) (from to : ℕ) (old new : DiskState) : Type 0 where
  pub sector : new.sector ≡ old.sector
  pub tears : new.tears ≡ old.tears
  pub other : of (other f) new ≡ of (other f) old
  pub calls : HasCalls (InFile f) old new
  pub file : AltersFile old.sector old.tears from to (of f old) (of f new)

-- where these bytes were written, a file has all of them, or what one has that a crash might have left before
abbrev pub NewOrOld : File → (at : ℕ) (bytes : List ℕ) (old : DiskState) (c : List ℕ) → Type 0
NewOrOld f at bytes old c = ((i : ℕ) → i < length bytes → get_or c (at + i) 0 ≡ get_or bytes i 0) ⊎ ((d : List ℕ) × IsImage old.sector old.tears (of f old) d × ((i : ℕ) → i < length bytes → get_or c (at + i) 0 ≡ get_or d (at + i) 0))
