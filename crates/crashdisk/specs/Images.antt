-- What each call of a disk adds to the images that a crash may leave of a file (own).
use Rattle.std.specs.Prelude.{◌≡◌, ◌⊎◌, ◌↔◌, ℕ, ◌+◌, ◌/◌, ◌<◌, ◌≤◌, min, max, Bool, IsTrue, List, length, get_or, Result, Ok, Err}
use Rattle.crashdisk.specs.State.{Value, Shows, FileState, OneListed, IsImage, written, WriteTouches, cut_to, CutTouches}
use Rattle.crashdisk.specs.Call.{DiskState, of, other, ArePresent, Elsewhere, Writes, Cuts, Syncs, Looks, IsCrash}
use Rattle.crashdisk.specs.declared.file.File.{File}
use Rattle.crashdisk.specs.declared.file.File.TheVariants.{Db, Log}
use Rattle.crashdisk.specs.declared.error.DiskError.{DiskError}
use Rattle.crashdisk.specs.declared.error.DiskError.TheVariants.{Stopped, Failed, TooLong, NoMemory}

-- a crash of the disk may leave these bytes of a file
abbrev pub Image : File → DiskState → List ℕ → Type 0
Image f s c = IsImage s.sector s.tears (of f s) c

-- the same bytes may be left
abbrev pub SameImages : File → (old new : DiskState) → Type 0
SameImages f old new = (c : List ℕ) → Image f new c ↔ Image f old c

-- a change was carried out, or failed in the middle
abbrev pub IsMade : Result (Unit {0}) DiskError → Type 0
IsMade (Ok _) = Unit {0}
IsMade (Err Failed) = Unit {0}
IsMade (Err Stopped) = ⊥
IsMade (Err TooLong) = ⊥
IsMade (Err NoMemory) = ⊥

-- An image after a change to this length: its length is between those before, widened to that one; and each sector is as it might
-- have been before, or where it was touched is the new value, or on a disk that tears anything.
pub record IsOldOrNew (sector : ℕ) (tears : Bool) (touches : ℕ → Type 0) (target : Value) (end : ℕ) (old : FileState) (c : List ℕ) : Type 0 where
  pub least : min old.least end ≤ length c
  pub greatest : length c ≤ max old.greatest end
  pub each : (k : ℕ) → OneListed sector tears old c k ⊎ (touches k × (Shows sector k target c ⊎ (IsTrue tears × ((i : ℕ) → i / sector ≡ k → get_or c i 0 < 256))))

-- A call that can't touch the images of a file: a write or a change of its length that wasn't made, not even in part; a sync that was
-- refused; a look; or a call of the other file.
abbrev pub Spares : File → (old new : DiskState) → Type 0
Spares f old new = ((at : ℕ) × (bytes : List ℕ) × (result : Result (Unit {0}) DiskError) × (IsMade result → ⊥) × Writes f at bytes result old new)
    ⊎ (((n : ℕ) × (result : Result (Unit {0}) DiskError) × (IsMade result → ⊥) × Cuts f n result old new)
    ⊎ (((e : DiskError) × Syncs {T = Unit {0}} f (Err e) old new)
    ⊎ (((end : ℕ) × (result : Result (Unit {0}) DiskError) × Looks end result old new)
    ⊎ ((result : Result (Unit {0}) DiskError) × Elsewhere (other f) result old new))))

-- An image has a length from the least to the greatest, and in each sector one listed value, or, on a disk that tears, anything
-- where the sector was touched.
abbrev pub ImagesAreListed : Type 0
ImagesAreListed = (sector : ℕ) (tears : Bool) (s : FileState) (c : List ℕ) → IsImage sector tears s c ↔ ((s.least ≤ length c) × (length c ≤ s.greatest) × ((k : ℕ) → OneListed sector tears s c k))

-- a write adds the new value of each sector that it touches, widens the lengths to the new one, and adds nothing else
abbrev pub WritesAddTheNew : Type 0
WritesAddTheNew = (f : File) (at : ℕ) (bytes : List ℕ) (result : Result (Unit {0}) DiskError) (old new : DiskState) (c : List ℕ) → IsMade result → Writes f at bytes result old new
    → Image f new c ↔ IsOldOrNew old.sector old.tears (WriteTouches old.sector (of f old) at bytes) (written (of f old) at bytes) (max (of f old).len (at + length bytes)) (of f old) c

-- and so does a change of the length
abbrev pub CutsAddTheNew : Type 0
CutsAddTheNew = (f : File) (n : ℕ) (result : Result (Unit {0}) DiskError) (old new : DiskState) (c : List ℕ) → IsMade result → Cuts f n result old new
    → Image f new c ↔ IsOldOrNew old.sector old.tears (CutTouches old.sector (of f old) n) (cut_to (of f old) n) n (of f old) c

-- a sync that succeeds leaves the present bytes alone
abbrev pub SyncsSettle : Type 0
SyncsSettle = (f : File) (done : Unit {0}) (old new : DiskState) (c : List ℕ) → Syncs {T = Unit {0}} f (Ok done) old new → Image f new c ↔ ArePresent (of f old) c

-- any other call, refused or not, adds no image and takes none away
abbrev pub OthersAddNothing : Type 0
OthersAddNothing = (f : File) (old new : DiskState) → Spares f old new → SameImages f old new

-- a crash leaves one image of each file, which it might leave before
abbrev pub CrashesSettle : Type 0
CrashesSettle = (db log : List ℕ) (old new : DiskState) → IsCrash db log old new → (Image Db old db × Image Log old log) × ((c : List ℕ) → (Image Db new c ↔ (c ≡ db)) × (Image Log new c ↔ (c ≡ log)))
