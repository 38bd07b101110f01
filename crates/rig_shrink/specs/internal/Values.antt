-- The values that the sectors of a file have, as they are looked through (own).
use Rattle.std.specs.Prelude.{◌≡◌, ℕ, suc, ◌/◌, ◌%◌, ◌<◌, ◌≤◌, List, [], length, get_or}
use Rattle.std.specs.List.{Contains}
use Rattle.crashdisk.specs.Call.{DiskState}
use Rattle.crashdisk.specs.Choice.{listed}
use Rattle.crashdisk.specs.State.{IsImage}

-- so many numbers, each this one
pub record IsEach (n count : ℕ) (picks : List ℕ) : Type 0 where
  pub long : length picks ≡ count
  pub each : (k : ℕ) → k < count → get_or picks k 0 ≡ n

-- the file at its longest, each sector with its value of a number, counted from the oldest, modulo how many it has
pub record IsValued (f : DiskState) (n : ℕ) (bytes : List ℕ) : Type 0 where
  pub long : length bytes ≡ f.db.greatest
  pub each : (i : ℕ) → i < f.db.greatest → get_or bytes i 0 ≡ listed f.db (i / f.sector) (n % suc (length (f.db.earlier (i / f.sector)))) i

-- the same of each number below this one
pub record AreValued (f : DiskState) (n : ℕ) (all : List (List ℕ)) : Type 0 where
  pub long : length all ≡ n
  pub each : (m : ℕ) → m < n → IsValued f m (get_or all m [])

-- each sector has fewer earlier values than this
abbrev pub HasMost : DiskState → (n : ℕ) → Type 0
HasMost f n = (k : ℕ) → k ≤ f.db.greatest / f.sector → length (f.db.earlier k) < n

-- the same of each number that a sector may have
pub record AreValues (f : DiskState) (all : List (List ℕ)) : Type 0 where
  pub most : HasMost f (length all)
  pub each : (n : ℕ) → n < length all → IsValued f n (get_or all n [])

-- two files are the same from a place up to another one, with zeros behind their ends
abbrev pub AreSameFrom : (start end : ℕ) (longer bytes : List ℕ) → Type 0
AreSameFrom start end longer bytes = (i : ℕ) → start ≤ i → i < end → get_or bytes i 0 ≡ get_or longer i 0

-- sector k of bytes is that of another file
abbrev pub IsSameIn : (sector k : ℕ) (longer bytes : List ℕ) → Type 0
IsSameIn sector k longer bytes = (i : ℕ) → i / sector ≡ k → i < length bytes → get_or bytes i 0 ≡ get_or longer i 0

-- it is that of one of these files
abbrev pub IsSameAsOne : (sector k : ℕ) (all : List (List ℕ)) (bytes : List ℕ) → Type 0
IsSameAsOne sector k all bytes = (n : ℕ) × (n < length all) × IsSameIn sector k (get_or all n []) bytes

-- a crash may leave bytes of one of these files
abbrev pub IsOfOne : List DiskState → List ℕ → Type 0
IsOfOne files bytes = (f : DiskState) × Contains files f × IsImage f.sector f.tears f.db bytes
