-- The lock-byte page and the pointer maps of a database of auto-vacuum (fileformat2, 1.4 and 1.8).
use Rattle.std.specs.Prelude.{◌≡◌, ◌≢◌, ℕ, ◌+◌, ◌-◌, ◌*◌, ◌/◌, ◌<◌, ◌≤◌, ◌==◌, if◌then◌else◌, List, Option, Some, None}
use Rattle.sqval.specs.Bytes.{word}
use Rattle.sqpage.specs.Header.{byte}
use Rattle.sqpage.specs.declared.pointer_map.PointerKind.{PointerKind}
use Rattle.sqpage.specs.declared.pointer_map.PointerKind.TheVariants.{Root, Free, FirstOverflow, Overflow, Child}
use Rattle.sqpage.specs.declared.pointer_map.MapEntry.{MapEntry}
use Rattle.sqpage.specs.declared.pointer_map.EntryPlace.{EntryPlace}

-- the byte of a file that is locked, and never written
abbrev pub lock_byte : ℕ
lock_byte = 1073741824

-- page p of a file of pages of this size holds the byte, counted from 0
abbrev pub HoldsByte : (size p at : ℕ) → Type 0
HoldsByte size p at = (1 ≤ p) × ((p - 1) * size ≤ at) × (at < p * size)

-- the lock-byte page
abbrev pub lock_byte_page : (size : ℕ) → ℕ
lock_byte_page size = lock_byte / size + 1

-- how far the first pages of two groups are apart: a pointer map and the pages that it has entries of, five usable
-- bytes each
abbrev pub group_length : (usable : ℕ) → ℕ
group_length usable = usable / 5 + 1

-- the first page of group k, from 0: page 2, and every so many pages after it
abbrev pub group_start : (usable k : ℕ) → ℕ
group_start usable k = 2 + k * group_length usable

-- the pointer map of a group: its first page, or the one behind it where that is the lock-byte page
abbrev pub group_map : (size usable k : ℕ) → ℕ
group_map size usable k = if group_start usable k == lock_byte_page size then group_start usable k + 1 else group_start usable k

-- page p is a pointer map
abbrev pub IsPointerMap : (size usable p : ℕ) → Type 0
IsPointerMap size usable p = (k : ℕ) × (p ≡ group_map size usable k)

-- The entry of page p, which isn't the lock-byte page, stands in the map of its group, behind those of the pages
-- between.
pub record IsEntryPlace (size usable p : ℕ) (place : EntryPlace) : Type 0 where
  pub other : p ≢ lock_byte_page size
  pub group : ℕ
  pub map_is : place.map ≡ group_map size usable group
  pub behind : place.map < p
  pub within : p < group_start usable (group + 1)
  pub at_is : place.at ≡ 5 * (p - place.map - 1)

abbrev pub PlaceAnswer : (size usable p : ℕ) → Option EntryPlace → Type 0
PlaceAnswer size usable p (Some place) = IsEntryPlace size usable p place
PlaceAnswer size usable p None = (place : EntryPlace) → ¬ IsEntryPlace size usable p place

-- the number that stands for a kind of page
abbrev pub kind_code : PointerKind → ℕ
kind_code Root = 1
kind_code Free = 2
kind_code FirstOverflow = 3
kind_code Overflow = 4
kind_code Child = 5

-- five bytes of a map: a kind and the number of a page
abbrev pub EntryAnswer : (bytes : List ℕ) → Option MapEntry → Type 0
EntryAnswer bytes (Some entry) = (kind_code entry.kind ≡ byte bytes 0) × (entry.parent ≡ word bytes 1)
EntryAnswer bytes None = (kind : PointerKind) → kind_code kind ≢ byte bytes 0
