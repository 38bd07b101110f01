-- What a survey finds: what the pages of a database are used for, and what is wrong with it (own).
use Rattle.std.specs.Prelude.{◌≡◌, ◌≢◌, ◌⊎◌, ℕ, ◌-◌, ◌<◌, ◌≤◌, List, length, set, Option, Some, None, IfSome}
use Rattle.sqval.specs.Database.{Database}
use Rattle.sqpage.specs.Freelist.{IsWithin, IsPage, usable_size}
use Rattle.sqpage.specs.PointerMaps.{lock_byte_page, IsPointerMap}
use Rattle.sqpage.specs.declared.fault.Fault.{Fault}
use Rattle.sqpage.specs.declared.fault.Fault.TheVariants as faults
use Rattle.sqcheck.specs.Surveys.{role_at}
use Rattle.sqcheck.specs.WellFormed.{IsAutoVacuum}
use Rattle.sqcheck.specs.declared.role.Role.{Role}
use Rattle.sqcheck.specs.declared.role.Role.TheVariants.{LockByte, PointerMap, Unused}

-- a fault of the source or of memory, and not of the database
abbrev pub IsEnd : Fault → Type 0
IsEnd fault = (fault ≡ faults.Source) ⊎ (fault ≡ faults.NoMemory)

-- that memory ran out, or of a source that doesn't give its pages a failed read
abbrev pub Ends : (given : Type 0) → Fault → Type 0
Ends given fault = (fault ≡ faults.NoMemory) ⊎ ((fault ≡ faults.Source) × ¬ given)

-- A page's role was put down in a list by page, where it is one of the list's. No public contract cites this word.
abbrev pub Charts : (old : List Role) → (page : ℕ) → Role → (new : List Role) → Type 0
Charts old page role new = (length new ≡ length old) × (0 < page → page ≤ length old → new ≡ set old (page - 1) role)

-- This is put down of page p before a walk: the lock-byte page, and where so many bytes of each page are reserved beside
-- pointer maps, whether it is one of these.
pub record IsSetDown (size : ℕ) (reserved : Option ℕ) (p : ℕ) (role : Role) : Type 0 where
  pub lock : p ≡ lock_byte_page size → role ≡ LockByte
  pub map : p ≢ lock_byte_page size → IfSome reserved (λ n. (IsPointerMap size (size - n) p × (role ≡ PointerMap)) ⊎ ((IsPointerMap size (size - n) p → ⊥) × (role ≡ Unused)))
  pub plain : p ≢ lock_byte_page size → reserved ≡ None → role ≡ Unused

-- of each of so many pages
pub record AreSetDown (count size : ℕ) (reserved : Option ℕ) (roles : List Role) : Type 0 where
  pub long : length roles ≡ count
  pub each : (p : ℕ) → IsWithin count p → IsSetDown size reserved p (role_at roles p)

-- so many bytes of each page are reserved in a database of auto-vacuum
abbrev pub IsReserved : Database → (size n : ℕ) → Type 0
IsReserved d size n = IsAutoVacuum d × (size - n ≡ usable_size d)

-- how many bytes of each page are reserved, where the database is one of auto-vacuum
abbrev pub KnowsReserved : Database → (size : ℕ) → Option ℕ → Type 0
KnowsReserved d size reserved = IsPage d 1 → IsAutoVacuum d → (n : ℕ) × (reserved ≡ Some n) × (size - n ≡ usable_size d)
