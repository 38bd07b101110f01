-- Which pages of a chart nothing has named, and which faults it has (own).
use Rattle.std.specs.Prelude.{◌≡◌, ℕ, suc, ◌-◌, ◌<◌, List, [], ◌∷◌, ◌++◌, length, take, slice_get, Some}
use Rattle.sqpage.specs.declared.fault.CheckError.{CheckError}
use Rattle.sqpage.specs.declared.fault.Fault.TheVariants.{PageUnused}
use Rattle.sqcheck.specs.Surveys.{most_faults}
use Rattle.sqcheck.specs.declared.role.Role.{Role}
use Rattle.sqcheck.specs.declared.role.Role.TheVariants.{Unused}

-- a page, from 1, is one of those in a list of roles by page, and nothing has named it
abbrev pub IsUnusedIn : (roles : List Role) → (page : ℕ) → Type 0
IsUnusedIn roles page = (0 < page) × (slice_get roles (page - 1) ≡ Some Unused)

-- faults were put down behind the old ones, in their order, as many as there was room for
abbrev pub ArePutDown : (old faults new : List CheckError) → Type 0
ArePutDown old faults new = new ≡ old ++ take (most_faults - length old) faults

-- the fault of a page that has this role: one where nothing has named it
abbrev pub unused_fault : (page : ℕ) → Role → List CheckError
unused_fault page Unused = record { page = page; fault = PageUnused } ∷ []
unused_fault page _ = []

-- those of the pages from this one on that have these roles
abbrev pub unused_faults : (page : ℕ) → (roles : List Role) → List CheckError
unused_faults page [] = []
unused_faults page (role ∷ roles) = unused_fault page role ++ unused_faults (suc page) roles
