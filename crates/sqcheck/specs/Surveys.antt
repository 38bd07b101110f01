-- What a survey finds: what the pages of a database are used for, and what is wrong with it (own).
use Rattle.std.specs.Prelude.{◌≡◌, ◌≢◌, ℕ, ◌⊎◌, ◌-◌, ◌<◌, ◌≤◌, Bool, true, false, List, [], length, get_or, IfOk, IfErr}
use Rattle.sqval.specs.Bytes.{word}
use Rattle.sqval.specs.Database.{Database, page}
use Rattle.sqpage.specs.Freelist.{IsPage, usable_size, free_pages}
use Rattle.sqpage.specs.Lists.{In, Every, Apart}
use Rattle.sqpage.specs.declared.kind.Kind.{Kind}
use Rattle.sqpage.specs.declared.fault.CheckError.{CheckError}
use Rattle.sqpage.specs.declared.fault.Fault.{Fault}
use Rattle.sqpage.specs.declared.fault.Fault.TheVariants as faults
use Rattle.sqcheck.specs.declared.role.Role.{Role}
use Rattle.sqcheck.specs.declared.role.Role.TheVariants.{Btree, FreeTrunk, FreeLeaf, Unused}
use Rattle.sqcheck.specs.declared.survey.Survey.{Survey}
use Rattle.sqcheck.specs.Roles.{HasRole, IsRoleSetAside}
use Rattle.sqcheck.specs.Found.{IsWhole, IsFound, IsRoleIn, HasFoundRole, IsFoundFault, IsWrongAt, IsFaultOf, IsInShortRow, HasManyRoots}
use Rattle.sqcheck.specs.Places.{Spot, StandsIn, StandsInRow, IsFirst}
use Rattle.sqcheck.specs.Stands.{StandsWith, is_of_header}
use Rattle.sqcheck.specs.WellFormed.{IsAutoVacuum, HasSoundHeader, WellFormedWith, IsReport}

-- the role of page p in a list by page, from 1
abbrev pub role_at : List Role → (p : ℕ) → Role
role_at roles p = get_or roles (p - 1) Unused

-- They are the roles of all pages, by page from 1.
pub record AreAllRoles (d : Database) (size : ℕ) (roles : List Role) : Type 0 where
  pub long : length roles ≡ length d
  pub each : (p : ℕ) → IsPage d p → HasRole d p (role_at roles p) ⊎ IsRoleSetAside d size p (role_at roles p)

-- Each page has a role that a found place names it in, or that it is set aside for, or none.
pub record AreFoundRoles (d : Database) (size : ℕ) (roles : List Role) : Type 0 where
  pub long : length roles ≡ length d
  pub each : (p : ℕ) → IsPage d p → (role_at roles p ≡ Unused) ⊎ HasFoundRole d p (role_at roles p) ⊎ IsRoleSetAside d size p (role_at roles p)

-- the most faults that a survey names
abbrev pub most_faults : ℕ
most_faults = 1000000

-- One of the faults is such a one, or there are as many as a survey names.
abbrev pub Names : List CheckError → (CheckError → Type 0) → Type 0
Names told Is = (most_faults ≤ length told) ⊎ ((e : CheckError) × In e told × Is e)

-- a fault of the place is named
abbrev pub IsNamed : Database → List CheckError → Spot → Type 0
IsNamed d told s = Names told (IsFaultOf d s)

-- The page that s names has the role that s names it in, or a fault of s is named.
abbrev pub IsLookedAt : Database → List Role → List CheckError → Spot → Type 0
IsLookedAt d roles told s = (IsPage d s.page × IsRoleIn d s.page s.role (role_at roles s.page)) ⊎ IsNamed d told s

-- The page that s names is as its role wants it, and each place in it was looked at, and in its rows each root without
-- overflow pages, unless there are too many.
pub record IsLookedThrough (d : Database) (roles : List Role) (told : List CheckError) (s : Spot) : Type 0 where
  pub whole : IsWhole d s
  pub pages : (t : Spot) → StandsIn d s t → IsLookedAt d roles told t
  pub roots : (t : Spot) → StandsInRow d s t → IsInShortRow d t → IsLookedAt d roles told t ⊎ HasManyRoots d

-- Page p has the role that a found place names it in, and was looked through as that, or what is wrong with it is named.
abbrev pub HasJudgedRole : Database → List Role → List CheckError → (p : ℕ) → Role → Type 0
HasJudgedRole d roles told p role =
    (s : Spot) × IsFound d s × (s.page ≡ p) × IsRoleIn d p s.role role × (IsLookedThrough d roles told s ⊎ Names told (IsWrongAt d s))

-- These are the pages that have a role in the freelist, each once.
pub record AreFreePages (d : Database) (roles : List Role) (ps : List ℕ) : Type 0 where
  pub all : (p : ℕ) → IsPage d p → (role_at roles p ≡ FreeTrunk) ⊎ (role_at roles p ≡ FreeLeaf) → In p ps
  pub only : Every (λ p. IsPage d p × ((role_at roles p ≡ FreeTrunk) ⊎ (role_at roles p ≡ FreeLeaf))) ps
  pub distinct : Apart ps

-- as many pages have such a role as the header says
abbrev pub HasFreeCount : Database → List Role → Type 0
HasFreeCount d roles = (ps : List ℕ) × AreFreePages d roles ps × (length ps ≡ free_pages d)

-- the role of page p is that of a tree's root
abbrev pub IsRootIn : List Role → (p : ℕ) → Type 0
IsRootIn roles p = (kind : Kind) × (role_at roles p ≡ Btree kind p)

-- with pointer maps, n is the largest page of such a role
abbrev pub IsLargestIn : (maps : Bool) → Database → List Role → (n : ℕ) → Type 0
IsLargestIn maps d roles n = maps ≡ true → IsAutoVacuum d → IsPage d n × IsRootIn roles n × ((p : ℕ) → IsPage d p → IsRootIn roles p → p ≤ n)

-- What is named at page p: that nothing has named it, that the header says another length of the freelist or another largest
-- root, or what holds by the places that were found.
abbrev pub IsNamedFault : (maps : Bool) → Database → (size : ℕ) → List Role → CheckError → Type 0
IsNamedFault maps d size roles e = ((e.fault ≡ faults.PageUnused) × IsPage d e.page × (role_at roles e.page ≡ Unused))
    ⊎ ((e.fault ≡ faults.FreeCount) × (e.page ≡ 1) × ¬ HasFreeCount d roles)
    ⊎ ((e.fault ≡ faults.PointerMap) × (e.page ≡ 1) × ¬ IsLargestIn maps d roles (word (page d 1) 52))
    ⊎ IsFoundFault maps d size e.fault e.page

-- The faults that are named of a database that isn't well formed: only what was found, and something wherever the header,
-- or a page in the role that it has, isn't sound, or the freelist or the largest root isn't as the header says; each page
-- that nothing has named; and the first places and those in each page that has a role were looked at.
pub record AreFoundFaults (maps : Bool) (d : Database) (size : ℕ) (roles : List Role) (told : List CheckError) : Type 0 where
  pub only : Every (IsNamedFault maps d size roles) told
  pub header : (¬ HasSoundHeader maps d size) → Names told (λ e. (e.page ≡ 1) × ((is_of_header e.fault ≡ true) ⊎ (e.fault ≡ faults.PointerMap)))
  pub starts : (s : Spot) → IsFirst d s → IsLookedAt d roles told s
  pub judged : (p : ℕ) → IsPage d p → (role_at roles p ≡ Unused) ⊎ HasJudgedRole d roles told p (role_at roles p) ⊎ IsRoleSetAside d size p (role_at roles p)
  pub unused : (p : ℕ) → IsPage d p → role_at roles p ≡ Unused → Names told (λ e. (e.page ≡ p) × (e.fault ≡ faults.PageUnused))
  pub free : (¬ HasFreeCount d roles) → Names told (λ e. (e.page ≡ 1) × (e.fault ≡ faults.FreeCount))
  pub largest : (¬ IsLargestIn maps d roles (word (page d 1) 52)) → Names told (λ e. (e.page ≡ 1) × (e.fault ≡ faults.PointerMap))

-- Where its answer is a report, the database is well formed, the report and the roles are its, and there is no fault.
abbrev pub FindsCleanWith : (maps : Bool) → Database → (size : ℕ) → Survey → Type 0
FindsCleanWith maps d size survey = IfOk survey.answer (λ report. (w : WellFormedWith maps d size) × IsReport d w.places report
    × AreAllRoles d size survey.roles.items × (survey.faults.items ≡ []))

-- Where its answer is a fault, that stands at its page, and the database isn't well formed. That memory ran out is no
-- answer. Each role is one that sound pages lead to, and the faults are those that were found.
abbrev pub FindsDamagedWith : (maps : Bool) → Database → (size : ℕ) → Survey → Type 0
FindsDamagedWith maps d size survey =
    IfErr survey.answer (λ e. StandsWith maps d size e.fault e.page × (¬ WellFormedWith maps d size) × (e.fault ≢ faults.NoMemory) × AreFoundRoles d size survey.roles.items
    × AreFoundFaults maps d size survey.roles.items survey.faults.items)

-- Why there is no survey of pages that are given: page 1 isn't that of a database, or too little of each page is used; or
-- memory ran out.
abbrev pub SurveyRefusedWith : (maps : Bool) → Database → (size : ℕ) → Fault → (p : ℕ) → Type 0
SurveyRefusedWith maps d size fault p = (fault ≡ faults.NoMemory) ⊎ (StandsWith maps d size fault p × ((fault ≡ faults.Magic) ⊎ (usable_size d < 480)))

-- the same where auto-vacuum is refused
abbrev pub FindsClean : Database → (size : ℕ) → Survey → Type 0
FindsClean = FindsCleanWith false

abbrev pub FindsDamaged : Database → (size : ℕ) → Survey → Type 0
FindsDamaged = FindsDamagedWith false

abbrev pub SurveyRefused : Database → (size : ℕ) → Fault → (p : ℕ) → Type 0
SurveyRefused = SurveyRefusedWith false
