-- What each page of the database that files show is used for, as a caller has it.
use Rattle.std.specs.Prelude.{◌≡◌, ◌≢◌, ◌⊎◌, ℕ, ◌<◌, ◌≤◌, Bool, List, length, get_or, Result, Ok, Err, IfErr}
use Rattle.sqval.specs.Database.{Database}
use Rattle.sqpage.specs.Faults.{number_of}
use Rattle.sqpage.specs.declared.fault.CheckError.{CheckError}
use Rattle.sqpage.specs.declared.fault.Fault.{Fault}
use Rattle.sqpage.specs.declared.fault.Fault.TheVariants as faults
use Rattle.sqpage.specs.declared.kind.Kind.{Kind}
use Rattle.sqpage.specs.declared.kind.Kind.TheVariants.{TableLeaf, TableInterior, IndexLeaf, IndexInterior}
use Rattle.sqcheck.specs.Stands.{StandsWith}
use Rattle.sqcheck.specs.Surveys.{FindsCleanWith, FindsDamagedWith, SurveyRefusedWith}
use Rattle.sqcheck.specs.declared.report.Report.{Report}
use Rattle.sqcheck.specs.declared.role.Role.{Role}
use Rattle.sqcheck.specs.declared.role.Role.TheVariants.{Btree, Overflow, FreeTrunk, FreeLeaf, LockByte, PointerMap, Unused}
use Rattle.sqcheck.specs.declared.survey.Survey.{Survey}
use Rattle.sqpast.specs.declared.past_error.PastError.{PastError}
use Rattle.sqrescue_c.specs.Asked.{maps_of, ShowsAsked, AskedRefused}
use Rattle.sqrescue_c.specs.Statuses.{past_status}
use Rattle.sqrescue_c.specs.declared.roles.PageRole.{PageRole}
use Rattle.sqrescue_c.specs.declared.roles.SurveyReport.{SurveyReport}

abbrev pub kind_number : Kind → ℕ
kind_number TableLeaf = 1
kind_number TableInterior = 2
kind_number IndexLeaf = 3
kind_number IndexInterior = 4

-- a role by its number, and the page that goes with it: the root of its tree, or the page whose payload it holds
abbrev pub role_of : Role → PageRole
role_of (Btree kind root) = record { role = kind_number kind; of_page = root }
role_of (Overflow owner) = record { role = 5; of_page = owner }
role_of FreeTrunk = record { role = 6; of_page = 0 }
role_of FreeLeaf = record { role = 7; of_page = 0 }
role_of LockByte = record { role = 8; of_page = 0 }
role_of PointerMap = record { role = 9; of_page = 0 }
role_of Unused = record { role = 10; of_page = 0 }

-- what a survey finds of a database of pages of this size, with pointer maps or without
pub record IsSurveyOf (maps : Bool) (d : Database) (size : ℕ) (survey : Survey) : Type 0 where
  pub clean : FindsCleanWith maps d size survey
  pub damaged : FindsDamagedWith maps d size survey
  pub judged : IfErr survey.answer (λ e. e.fault ≢ faults.AutoVacuum)
  pub long : length survey.roles.items ≡ length d

-- what a check answers, by its status
abbrev pub IsAnswered : Result Report CheckError → (status : ℕ) → SurveyReport → Type 0
IsAnswered (Ok report) status out = (status ≡ 0) × (out.fault ≡ 0) × (out.page ≡ 0)
IsAnswered (Err e) status out = (status ≡ 1) × (out.fault ≡ number_of e.fault) × (out.page ≡ e.page)

-- the array begins with the role of each page of the database that flags ask for
pub record AreRolesAsked (flags m : ℕ) (db wal journal : List ℕ) (status : ℕ) (out : SurveyReport) (roles : List PageRole) : Type 0 where
  pub size : ℕ
  pub database : Database
  pub shown : ShowsAsked flags m size db wal journal database
  pub survey : Survey
  pub is : IsSurveyOf (maps_of flags) database size survey
  pub answered : IsAnswered survey.answer status out
  pub counted : out.pages ≡ length database
  pub long : out.pages ≤ length roles
  pub each : (i : ℕ) (r : PageRole) → i < out.pages → get_or roles i r ≡ role_of (get_or survey.roles.items i Unused)

-- that database has so many pages
pub record HasAskedPages (flags m : ℕ) (db wal journal : List ℕ) (count : ℕ) : Type 0 where
  pub size : ℕ
  pub database : Database
  pub shown : ShowsAsked flags m size db wal journal database
  pub counted : count ≡ length database

-- why there is no survey of a database: no memory, pointer maps that aren't asked for, or its pages can't be walked over
abbrev pub IsUnsurveyedBy : (maps : Bool) (d : Database) (size number : ℕ) → Type 0
IsUnsurveyedBy maps d size number =
    (number ≡ 6)
    ⊎ (((number ≡ 4) × (p : ℕ) × StandsWith maps d size faults.AutoVacuum p)
    ⊎ ((number ≡ 5) × (fault : Fault) × (p : ℕ) × (fault ≢ faults.NoMemory) × SurveyRefusedWith maps d size fault p))

-- that, or what refuses its view
abbrev pub AreRolesRefused : (flags m : ℕ) (db wal journal : List ℕ) (number : ℕ) → Type 0
AreRolesRefused flags m db wal journal number =
    ((e : PastError) × (number ≡ past_status e) × AskedRefused flags m db wal journal e)
    ⊎ ((size : ℕ) × (d : Database) × ShowsAsked flags m size db wal journal d × IsUnsurveyedBy (maps_of flags) d size number)
