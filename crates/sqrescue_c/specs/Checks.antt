-- What the check of files answers.
use Rattle.std.specs.Prelude.{◌≡◌, ◌≢◌, ◌⊎◌, ℕ, List}
use Rattle.sqpage.specs.Faults.{number_of}
use Rattle.sqpage.specs.declared.fault.Fault.{Fault}
use Rattle.sqval.specs.Database.{Database}
use Rattle.sqview.specs.Verdicts.{FindsWith, IsUnjudgedWith}
use Rattle.sqview.specs.declared.judge_error.JudgeError.{JudgeError}
use Rattle.sqview.specs.declared.verdict.Verdict.{Verdict}
use Rattle.sqview.specs.declared.verdict.Verdict.TheVariants.{Clean, Damaged}
use Rattle.sqview.specs.declared.view_error.ViewError.TheVariants.{Header}
use Rattle.sqpast.specs.declared.past_error.PastError.{PastError}
use Rattle.sqpast.specs.declared.past_error.PastError.TheVariants.{Refused}
use Rattle.sqrescue_c.specs.Asked.{maps_of, ShowsAsked, AskedRefused}
use Rattle.sqrescue_c.specs.Statuses.{judge_status, past_status}
use Rattle.sqrescue_c.specs.declared.check.CheckReport.{CheckReport}

-- the verdict that the database is well formed, with these counts
pub record SaysClean (IsFound : Verdict → Type 0) (out : CheckReport) : Type 0 where
  pub verdict : IsFound
      (Clean (record {
        pages = out.pages;
        trees = out.trees;
        btree = out.btree;
        overflow = out.overflow;
        free = out.free;
      }))
  pub no_fault : out.fault ≡ 0
  pub no_page : out.page ≡ 0

-- the verdict that the fault of this number stands at this page
pub record SaysDamaged (IsFound : Verdict → Type 0) (out : CheckReport) : Type 0 where
  pub fault : Fault
  pub numbered : out.fault ≡ number_of fault
  pub verdict : IsFound (Damaged (record { page = out.page; fault = fault }))

-- What is found of the database that flags ask for, by pointer maps or without; or the fault of a header that names none.
abbrev pub IsAskedVerdict : (flags m : ℕ) (db wal journal : List ℕ) → Verdict → Type 0
IsAskedVerdict flags m db wal journal verdict =
    ((size : ℕ) × (d : Database) × ShowsAsked flags m size db wal journal d × FindsWith (maps_of flags) d size verdict)
    ⊎ ((fault : Fault) × (verdict ≡ Damaged (record { page = 1; fault = fault })) × AskedRefused flags m db wal journal (Refused (Header fault)))

-- Why there is no verdict, by its number: what refuses the view, and isn't the file's header.
abbrev pub IsViewRefused : (flags m : ℕ) (db wal journal : List ℕ) → (number : ℕ) → Type 0
IsViewRefused flags m db wal journal number = (e : PastError) × (number ≡ past_status e) × (number ≢ 5) × AskedRefused flags m db wal journal e

-- That, or pointer maps that aren't asked for, or no memory.
abbrev pub AreAskedUnjudged : (flags m : ℕ) (db wal journal : List ℕ) → (number : ℕ) → Type 0
AreAskedUnjudged flags m db wal journal number =
    IsViewRefused flags m db wal journal number
    ⊎ ((size : ℕ) × (d : Database) × ShowsAsked flags m size db wal journal d × (e : JudgeError) × (number ≡ judge_status e) × IsUnjudgedWith (maps_of flags) d e)
