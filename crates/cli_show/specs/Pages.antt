-- What is shown of the pages of a database.
use Rattle.std.specs.Prelude.{◌≡◌, ℕ, Bool, length, Result, Ok, Err}
use Rattle.std.specs.List.Sorted.{IsNonDecreasingBy}
use Rattle.sqval.specs.Database.{Database}
use Rattle.sqpage.specs.declared.fault.CheckError.{CheckError}
use Rattle.sqpage.specs.declared.fault.Fault.TheVariants as faults
use Rattle.sqcheck.specs.Stands.{StandsWith}
use Rattle.sqcheck.specs.Surveys.{FindsCleanWith, FindsDamagedWith, SurveyRefusedWith}
use Rattle.sqcheck.specs.declared.survey.Survey.{Survey}
use Rattle.cli_facts.specs.declared.outcome.Refusal.{Refusal}
use Rattle.cli_facts.specs.declared.outcome.Refusal.TheVariants.{AutoVacuum, NoMemory}

-- A survey of these pages, of which each has one role, or the fault for which they can't be walked over; `maps`: pointer
-- maps are judged, as `check_with` does.
abbrev pub IsSurveyed : (maps : Bool) → Database → (size : ℕ) → Result Survey CheckError → Type 0
IsSurveyed maps d size (Ok survey) = FindsCleanWith maps d size survey × FindsDamagedWith maps d size survey × (length survey.roles.items ≡ length d)
IsSurveyed maps d size (Err e) = SurveyRefusedWith maps d size e.fault e.page

-- its faults are in the order of their pages
abbrev pub IsOrdered : Survey → Type 0
IsOrdered survey = IsNonDecreasingBy (λ (e : CheckError). e.page) survey.faults.items

-- Why there is no survey of pages that are given: the database has pointer maps, or memory ran out.
abbrev pub IsUnsurveyed : (maps : Bool) → Database → (size : ℕ) → Refusal → Type 0
IsUnsurveyed maps d size AutoVacuum = (p : ℕ) × StandsWith maps d size faults.AutoVacuum p
IsUnsurveyed maps d size NoMemory = Unit {0}
IsUnsurveyed maps d size _ = ⊥
