-- Comments of a script that name the pages that have a fault (own).
use Rattle.std.specs.Prelude.{◌≡◌, ◌≢◌, ◌↔◌, ◌⊎◌, ℕ, ◌<◌, true, List, [], ◌∷◌, ◌++◌, codes, length, Option, Some}
use Rattle.std.specs.Io.KnownBytes.{Appends}
use Rattle.std.specs.List.{AllPairs, Contains, flat_map}
use Rattle.std.specs.List.Sorted.{IsNonDecreasingBy, IsPermutation}
use Rattle.sqval.specs.Database.{Database}
use Rattle.sqpage.specs.Freelist.{IsWithin}
use Rattle.sqpage.specs.declared.fault.CheckError.{CheckError}
use Rattle.sqpage.specs.declared.fault.Fault.TheVariants.{NoMemory}
use Rattle.sqcheck.specs.Surveys.{FindsCleanWith, FindsDamagedWith, SurveyRefusedWith}
use Rattle.sqcheck.specs.declared.survey.Survey.{Survey}
use Rattle.cli_words.specs.declared.requests.Style.TheVariants.{Lines}
use Rattle.cli_text.specs.Verdicts.{fault_text}
use Rattle.cli_facts.specs.Faults.{IsFirstFault}

-- These are the faults that a survey of the database names, pointer maps and all; or the one for which there is no survey.
abbrev pub AreSurveyed : Database → (size : ℕ) → (faults : List CheckError) → Type 0
AreSurveyed d size faults =
    ((survey : Survey) × FindsCleanWith true d size survey × FindsDamagedWith true d size survey × IsPermutation survey.faults.items faults)
    ⊎ ((e : CheckError) × (e.fault ≢ NoMemory) × SurveyRefusedWith true d size e.fault e.page × (faults ≡ e ∷ []))

-- The same in the order of their pages.
pub record AreFaultsOf (d : Database) (size : ℕ) (faults : List CheckError) : Type 0 where
  pub surveyed : AreSurveyed d size faults
  pub ordered : IsNonDecreasingBy (λ (e : CheckError). e.page) faults

-- These are the first faults of those of the pages from 1 to n that have one, by page.
pub record AreFirsts (n : ℕ) (faults firsts : List CheckError) : Type 0 where
  pub each : (e : CheckError) → Contains firsts e ↔ (IsWithin n e.page × IsFirstFault faults e.page (Some e.fault))
  pub rising : AllPairs (λ (x y : CheckError). x.page < y.page) firsts

-- the line of a fault that `check` prints, as a comment
abbrev pub fault_line : CheckError → List ℕ
fault_line e = codes "-- " ++ fault_text Lines e

-- A comment was written for each of these pages that has a fault: its first one.
abbrev pub AreFirstsWritten : (n : ℕ) → (faults : List CheckError) → (before after : Option (List ℕ)) → Type 0
AreFirstsWritten n faults before after = (firsts : List CheckError) × AreFirsts n faults firsts × Appends before after (flat_map fault_line firsts)

-- The same of all pages of a database.
abbrev pub AreFaultsWritten : Database → (size : ℕ) → (before after : Option (List ℕ)) → Type 0
AreFaultsWritten d size before after = (faults : List CheckError) × AreFaultsOf d size faults × AreFirstsWritten (length d) faults before after
