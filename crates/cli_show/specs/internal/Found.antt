-- What is found of files.
use Rattle.std.specs.Prelude.{◌≡◌, ℕ, Bool, List, Result, Ok, Err}
use Rattle.sqval.specs.Database.{Database}
use Rattle.sqpage.specs.Freelist.{IsPage}
use Rattle.sqview.specs.Laid.{laid}
use Rattle.sqview.specs.Shapes.{Shape, shape_of}
use Rattle.sqpast.specs.declared.past_error.PastError.{PastError}
use Rattle.sqpast.specs.declared.past_error.PastError.TheVariants.{Refused}
use Rattle.sqview.specs.declared.view_error.ViewError.TheVariants as views
use Rattle.cli_facts.specs.Refusals.{refusal_of_past}
use Rattle.cli_facts.specs.declared.outcome.Refusal.{Refusal}
use Rattle.cli_facts.specs.declared.outcome.Refusal.TheVariants.{NoSuchPage}
use Rattle.cli_show.specs.Pages.{IsSurveyed, IsOrdered, IsUnsurveyed}
use Rattle.cli_show.specs.declared.records.Records.{Records}
use Rattle.cli_show.specs.declared.surveys.Found.{Found}
use Rattle.cli_show.specs.declared.surveys.Found.TheVariants.{Pages, Nothing}

-- what is found where there is no view
abbrev pub found_without : {F : Type 0} → PastError → Result (Found F) Refusal
found_without (Refused (views.Header fault)) = Ok (Nothing (record { page = 1; fault = fault }))
found_without error = Err (refusal_of_past error)

-- the pages of what a view shows
abbrev pub pages_in : Shape → Database
pages_in shape = laid shape.page_size shape.count shape.db shape.log shape.places

-- a view that shows this, the survey of its pages, and these records; or the fault for which its pages can't be walked over
abbrev pub IsFoundIn : {F : Type 0} → (maps : Bool) → (bytes : F → List ℕ) → Shape → Records → Found F → Type 0
IsFoundIn maps bytes shape records (Pages found) = (shape_of bytes found.view ≡ shape) × IsSurveyed maps (pages_in shape) shape.page_size (Ok found.survey)
    × IsOrdered found.survey × (found.records ≡ records)
IsFoundIn maps bytes shape records (Nothing error) = IsSurveyed maps (pages_in shape) shape.page_size (Err error)

-- why nothing is found
abbrev pub IsUnfoundIn : (maps : Bool) → Shape → Refusal → Type 0
IsUnfoundIn maps shape NoSuchPage = ¬ IsPage (pages_in shape) 1
IsUnfoundIn maps shape refusal = IsUnsurveyed maps (pages_in shape) shape.page_size refusal
