-- The view at a commit with all its pages (own).
use Rattle.std.specs.Prelude.{ℕ, List, Option, Result, Ok, Err}
use Rattle.sqval.specs.Limits.{Bounds}
use Rattle.sqview.specs.LogView.{pages_of}
use Rattle.sqview.specs.declared.view.View.{View as Shown}
use Rattle.sqpast.specs.declared.past_error.PastError.{PastError}
use Rattle.cli_history.specs.History.{RefusesAt, ShowsWholeAt}
use Rattle.cli_history.specs.declared.files.Files.{Files}

-- it shows the whole database there, or this is why there is none
abbrev pub AnswersWholeAt : {F : Type 0} → (limits : Bounds) → (bytes : F → List ℕ) → Files (List ℕ) → (front : Option ℕ) → (frame : ℕ)
    → Result (Shown F) PastError → Type 0
AnswersWholeAt limits bytes files front frame (Ok view) = ShowsWholeAt files front frame view.page_size (pages_of bytes view)
AnswersWholeAt limits bytes files front frame (Err error) = RefusesAt limits files front frame error
