-- Sources of pages (own).
use Rattle.std.specs.Prelude.{◌≡◌, ◌≢◌, ℕ}
use Rattle.sqval.specs.Database.{Database}
use Rattle.sqpage.specs.declared.fault.Fault.{Fault}
use Rattle.sqpage.specs.declared.fault.Fault.TheVariants as faults

-- A source has the same pages of the same size as before, and reads them right and gives them still.
pub record KeepsPages {A : Type 0} (pages : A → Database) (size : A → ℕ) (right gives : A → Type 0) (old new : A) : Type 0 where
  pub still_right : right old → right new
  pub still_gives : gives old → gives new
  pub same_pages : pages new ≡ pages old
  pub same_size : size new ≡ size old

-- Where the fault is that a page couldn't be read, the source isn't one that gives each page. Any other fault has this cause.
abbrev pub UnlessUnread : (gives : Type 0) → Fault → (cause : Type 0) → Type 0
UnlessUnread gives fault cause = (fault ≡ faults.Source → ¬ gives) × (fault ≢ faults.Source → cause)
