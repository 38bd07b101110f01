-- Faults of a database's pages (own).
use Rattle.std.specs.Prelude.{◌≡◌, ℕ, ◌<◌, ◌≤◌, List, slice_get, Some}
use Rattle.sqpage.specs.declared.fault.CheckError.{CheckError}

-- before this place are the faults of lower pages
pub record IsPlaceOf (faults : List CheckError) (page place : ℕ) : Type 0 where
  pub before : (j : ℕ) (e : CheckError) → j < place → slice_get faults j ≡ Some e → e.page < page
  pub behind : (j : ℕ) (e : CheckError) → place ≤ j → slice_get faults j ≡ Some e → page ≤ e.page
