-- What an entry begins and ends with (own). No public contract cites these words.
use Rattle.std.specs.Prelude.{◌≡◌, ◌<◌, ℕ, Some, ℤ, slice_get}
use Rattle.sqlite_value.specs.declared.value.Value.TheVariants.{Int}
use Rattle.sqlite_value.specs.Order.{Row}
use Rattle.sqindex.specs.declared.fields.Ends.{Ends}
use Rattle.sqindex.specs.Keys.{IsKeyed}

-- These are n columns and this rowid, and the first column is this integer, where it is known to be one.
pub record HasEnds (n : ℕ) (values : Row) (ends : Ends) : Type 0 where
  pub keyed : IsKeyed n ends.rowid values
  pub led : (first : ℤ) → ends.first ≡ Some first → (0 < n) × (slice_get values 0 ≡ Some (Int first))
