-- The tables that the schema names (fileformat2, 2.6).
use Rattle.std.specs.Prelude.{◌≡◌, ℕ, ◌<◌, ◌^◌, List, slice_get, Some, pos, codes}
use Rattle.sqval.specs.Datum.{Datum, integer, text}

-- A row of the schema table is that of a table of this name, this root and this text.
pub record IsTableRow (values : List Datum) (name : List ℕ) (root : ℕ) (sql : List ℕ) : Type 0 where
  pub type : slice_get values 0 ≡ Some (text (codes "table"))
  pub named : slice_get values 1 ≡ Some (text name)
  pub rooted : slice_get values 3 ≡ Some (integer (pos root))
  pub written : slice_get values 4 ≡ Some (text sql)
  pub above : 0 < root
  pub below : root < 2 ^ 32

-- A row of the schema table is that of an object of this type and this name, with this root, 0 for none, and this text.
pub record IsObjectRow (values : List Datum) (kind name : List ℕ) (root : ℕ) (sql : List ℕ) : Type 0 where
  pub typed : slice_get values 0 ≡ Some (text kind)
  pub named : slice_get values 1 ≡ Some (text name)
  pub rooted : slice_get values 3 ≡ Some (integer (pos root))
  pub written : slice_get values 4 ≡ Some (text sql)
  pub below : root < 2 ^ 32
