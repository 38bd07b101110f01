-- Which columns rows must store so that each is known (SQLite's lang_altertable, "ALTER TABLE ADD COLUMN").
use Rattle.std.specs.Prelude.{◌≡◌, ◌⊎◌, ◌<◌, ℕ, suc, Bool, true, false, List, slice_get, Option, Some, None}
use Rattle.sqlite_ast.specs.declared.CreateTable.{CreateTable}
use Rattle.sqval.specs.Datum.{Datum}
use Rattle.sqdefaults.specs.declared.literal.Literal.{Literal}
use Rattle.sqdefaults.specs.Affinities.{affinity_in}
use Rattle.sqdefaults.specs.Defaults.{default_of}
use Rattle.sqtables.specs.Columns.{place_in}

-- What stands for a column of a table where it isn't stored, by its affinity. None where that isn't understood.
unfoldable pub default_for : CreateTable → (column : List ℕ × List ℕ) → Option Datum
default_for def column = default_of (affinity_in def.is_strict column.1) column.0 def.body.rules

-- a column's default isn't known
abbrev pub is_unknown : Option (Option Literal) → Bool
is_unknown (Some None) = true
is_unknown _ = false

-- So many columns rows must store: up to the last one whose default isn't known.
pub record IsNeeded (defaults : List (Option Literal)) (places : List ℕ) (needed : ℕ) : Type 0 where
  pub known : (j : ℕ) → is_unknown (slice_get defaults j) ≡ true → place_in places j < needed
  pub least : (needed ≡ 0) ⊎ ((j : ℕ) × (is_unknown (slice_get defaults j) ≡ true) × (needed ≡ suc (place_in places j)))
