-- What is read of a text (own).
use Rattle.std.specs.Prelude.{◌≡◌, ◌⊎◌, ◌<◌, ℕ, true, false, List, length}
use Rattle.schema_ast.specs.Tables.{MakesTable}
use Rattle.schema_ast.specs.Indexes.{MakesIndex}
use Rattle.schema_ast.specs.declared.tables.MadeTable.{MadeTable}
use Rattle.schema_ast.specs.declared.indexes.MadeIndex.{MadeIndex}
use Rattle.sqkeys.specs.Keys.{most_text}

-- The text makes this table, whose VIRTUAL columns keep to no rule, and no other; or it is longer than what is read, or makes no
-- such table.
pub record IsOnlyTable (text : List ℕ) (made : MadeTable) : Type 0 where
  pub makes : MakesTable text made
  pub free : made.bound ≡ false
  pub only : (other : MadeTable) → MakesTable text other → made ≡ other

abbrev pub HasNoTable : List ℕ → Type 0
HasNoTable text = (most_text < length text) ⊎ ((made : MadeTable) → MakesTable text made → made.bound ≡ true)

-- the same of an index
pub record IsOnlyIndex (text : List ℕ) (made : MadeIndex) : Type 0 where
  pub makes : MakesIndex text made
  pub only : (other : MadeIndex) → MakesIndex text other → made ≡ other

abbrev pub HasNoIndex : List ℕ → Type 0
HasNoIndex text = (most_text < length text) ⊎ ((made : MadeIndex) → ¬ MakesIndex text made)
