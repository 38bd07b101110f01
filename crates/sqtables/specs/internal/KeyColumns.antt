-- The columns of a table WITHOUT ROWID, before its text is spoken of (own).
use Rattle.std.specs.Prelude.{◌⊎◌, List, length, None}
use Rattle.sqlite_ast.specs.declared.CreateTable.{CreateTable}
use Rattle.sqlite_ast.specs.declared.Keyed.{Keyed}
use Rattle.sqtables.specs.declared.columns.Columns.{Columns}
use Rattle.sqtables.specs.Keys.{HasPlainKey, places_of}
use Rattle.sqtables.specs.Named.{HasColumns, IsBare}

-- The columns are those of a table with this key, or its key isn't understood.
abbrev pub AreKeyed : CreateTable → Columns → Type 0
AreKeyed def columns =
    ((keys : List Keyed) × HasPlainKey def.body keys × HasColumns def None (places_of keys (length keys) def.body.columns) columns)
    ⊎ (((keys : List Keyed) → ¬ HasPlainKey def.body keys) × IsBare columns)
