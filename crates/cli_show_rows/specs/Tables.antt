-- The rows of a table as they are printed (own).
use Rattle.std.specs.Prelude.{◌≡◌, ◌≢◌, ◌⊎◌, ℕ, Bool, true, false, List, [], map, codes, Option, Some, None, is_some, nat_eq, length}
use Rattle.std.specs.List.{list_any}
use Rattle.std.specs.Io.KnownBytes.{Appends}
use Rattle.std.specs.Str.{str_eq_ignore_ascii_case}
use Rattle.sqval.specs.Database.{Database}
use Rattle.sqtables.specs.declared.columns.Columns.{Columns}
use Rattle.sqtables.specs.declared.list.Object.{Object}
use Rattle.cli_row_text.specs.declared.form.Form.{Form}
use Rattle.cli_row_text.specs.declared.form.Notation.{Notation}
use Rattle.cli_row_text.specs.declared.form.Notation.TheVariants.{Json, Csv, Sql}
use Rattle.cli_row_text.specs.Headings.{heading_text}
use Rattle.cli_row_text.specs.Inserts.{insert_text}
use Rattle.cli_row_text.specs.Printed.{IsPrinted}
use Rattle.cli_schema_text.specs.Names.{can_be_named, column_names}
use Rattle.cli_show_rows.specs.Schemas.{AreColumnsIn}

-- some column has this name, where ASCII's small letters are its capitals
abbrev pub has_column : Columns → (name : List ℕ) → Bool
has_column columns name = list_any (λ column. str_eq_ignore_ascii_case column.items name) columns.names.items

-- the table has rowids, and so no places of its columns
abbrev pub has_rowids : Columns → Bool
has_rowids columns = nat_eq (length columns.places.items) 0

-- A name of the rowid that no column has, in a table that has rowids, and no column is another name for it (lang_createtable,
-- "ROWIDs and the INTEGER PRIMARY KEY").
pub record IsRowidName (columns : Columns) (name : List ℕ) : Type 0 where
  pub rowids : has_rowids columns ≡ true
  pub unaliased : columns.alias ≡ None
  pub is : (name ≡ codes "rowid") ⊎ (name ≡ codes "_rowid_") ⊎ (name ≡ codes "oid")
  pub free : has_column columns name ≡ false

-- what stands before the values of a row
abbrev pub IsInsert : Notation → Object → Columns → (rowid : Option (List ℕ)) → List ℕ → Type 0
IsInsert Json table columns rowid insert = insert ≡ []
IsInsert Csv table columns rowid insert = insert ≡ []
IsInsert Sql table columns rowid insert = insert ≡ insert_text table.name.items rowid (column_names columns.names.items)

-- whether a table of this name can be written: in SQL by a name that a statement can have
abbrev pub is_named_in : Notation → (name : List ℕ) → Bool
is_named_in Json name = true
is_named_in Csv name = true
is_named_in Sql name = can_be_named name

-- there is no rowid, or no name of it will do
abbrev pub NoRowidName : Columns → Type 0
NoRowidName columns = (has_rowids columns ≡ false)
    ⊎ (columns.alias ≢ None)
    ⊎ ((has_column columns (codes "rowid") ≡ true) × (has_column columns (codes "_rowid_") ≡ true) × (has_column columns (codes "oid") ≡ true))

abbrev pub IsNameFor : Columns → (rowid : Option (List ℕ)) → Type 0
IsNameFor columns (Some name) = IsRowidName columns name
IsNameFor columns None = NoRowidName columns

-- no column is known
abbrev pub are_unnamed : Columns → Bool
are_unnamed columns = nat_eq (length columns.names.items) 0

-- The rowid stands before the values: in SQL where it has a name, else where no column is known.
abbrev pub leads_in : Notation → Columns → (rowid : Option (List ℕ)) → Bool
leads_in Json columns rowid = are_unnamed columns
leads_in Csv columns rowid = are_unnamed columns
leads_in Sql columns rowid = is_some rowid

-- The lines of the rows of a table were written, each once and in order: under the names that its text gives to its columns,
-- with its rowids, the values and the defaults of the columns.
pub record IsTablePrinted (d : Database) (table : Object) (form : Form) (before after : Option (List ℕ)) : Type 0 where
  pub nameable : is_named_in form.notation table.name.items ≡ true
  pub columns : Columns
  pub known : AreColumnsIn form.encoding table.sql.items columns
  pub rowid : Option (List ℕ)
  pub named : IsNameFor columns rowid
  pub insert : List ℕ
  pub begins : IsInsert form.notation table columns rowid insert
  pub text : List ℕ
  pub lines : IsPrinted d table.root form insert columns (leads_in form.notation columns rowid) text
  pub appended : Appends before after text

-- The heading of a table was written, and behind it the lines of its rows.
pub record IsHeadedPrinted (d : Database) (table : Object) (form : Form) (before after : Option (List ℕ)) : Type 0 where
  pub columns : Columns
  pub known : AreColumnsIn form.encoding table.sql.items columns
  pub between : Option (List ℕ)
  pub heading : Appends before between (heading_text form.notation table.name.items (map (λ n. n.items) columns.names.items))
  pub printed : IsTablePrinted d table form between after
