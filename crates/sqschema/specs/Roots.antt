-- The roots that a schema names, and the trees there (fileformat2, 1.6 and 2.6).
use Rattle.std.specs.Prelude.{◌≡◌, ◌≢◌, ◌⊎◌, ◌≤◌, ℕ, Bool, true, false, not, List, length, Option, Some, None, pos}
use Rattle.sqval.specs.Database.{Database, page}
use Rattle.sqpage.specs.declared.kind.Kind.{Kind}
use Rattle.sqpage.specs.Freelist.{IsPage}
use Rattle.sqpage.specs.Header.{byte}
use Rattle.sqpage.specs.Page.{code_of, head_at, is_table as is_of_table}
use Rattle.schema_ast.specs.Tables.{MakesTable}
use Rattle.schema_ast.specs.declared.tables.MadeTable.{MadeTable}
use Rattle.sqschema.specs.Items.{Item}
use Rattle.sqschema.specs.Rules.{is_table, is_index}

-- the longest text that is read as one of a table (own)
abbrev pub most_text : ℕ
most_text = 1048576

-- The text is understood as this table.
abbrev pub IsUnderstood : Option (List ℕ) → MadeTable → Type 0
IsUnderstood (Some sql) made = (length sql ≤ most_text) × MakesTable sql made
IsUnderstood None made = ⊥

-- page r begins a tree of a table, or one of an index
pub record IsRootOf (d : Database) (table : Bool) (r : ℕ) : Type 0 where
  pub named : IsPage d r
  pub kind : Kind
  pub typed : byte (page d r) (head_at r) ≡ code_of kind
  pub is : is_of_table kind ≡ table

-- The tree of an index is one of an index, as is that of a table WITHOUT ROWID, and that of any other table is one of a table.
pub record IsTreeFor (x : Item) (table : Bool) : Type 0 where
  pub index : is_index x ≡ true → table ≡ false
  pub understood : (made : MadeTable) → is_table x ≡ true → IsUnderstood x.sql made → table ≡ not made.without_rowid

-- An item has no tree, or one of its kind.
abbrev pub HasTree : Database → Item → Type 0
HasTree d x = (x.root ≡ pos 0) ⊎ ((r : ℕ) × (table : Bool) × (x.root ≡ pos r) × IsRootOf d table r × IsTreeFor x table)

-- A table with a tree whose text isn't understood, so that its tree may be of either kind.
pub record IsAside (x : Item) : Type 0 where
  pub table : is_table x ≡ true
  pub rooted : x.root ≢ pos 0
  pub unread : (made : MadeTable) → ¬ IsUnderstood x.sql made
