-- The indexes that the constraints of a table make, which have no text: `sqlite_autoindex_TABLE_1` and so on (SQLite's
-- lang_createtable, "PRIMARY KEY" and "UNIQUE constraints"; fileformat2, 2.6).
use Rattle.std.specs.Prelude.{◌≡◌, ◌⊎◌, ◌<◌, ◌-◌, ℕ, ◌==◌, ◌&&◌, Bool, true, false, if◌then◌else◌, List, [], ◌∷◌, ◌++◌, fold, length, slice_get, Option, Some, None, unwrap_or}
use Rattle.std.specs.List.{list_any}
use Rattle.std.specs.Str.{str_eq_ignore_ascii_case}
use Rattle.sqlite_ast.specs.declared.CreateTable.{CreateTable}
use Rattle.sqlite_ast.specs.declared.Keyed.{Keyed}
use Rattle.sqlite_ast.specs.declared.Rule.{Rule}
use Rattle.sqlite_ast.specs.declared.Rule.TheVariants.{PrimaryKey, DescendingKey, CountedKey, Unique}
use Rattle.sqlite_ast.specs.declared.TableBody.{TableBody}
use Rattle.sqlite_value.specs.declared.keys.Collation.{Collation}
use Rattle.sqlite_value.specs.Keys.{collation_code}
use Rattle.sqtables.specs.Texts.{is_key_column}
use Rattle.sqkeys.specs.declared.key.IndexKey.{IndexKey}
use Rattle.sqkeys.specs.Columns.{collation_of}
use Rattle.sqkeys.specs.Keys.{MakesRowids, IsNoTable, IsKeyOver, HasNoKey}

-- A primary key over these columns is another name for the rowid: it is one column, whose type is written INTEGER.
abbrev pub is_rowid : TableBody → List Keyed → Bool
is_rowid body (keyed ∷ []) = list_any (λ column. is_key_column (Some column) keyed.name) body.columns
is_rowid body _ = false

-- The columns over which a rule makes an index, where it makes one.
abbrev pub constrained : TableBody → Rule → Option (List Keyed)
constrained body (Unique named) = Some named
constrained body (DescendingKey named) = Some named
constrained body (PrimaryKey named) = if is_rowid body named then None else Some named
constrained body (CountedKey named) = if is_rowid body named then None else Some named
constrained body _ = None

-- the collation of a column of a key
abbrev pub collation_for : TableBody → Keyed → Collation
collation_for body keyed = unwrap_or keyed.collation (collation_of body keyed.name)

-- both name a column, and sort it by the same collation
abbrev pub is_like : TableBody → (a b : Keyed) → Bool
is_like body a b = str_eq_ignore_ascii_case a.name b.name && (collation_code (collation_for body a) == collation_code (collation_for body b))

-- A constraint repeats another: both have these columns, in one order and by the same collations.
abbrev pub repeats : TableBody → (named others : List Keyed) → Bool
repeats body [] [] = true
repeats body (a ∷ named) (b ∷ others) = is_like body a b && repeats body named others
repeats body _ _ = false

-- one more constraint, unless it repeats one before it
abbrev pub with_columns : TableBody → List (List Keyed) → Option (List Keyed) → List (List Keyed)
with_columns body before (Some named) = if list_any (repeats body named) before then before else before ++ named ∷ []
with_columns body before None = before

-- The columns of the indexes that the constraints make, in the order of the text. One that repeats another makes none.
abbrev pub indexes_of : TableBody → List Rule → List (List Keyed)
indexes_of body rules = fold (λ before rule. with_columns body before (constrained body rule)) [] rules

-- These are the columns of the index of this number, from 1.
pub record IsNumbered (body : TableBody) (number : ℕ) (named : List Keyed) : Type 0 where
  pub counted : 0 < number
  pub nth : slice_get (indexes_of body body.rules) (number - 1) ≡ Some named

-- The index of this number that the constraints of the table make has this key.
pub record IsAutomaticKey (table : List ℕ) (number format : ℕ) (key : IndexKey) : Type 0 where
  pub made : CreateTable
  pub named : List Keyed
  pub tabled : MakesRowids table made
  pub numbered : IsNumbered made.body number named
  pub over : IsKeyOver made.body format named key
  pub unique : key.unique ≡ true

-- the most rules that are compared with each other (own)
abbrev pub most_rules : ℕ
most_rules = 1000

-- There is no index of this number among those that the constraints make, or there are more rules than are compared.
abbrev pub IsNoNumber : TableBody → (number : ℕ) → Type 0
IsNoNumber body number =
    (number ≡ 0) ⊎ ((most_rules < length body.rules) ⊎ (slice_get (indexes_of body body.rules) (number - 1) ≡ None))

-- Why the key of an automatic index isn't told: the text makes no table with rowids, or one that has no such index, or whose
-- columns have no key that is known.
abbrev pub HasNoAutomatic : (table : List ℕ) → (number format : ℕ) → Type 0
HasNoAutomatic table number format =
    IsNoTable table
    ⊎ ((made : CreateTable) × MakesRowids table made × (IsNoNumber made.body number
    ⊎ ((named : List Keyed) × IsNumbered made.body number named × HasNoKey made.body format named)))
