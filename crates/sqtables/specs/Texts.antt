-- The column of a table that is another name for its rowid (lang_createtable, "ROWIDs and the INTEGER PRIMARY KEY").
use Rattle.std.specs.Prelude.{◌≡◌, ℕ, ◌<◌, ◌&&◌, Bool, true, false, List, [], ◌∷◌, length, slice_get, Option, Some, None, codes}
use Rattle.std.specs.Str.{str_eq_ignore_ascii_case}
use Rattle.sqlite_ast.specs.declared.Keyed.{Keyed}
use Rattle.sqlite_ast.specs.declared.Rule.{Rule}
use Rattle.sqlite_ast.specs.declared.Rule.TheVariants.{PrimaryKey, CountedKey}
use Rattle.sqlite_ast.specs.declared.TableBody.{TableBody}

-- the lone column of a primary key
abbrev pub lone_key : Rule → Option Keyed
lone_key (PrimaryKey (key ∷ [])) = Some key
lone_key (CountedKey (key ∷ [])) = Some key
lone_key _ = None

abbrev pub key_by : Option Rule → Option Keyed
key_by (Some rule) = lone_key rule
key_by None = None

-- the column has this name, and its type is INTEGER
abbrev pub is_key_column : Option (List ℕ × List ℕ) → (name : List ℕ) → Bool
is_key_column (Some column) name = str_eq_ignore_ascii_case column.0 name && str_eq_ignore_ascii_case column.1 (codes "integer")
is_key_column None name = false

-- Rule k makes column i the primary key by itself, and its type is INTEGER: then it is another name for the rowid
-- (lang_createtable, "ROWIDs and the INTEGER PRIMARY KEY"). `PRIMARY KEY DESC` behind the type is no such rule.
pub record IsAliasBy (body : TableBody) (k i : ℕ) : Type 0 where
  pub key : Keyed
  pub ruled : k < length body.rules
  pub within : i < length body.columns
  pub keyed : key_by (slice_get body.rules k) ≡ Some key
  pub named : is_key_column (slice_get body.columns i) key.name ≡ true

-- Column i is another name for the rowid.
abbrev pub IsAlias : TableBody → (i : ℕ) → Type 0
IsAlias body i = (k : ℕ) × IsAliasBy body k i
