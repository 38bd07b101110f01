-- Where the rows of a table WITHOUT ROWID store its columns (fileformat2, 2.4: the primary key's first, then the others).
use Rattle.std.specs.Prelude.{◌≡◌, ◌≤◌, ◌<◌, ℕ, suc, if◌then◌else◌, is_some, List, [], ◌∷◌, length, slice_get, position, Option, Some, None, unwrap_or, option_map, option_and_then}
use Rattle.std.specs.Str.{str_eq_ignore_ascii_case}
use Rattle.sqlite_ast.specs.declared.Keyed.{Keyed}
use Rattle.sqlite_ast.specs.declared.Rule.{Rule}
use Rattle.sqlite_ast.specs.declared.Rule.TheVariants.{PrimaryKey, DescendingKey}
use Rattle.sqlite_ast.specs.declared.TableBody.{TableBody}
use Rattle.sqdefaults.specs.Defaults.{last_said}

-- the columns of the primary key that a rule states
abbrev pub primary_in : Rule → Option (List Keyed)
primary_in (PrimaryKey named) = Some named
primary_in (DescendingKey named) = Some named
primary_in _ = None

-- the first column of a key that has this name, where ASCII's small letters are its capitals
abbrev pub place_in_key : List Keyed → (name : List ℕ) → Option ℕ
place_in_key keys name = position (λ key. str_eq_ignore_ascii_case key.name name) keys

-- the same of the name at a place of the key
abbrev pub own_place : List Keyed → (i : ℕ) → Option ℕ
own_place keys i = option_and_then (λ key. place_in_key keys key.name) (slice_get keys i)

-- the most columns of a key that is understood (own)
abbrev pub most_keyed : ℕ
most_keyed = 1000

-- No column stands twice in a key.
pub record IsPlainKey (keys : List Keyed) : Type 0 where
  pub few : length keys ≤ most_keyed
  pub apart : (i : ℕ) → i < length keys → own_place keys i ≡ Some i

-- The table has this primary key, in which no column stands twice.
pub record HasPlainKey (body : TableBody) (keys : List Keyed) : Type 0 where
  pub stated : last_said primary_in body.rules ≡ Some keys
  pub plain : IsPlainKey keys

-- Where rows store these columns: those of the key in its order, then the others, of which the first is at `next`.
abbrev pub places_of : List Keyed → (next : ℕ) → List (List ℕ × List ℕ) → List ℕ
places_of keys next [] = []
places_of keys next (column ∷ columns) =
    unwrap_or (place_in_key keys column.0) next ∷ places_of keys (if is_some (place_in_key keys column.0) then next else suc next) columns
