-- The names of a database's trees (fileformat2, 2.6).
use Rattle.std.specs.Prelude.{◌≡◌, ◌≢◌, ◌⊎◌, ℕ, List, Option, None, Some, map, slice_get, string_bytes, codes}
use denote.Ref.{Bor}
use Rattle.sqcheck.specs.declared.role.Role.{Role}
use Rattle.sqcheck.specs.declared.role.Role.TheVariants.{Btree}
use Rattle.cli_show.specs.declared.names.Names.{Names}

-- the names that were found, each behind the root of its tree
abbrev pub names_of : Names → List (ℕ × List ℕ)
names_of names = map (λ x. (x.root, string_bytes x.name)) names.found.items

-- The name of the tree with this root: that of the schema's own tree at page 1, otherwise one that was found. None where none was.
abbrev pub IsTreeName : (names : List (ℕ × List ℕ)) → (root : ℕ) → Option (Bor (List ℕ)) → Type 0
IsTreeName names root (Some name) =
    ((root ≡ 1) × (name.now ≡ codes "sqlite_schema")) ⊎ ((root ≢ 1) × ((i : ℕ) × (slice_get names i ≡ Some (root, name.now))))
IsTreeName names root None = (root ≢ 1) × ((i : ℕ) (name : List ℕ) → slice_get names i ≢ Some (root, name))

-- the name of the tree that a page with this role is in, if it is in one
abbrev pub IsNameAt : (names : List (ℕ × List ℕ)) → Role → Option (Bor (List ℕ)) → Type 0
IsNameAt names (Btree kind root) name = IsTreeName names root name
IsNameAt names _ name = name ≡ None
