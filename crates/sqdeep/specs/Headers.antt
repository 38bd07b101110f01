-- The numbers of a database's header that a reader goes by (fileformat2, 1.3.3, 1.3.10 and 1.3.13).
use Rattle.std.specs.Prelude.{◌≡◌, ◌⊎◌, ◌≤◌, ℕ}
use Rattle.sqval.specs.Bytes.{word}
use Rattle.sqval.specs.Database.{Database, page}
use Rattle.sqpage.specs.declared.kind.Kind.TheVariants.{TableLeaf}
use Rattle.sqpage.specs.Header.{byte}
use Rattle.sqpage.specs.Page.{cell_count_in}
use Rattle.sqcheck.specs.Places.{HasKind, used_in}
use Rattle.sqdeep.specs.declared.fault.InnerFault.{InnerFault}
use Rattle.sqdeep.specs.declared.fault.InnerFault.TheVariants.{Version, SchemaFormat, TextEncoding}

-- a number from 1 to this one
abbrev pub IsUpTo : (most n : ℕ) → Type 0
IsUpTo most n = (1 ≤ n) × (n ≤ most)

-- the schema has no row
abbrev pub IsBare : Database → Type 0
IsBare d = HasKind d TableLeaf 1 × (cell_count_in (used_in d 1) 1 ≡ 0)

-- the same, or 0 where the schema has no row
abbrev pub IsUpToOrBare : Database → (most n : ℕ) → Type 0
IsUpToOrBare d most n = IsUpTo most n ⊎ ((n ≡ 0) × IsBare d)

-- The versions are those of a rollback journal or of a write-ahead log, the format of the schema and the encoding of
-- texts are ones that there are.
pub record HasKnownNumbers (d : Database) : Type 0 where
  pub write : IsUpTo 2 (byte (page d 1) 18)
  pub read : IsUpTo 2 (byte (page d 1) 19)
  pub format : IsUpToOrBare d 4 (word (page d 1) 44)
  pub encoding : IsUpToOrBare d 3 (word (page d 1) 56)

-- What is wrong with them.
abbrev pub HeaderRefused : Database → InnerFault → Type 0
HeaderRefused d Version = (¬ IsUpTo 2 (byte (page d 1) 18)) ⊎ (¬ IsUpTo 2 (byte (page d 1) 19))
HeaderRefused d SchemaFormat = ¬ IsUpToOrBare d 4 (word (page d 1) 44)
HeaderRefused d TextEncoding = ¬ IsUpToOrBare d 3 (word (page d 1) 56)
HeaderRefused d _ = ⊥
