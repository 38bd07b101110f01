-- How many cells of a database have a text that isn't one in its encoding (own; fileformat2, 1.3.13: SQLite stores such texts).
use Rattle.std.specs.Prelude.{◌≡◌, ◌↔◌, ℕ, List, length}
use Rattle.sqval.specs.Database.{Database}
use Rattle.sqpage.specs.declared.cell.Cell.{Cell}
use Rattle.sqpage.specs.declared.kind.Kind.{Kind}
use Rattle.sqpage.specs.Lists.{In, Apart}
use Rattle.sqcheck.specs.Places.{page_as, IsCellAt}
use Rattle.sqdeep.specs.Records.{encoding_of, IsIllFormed}
use Rattle.sqdeep.specs.Inside.{IsOfTree}

-- cell i of page p
pub record CellPlace : Type 0 where
  pub page : ℕ
  pub cell : ℕ

abbrev pub cell_place : (p i : ℕ) → CellPlace
cell_place p i = record { page = p; cell = i }

-- Cell i of page p, which is one of a tree, has a text that isn't one in the database's encoding.
abbrev pub IsIllFormedAt : Database → (p i : ℕ) → Type 0
IsIllFormedAt d p i = (kind : Kind) × (root : ℕ) × (cell : Cell) × IsOfTree d kind root p × IsCellAt (page_as d kind p) i cell × IsIllFormed (encoding_of d) d cell

-- So many cells have: those at these places, each once, and no other.
pub record AreIllFormed (d : Database) (n : ℕ) : Type 0 where
  pub places : List CellPlace
  pub once : Apart places
  pub are : (p i : ℕ) → In (cell_place p i) places ↔ IsIllFormedAt d p i
  pub many : length places ≡ n
