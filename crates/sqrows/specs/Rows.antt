-- The rows of a tree (fileformat2, 1.6 and 2.1).
use Rattle.std.specs.Prelude.{◌≡◌, ℕ, List, [], ◌∷◌, Option, ℤ}
use Rattle.sqval.specs.Database.{Database}
use Rattle.sqval.specs.Datum.{Datum}
use Rattle.sqval.specs.Record.{IsRecord}
use Rattle.sqpage.specs.declared.cell.Cell.{Cell}
use Rattle.sqpage.specs.Chain.{IsPayload}
use Rattle.sqrows.specs.Trees.{Entry, entry_of, IsTree}

-- The values of the columns as they are stored, and in a table the rowid. An index has none, nor has a table WITHOUT ROWID.
pub record Row : Type 0 where
  pub rowid : Option ℤ
  pub values : List Datum

-- These bytes are the payload of a cell that is this entry.
pub record IsPayloadIn (d : Database) (e : Entry) (bytes : List ℕ) : Type 0 where
  pub cell : Cell
  pub is : entry_of e.index cell ≡ e
  pub payload : IsPayload d cell bytes

-- The row in a cell: the cell's rowid, and the values of the record that its payload is.
pub record IsRowIn (d : Database) (e : Entry) (row : Row) : Type 0 where
  pub bytes : List ℕ
  pub payload : IsPayloadIn d e bytes
  pub read : IsRecord row.values bytes
  pub rowid : e.rowid ≡ row.rowid

-- A row for each of these cells, in their order.
abbrev pub AreRows : Database → List Entry → List Row → Type 0
AreRows d [] rows = rows ≡ []
AreRows d (e ∷ xs) rows = (row : Row) × (more : List Row) × IsRowIn d e row × AreRows d xs more × (rows ≡ row ∷ more)

-- The rows of the tree of a root, in order.
abbrev pub HasRows : Database → (root : ℕ) → List Row → Type 0
HasRows d root rows = (xs : List Entry) × IsTree d root xs × AreRows d xs rows
