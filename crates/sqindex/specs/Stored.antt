-- What the cells of a tree store (fileformat2, 1.6 and 1.7).
use Rattle.std.specs.Prelude.{◌≡◌, ℕ, List, Option, ℤ}
use Rattle.std.specs.List.{AllZip}
use Rattle.sqval.specs.Database.{Database}
use Rattle.sqrows.specs.Rows.{IsPayloadIn}
use Rattle.sqrows.specs.Trees.{Entry, IsTree}

-- What is stored in a cell: its page and its index there, in a table its rowid, and the bytes of its payload.
pub record Stored : Type 0 where
  pub page : ℕ
  pub cell : ℕ
  pub rowid : Option ℤ
  pub bytes : List ℕ

-- The cell stores this.
pub record IsStoredIn (d : Database) (e : Entry) (x : Stored) : Type 0 where
  pub page : x.page ≡ e.page
  pub cell : x.cell ≡ e.index
  pub rowid : x.rowid ≡ e.rowid
  pub payload : IsPayloadIn d e x.bytes

-- The cells of the tree of a root store these, in order.
abbrev pub HasStored : Database → (root : ℕ) → List Stored → Type 0
HasStored d root all = (xs : List Entry) × IsTree d root xs × AllZip (IsStoredIn d) xs all
