-- How many cells have been counted that have a text that isn't one in the encoding (own). No public contract cites these words.
use Rattle.std.specs.Prelude.{◌≡◌, ◌⊎◌, ◌↔◌, ◌<◌, ℕ, Bool, true, false, List, length, IsSome}
use Rattle.sqval.specs.Database.{Database}
use Rattle.sqpage.specs.declared.cell.Cell.{Cell}
use Rattle.sqpage.specs.Chain.{IsPayload}
use Rattle.sqpage.specs.Lists.{In, Apart}
use Rattle.sqdeep.specs.declared.text.Encoding.{Encoding}
use Rattle.sqdeep.specs.Records.{IsIllFormed}
use Rattle.sqdeep.specs.Forms.{CellPlace, cell_place, IsIllFormedAt}
use Rattle.sqdeep.specs.internal.Judging.{IsFormedRecord}

-- The cell has a payload, which is a record whose texts are formed.
pub record HasFormed (encoding : Encoding) (d : Database) (cell : Cell) : Type 0 where
  pub bytes : List ℕ
  pub payload : IsPayload d cell bytes
  pub formed : IsFormedRecord encoding bytes

-- A text of it isn't, or it has no payload or such a one.
abbrev pub HasCellForm : (is_ill : Bool) → Encoding → Database → Cell → Type 0
HasCellForm true encoding d cell = IsIllFormed encoding d cell
HasCellForm false encoding d cell = IsSome cell.payload → HasFormed encoding d cell

-- cell j of page q comes before cell i of page p
abbrev pub IsBefore : (q j p i : ℕ) → Type 0
IsBefore q j p i = (q < p) ⊎ ((q ≡ p) × (j < i))

-- so many of the cells before that one have a text that isn't one in the database's encoding
pub record HasIllFormed (d : Database) (p i n : ℕ) : Type 0 where
  pub places : List CellPlace
  pub once : Apart places
  pub are : (q j : ℕ) → In (cell_place q j) places ↔ (IsBefore q j p i × IsIllFormedAt d q j)
  pub many : length places ≡ n
