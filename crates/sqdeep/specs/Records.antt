-- Payloads as records (fileformat2, 2.1).
use Rattle.std.specs.Prelude.{◌<◌, ◌≤◌, ◌+◌, ℕ, List, IsSome}
use Rattle.sqval.specs.Bytes.{word}
use Rattle.sqval.specs.Database.{Database, page}
use Rattle.sqval.specs.Datum.{Datum, text}
use Rattle.sqval.specs.Record.{IsRecord, most_bytes}
use Rattle.sqpage.specs.declared.cell.Cell.{Cell}
use Rattle.sqpage.specs.Lists.{Every}
use Rattle.sqpage.specs.Chain.{payload_size, IsPayload}
use Rattle.sqdeep.specs.declared.fault.InnerFault.{InnerFault}
use Rattle.sqdeep.specs.declared.fault.InnerFault.TheVariants.{ShortCell, TooLong, NotRecord}
use Rattle.sqdeep.specs.declared.text.Encoding.{Encoding}
use Rattle.sqdeep.specs.Texts.{encoding_named, IsTextIn}

-- the encoding of a database's texts
abbrev pub encoding_of : Database → Encoding
encoding_of d = encoding_named (word (page d 1) 56)

-- where the value is a text, it is one in this encoding
abbrev pub IsFormed : Encoding → Datum → Type 0
IsFormed encoding (text bytes) = IsTextIn encoding bytes
IsFormed encoding _ = Unit {0}

-- The cell has a payload within the limit, which is a record.
pub record HasRecord (d : Database) (cell : Cell) : Type 0 where
  pub short : payload_size cell ≤ most_bytes
  pub bytes : List ℕ
  pub payload : IsPayload d cell bytes
  pub values : List Datum
  pub read : IsRecord values bytes

-- A cell of a tree takes four bytes of its page (fileformat2, 1.6), and its payload, where cells of its kind have one, is
-- a record.
pub record IsSoundCell (d : Database) (cell : Cell) : Type 0 where
  pub room : cell.at + 4 ≤ cell.usable
  pub holds : IsSome cell.payload → HasRecord d cell

-- What is wrong with a cell.
abbrev pub CellRefused : Database → Cell → InnerFault → Type 0
CellRefused d cell ShortCell = cell.usable < cell.at + 4
CellRefused d cell TooLong = IsSome cell.payload × (most_bytes < payload_size cell)
CellRefused d cell NotRecord = IsSome cell.payload × (bytes : List ℕ) × IsPayload d cell bytes × ((values : List Datum) → ¬ IsRecord values bytes)
CellRefused d cell _ = ⊥

-- A text of the cell's record isn't one in the encoding.
pub record IsIllFormed (encoding : Encoding) (d : Database) (cell : Cell) : Type 0 where
  pub some : IsSome cell.payload
  pub bytes : List ℕ
  pub payload : IsPayload d cell bytes
  pub values : List Datum
  pub read : IsRecord values bytes
  pub unformed : ¬ Every (IsFormed encoding) values
