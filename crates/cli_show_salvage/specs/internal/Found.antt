-- What was found in a cell (own). No public contract cites these words.
use Rattle.std.specs.Prelude.{ℕ}
use Rattle.sqval.specs.Database.{Database}
use Rattle.sqpage.specs.declared.cell.Cell.{Cell}
use Rattle.sqpage.specs.Chain.{IsPayload}
use Rattle.sqrows.specs.Trees.{entry_of}
use Rattle.sqrows.specs.Rows.{IsRowIn}
use Rattle.cli_show_salvage.specs.declared.found.Found.{Found}
use Rattle.cli_show_salvage.specs.declared.found.Found.TheVariants.{Cut, Strange, Row}
use Rattle.cli_show_salvage.specs.Cells.{HasNoPayload, IsStrange}

abbrev pub IsFound : Database → Cell → Found → Type 0
IsFound d cell Cut = HasNoPayload d cell
IsFound d cell (Strange bytes) = IsStrange d cell bytes.now
IsFound d cell (Row row bytes) =
    IsPayload d cell bytes.now × ((index : ℕ) → IsRowIn d (entry_of index cell) (record { rowid = row.rowid; values = row.values }))
