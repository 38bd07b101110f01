-- The cells that a cursor gave to its end.
use Rattle.std.specs.Prelude.{List}
use Rattle.sqpage.specs.Lists.{Every}
use Rattle.sqdeleted.specs.DeletedCursor.{AreLeft}
use Rattle.sqdeleted.specs.declared.cell.DeletedCell.{DeletedCell}
use Rattle.sqdeleted.specs.declared.cursor.DeletedCells.{DeletedCells}
use Rattle.cli_show_deleted.specs.Cells.{IsCellIn, places_of}

-- They are those that were left, each as it stands in the page.
abbrev pub AreTold : DeletedCells → List DeletedCell → Type 0
AreTold s told = AreLeft s (places_of told) × Every (IsCellIn s.used.now s.number) told
