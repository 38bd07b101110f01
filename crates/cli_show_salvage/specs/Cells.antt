-- Cells of tables, and what is written of each (own).
use Rattle.std.specs.Prelude.{◌≡◌, ◌⊎◌, ℕ, ◌<◌, ◌≤◌, Bool, false, List, [], ◌∷◌, ◌++◌, codes, length, IfSome, Option}
use Rattle.std.specs.Io.KnownBytes.{Appends}
use Rattle.sqval.specs.Database.{Database}
use Rattle.sqval.specs.Datum.{Datum}
use Rattle.sqval.specs.Record.{most_bytes, Refused}
use Rattle.sqval.specs.declared.error.RecordError.{RecordError}
use Rattle.sqpage.specs.declared.cell.Cell.{Cell}
use Rattle.sqpage.specs.Chain.{payload_size, IsPayload}
use Rattle.sqpage.specs.Page.{Page}
use Rattle.sqcheck.specs.Places.{IsCellAt}
use Rattle.sqrows.specs.Trees.{entry_of}
use Rattle.sqrows.specs.Rows.{Row, IsRowIn}
use Rattle.sqtables.specs.declared.list.Object.{Object}
use Rattle.sqtables.specs.Objects.{IsObjectOf, IsNoObject}
use Rattle.sqdeep.specs.declared.text.Encoding.{Encoding}
use Rattle.cli_show_rows.specs.Schemas.{IsObjectRead}
use Rattle.cli_row_text.specs.declared.print.Style.{Style}
use Rattle.cli_row_text.specs.Printed.{IsRowLine}
use Rattle.cli_show_rows.specs.declared.stop.Stop.{Stop}
use Rattle.cli_show_rows.specs.declared.stop.Stop.TheVariants.{NoMemory, Write}
use Rattle.cli_show_salvage.specs.declared.book.Book.{Book}
use Rattle.cli_show_salvage.specs.declared.book.Target.{Target}
use Rattle.cli_show_salvage.specs.declared.book.Going.{Going}
use Rattle.cli_show_salvage.specs.declared.book.Going.TheVariants.{Schema, Table, Lost}
use Rattle.cli_show_salvage.specs.Books.{Adds, has_rowid}
use Rattle.cli_show_salvage.specs.Marks.{id_of, mark_text, outside_text, placed_text}
use Rattle.cli_show_salvage.specs.Lost.{IsLostRow}

-- Memory ran out, or the writer failed.
abbrev pub IsRunOut : Stop → Type 0
IsRunOut NoMemory = Unit {0}
IsRunOut (Write e) = Unit {0}
IsRunOut _ = ⊥

-- a cell has no payload: its chain is cut, or it says more than 1 GiB
abbrev pub HasNoPayload : Database → Cell → Type 0
HasNoPayload d cell = (most_bytes < payload_size cell) ⊎ ((bytes : List ℕ) → ¬ IsPayload d cell bytes)

-- these bytes are its payload, and no record
abbrev pub IsStrange : Database → Cell → List ℕ → Type 0
IsStrange d cell bytes = IsPayload d cell bytes × (error : RecordError) × Refused error bytes

-- A table takes a row: it stores as many columns as are needed, and no more than have names, and the table has no row of its
-- rowid, where it has one.
pub record Takes (style : Style) (cell : Cell) (row : Row) (book : Book) : Type 0 where
  pub needed : style.columns.now.needed ≤ length row.values
  pub named : length row.values ≤ length style.columns.now.names.items
  pub free : IfSome cell.rowid (λ id. has_rowid book id ≡ false)

-- the most values of a lost row: SQLite's tables have 2000 columns at most (SQLite's limits)
abbrev pub most_values : ℕ
most_values = 1996

-- The line of a cell, in the place of its row.
abbrev pub IsMarked : (i : ℕ) → Cell → (why bytes : List ℕ) → (old new : Book) → (before after : Option (List ℕ)) → Type 0
IsMarked i cell why bytes old new before after = (old ≡ new) × Appends before after (mark_text i cell why bytes)

-- A row was written that no table takes: into the table of lost rows, unless it has too many values for one.
abbrev pub IsLostTold : Target → (i : ℕ) → Cell → List ℕ → Row → (old new : Book) → (before after : Option (List ℕ)) → Type 0
IsLostTold target i cell bytes row old new before after =
    ((length row.values ≤ most_values) × (old.rowids ≡ new.rowids) × (old.objects ≡ new.objects)
    × (placed : Option (List ℕ)) × Appends before placed (placed_text target.places cell.page i)
    × IsLostRow target.encoding target.lost.now target.root cell row.values old.width new.width placed after)
    ⊎ ((most_values < length row.values) × IsMarked i cell (codes "too many values") bytes old new before after)

-- It was written as one of a table.
abbrev pub IsTableTold : (places : Bool) → Style → (i : ℕ) → Cell → Row → (old new : Book) → (before after : Option (List ℕ)) → Type 0
IsTableTold places style i cell row old new before after =
    Adds (id_of cell) old new × (placed : Option (List ℕ)) × (line : List ℕ) × Appends before placed (placed_text places cell.page i)
    × IsRowLine style.form style.insert.now style.columns.now style.leads row line × Appends placed after line

-- An object is that of a row, whose texts are stored in this encoding.
abbrev pub IsObjectIn : Encoding → List Datum → Object → Type 0
IsObjectIn encoding values o = (stored : Object) × IsObjectOf values stored × IsObjectRead encoding stored o

-- The object of a row of the schema was kept, and nothing was written; or it has none.
abbrev pub IsKept : Encoding → (i : ℕ) → Cell → List ℕ → Row → (old new : Book) → (before after : Option (List ℕ)) → Type 0
IsKept encoding i cell bytes row old new before after =
    ((o : Object) × IsObjectIn encoding row.values o × (new.objects.items ≡ old.objects.items ++ o ∷ []) × (old.rowids ≡ new.rowids)
    × (old.width ≡ new.width) × (before ≡ after))
    ⊎ (IsNoObject row.values × IsMarked i cell (codes "no statement") bytes old new before after)

-- What was written of a row that stands in a cell, and where it goes.
abbrev pub IsRowTold : Target → Going → (i : ℕ) → Cell → List ℕ → Row → (old new : Book) → (before after : Option (List ℕ)) → Type 0
IsRowTold target Schema i cell bytes row old new before after = IsKept target.encoding i cell bytes row old new before after
IsRowTold target (Table style) i cell bytes row old new before after =
    (Takes style cell row old × IsTableTold target.places style i cell row old new before after)
    ⊎ ((¬ Takes style cell row old) × IsLostTold target i cell bytes row old new before after)
IsRowTold target Lost i cell bytes row old new before after = IsLostTold target i cell bytes row old new before after

-- What was written of cell i of a page: the row that stands in it, or a line that names it.
pub data IsCellTold (d : Database) (target : Target) (b : Page) (i : ℕ) (old new : Book) (before after : Option (List ℕ)) : Type 0 where
  outside : ((cell : Cell) → ¬ IsCellAt b i cell) → old ≡ new → Appends before after (outside_text b.number i) → IsCellTold d target b i old new before after
  cut : (cell : Cell) → IsCellAt b i cell → HasNoPayload d cell → IsMarked i cell (codes "cut off") cell.local.now old new before after
      → IsCellTold d target b i old new before after
  strange : (cell : Cell) (bytes : List ℕ) → IsCellAt b i cell → IsStrange d cell bytes → IsMarked i cell (codes "no row") bytes old new before after
      → IsCellTold d target b i old new before after
  holds : (cell : Cell) (bytes : List ℕ) (row : Row) → IsCellAt b i cell → IsPayload d cell bytes → IsRowIn d (entry_of i cell) row
      → IsRowTold target target.going i cell bytes row old new before after → IsCellTold d target b i old new before after
