-- Where the rows of tables stand (own).
use Rattle.std.specs.Prelude.{◌≡◌, ◌⊎◌, ℕ, Bool, true, false, List, [], ◌∷◌, length, Option, Some, None, option_map}
use Rattle.std.specs.Borrow.{Bor}
use Rattle.std.specs.Io.KnownBytes.{Appends}
use Rattle.std.specs.List.{Contains}
use Rattle.sqval.specs.Database.{Database}
use Rattle.sqrows.specs.Trees.{Entry, IsTree}
use Rattle.sqtables.specs.declared.list.Object.{Object}
use Rattle.sqtables.specs.Objects.{IsTable, IsTableNamed}
use Rattle.cli_words.specs.declared.requests.Style.{Style}
use Rattle.cli_show_rows.specs.Dumps.{is_internal}
use Rattle.cli_show_rows.specs.Schemas.{HasObjectsRead}
use Rattle.cli_show_rows.specs.Strays.{HasStrays}
use Rattle.sqdeep.specs.Records.{encoding_of}
use Rattle.cli_show_places.specs.declared.table.Form.{Form}
use Rattle.cli_show_places.specs.Lines.{table_text}

-- how all tables are printed, and how one that is named
abbrev pub form_of : Style → (titled : Bool) → Form
form_of style titled = record { style = style; titled = titled }

-- It was printed where each row of a table stands: of the cells of its tree each once, in their order.
abbrev pub IsTablePlaced : Database → (frames : ℕ → Option ℕ) → Form → Object → (before after : Option (List ℕ)) → Type 0
IsTablePlaced d frames form o before after =
    (xs : List Entry) × IsTree d o.root xs × Appends before after (table_text frames form o.name.items xs)

-- It is one of SQLite's own tables, or of the user's.
abbrev pub IsTableOf : (own : Bool) → Object → Type 0
IsTableOf own o = IsTable o × (is_internal o.name.items ≡ own)

-- It was printed of an object that is one of these tables, and nothing of another one.
abbrev pub IsTurnPlaced : Database → (frames : ℕ → Option ℕ) → Form → (own : Bool) → Object → (before after : Option (List ℕ)) → Type 0
IsTurnPlaced d frames form own o before after =
    (IsTableOf own o × IsTablePlaced d frames form o before after) ⊎ ((¬ IsTableOf own o) × (before ≡ after))

-- It was printed of each of these objects, in their order.
abbrev pub AreTurnsPlaced : Database → (frames : ℕ → Option ℕ) → Form → (own : Bool) → List Object → (before after : Option (List ℕ)) → Type 0
AreTurnsPlaced d frames form own [] before after = before ≡ after
AreTurnsPlaced d frames form own (o ∷ objects) before after =
    (mid : Option (List ℕ)) × IsTurnPlaced d frames form own o before mid × AreTurnsPlaced d frames form own objects mid after

-- It was printed of each table among these objects: of the user's, and behind them of SQLite's own.
abbrev pub AreObjectsPlaced : Database → (frames : ℕ → Option ℕ) → Style → List Object → (before after : Option (List ℕ)) → Type 0
AreObjectsPlaced d frames style objects before after =
    (mid : Option (List ℕ)) × AreTurnsPlaced d frames (form_of style true) false objects before mid
    × AreTurnsPlaced d frames (form_of style true) true objects mid after

-- It was printed of each table of a database, beside these rows of its schema, which describe no object.
abbrev pub AreTablesPlacedBeside : Database → (frames : ℕ → Option ℕ) → Style → (strays : List (List ℕ)) → (before after : Option (List ℕ)) → Type 0
AreTablesPlacedBeside d frames style strays before after =
    (objects : List Object) × HasObjectsRead d objects × HasStrays d (encoding_of d) strays × AreObjectsPlaced d frames style objects before after

-- It was, and there is no such row.
abbrev pub AreTablesPlaced : Database → (frames : ℕ → Option ℕ) → Style → (before after : Option (List ℕ)) → Type 0
AreTablesPlaced d frames style before after = AreTablesPlacedBeside d frames style [] before after

-- It was printed of a table of this name.
abbrev pub IsNamedPlaced : Database → (frames : ℕ → Option ℕ) → Style → (name : List ℕ) → (before after : Option (List ℕ)) → Type 0
IsNamedPlaced d frames style name before after =
    (objects : List Object) × (o : Object) × HasObjectsRead d objects × Contains objects o × IsTableNamed name o
    × IsTablePlaced d frames (form_of style false) o before after

-- the name of the table that is asked for, if one is
abbrev pub name_of : Option (Bor (List ℕ)) → Option (List ℕ)
name_of table = option_map (λ n. n.now) table

-- It was printed of the table that is named, or of each one; a database without pages has none.
abbrev pub ArePlacesPrinted : Database → (frames : ℕ → Option ℕ) → Style → (table : Option (List ℕ)) → (before after : Option (List ℕ)) → Type 0
ArePlacesPrinted d frames style None before after = ((length d ≡ 0) × (before ≡ after)) ⊎ AreTablesPlaced d frames style before after
ArePlacesPrinted d frames style (Some name) before after = IsNamedPlaced d frames style name before after
