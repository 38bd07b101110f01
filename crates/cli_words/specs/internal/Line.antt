-- What the words of a command line ask for.
use Rattle.std.specs.Prelude.{◌≡◌, ◌≢◌, ◌⊎◌, ◌↔◌, Bool, IsTrue, Option, None, ℕ}
use Rattle.std.specs.Prelude.{List, codes}
use Rattle.std.specs.Borrow.{Bor}
use Rattle.std.specs.List.{Contains}
use Rattle.cli_words.specs.declared.requests.Cells.{Cells}
use Rattle.cli_words.specs.declared.requests.Between.{Between}
use Rattle.cli_words.specs.declared.requests.Compared.{Compared}
use Rattle.cli_words.specs.declared.requests.Deep.{Deep}
use Rattle.cli_words.specs.declared.requests.Options.{Options}
use Rattle.cli_words.specs.declared.requests.Request.{Request}
use Rattle.cli_words.specs.declared.requests.Request.TheVariants.{Check, Report, Rows, Cells as TellsCells, Diff, DeletedDiff, Salvage}
use Rattle.cli_words.specs.declared.requests.RowForm.{RowForm}
use Rattle.cli_words.specs.declared.words.Own.TheVariants.{Checks, Reports, Prints, Compares, Salvages}
use Rattle.cli_words.specs.Line.{HasText, AreKnown, AsksCells, AsksCompared, AsksForm, AsksNoPlaces}
use Rattle.cli_words.specs.Line.{AsksBetween, AsksDeep, AsksNothingCompared, AsksText}

-- the options of `check` say this: which deep check, if any, and what else is asked
abbrev pub IsCheck : (options : List (List ℕ)) → (file : Bor (List ℕ)) → Options → Request → Type 0
IsCheck options file o request = AreKnown Checks options
    × ((deep : Option Deep) × AsksDeep options deep × (request ≡ Check file deep o))

-- the options of a report say this: the file that it makes, whether it has changes of rows, and what else is asked
abbrev pub IsReport : (options : List (List ℕ)) → (file : Bor (List ℕ)) → Options → Request → Type 0
IsReport options file o request = AreKnown Reports options
    × ((to : Bor (List ℕ)) × (changes : Bool) × HasText (codes "--to") options to.now
    × (IsTrue changes ↔ Contains options (codes "--changes")) × (request ≡ Report file to changes o))

-- the options of `rows` ask for rows: of which table, and in which form
abbrev pub IsFormed : (options : List (List ℕ)) → (file : Bor (List ℕ)) → Options → Request → Type 0
IsFormed options file o request = (table : Option (Bor (List ℕ))) × (form : RowForm) × AsksText (codes "--table") options table
    × AsksForm options form × AsksNoPlaces options × (request ≡ Rows file table form o)

-- they ask for places of cells
abbrev pub IsPlaced : (options : List (List ℕ)) → (file : Bor (List ℕ)) → Options → Request → Type 0
IsPlaced options file o request = (cells : Cells) × AsksCells options cells × (request ≡ TellsCells file cells o)

-- the options of `rows` say this: which rows or cells, and what else is asked
abbrev pub IsRows : (options : List (List ℕ)) → (file : Bor (List ℕ)) → Options → Request → Type 0
IsRows options file o request =
    AreKnown Prints options × (IsFormed options file o request ⊎ IsPlaced options file o request)

-- the options of `diff` ask for changes of rows
abbrev pub IsCompared : (options : List (List ℕ)) → (file : Bor (List ℕ)) → Options → Request → Type 0
IsCompared options file o request = (compared : Compared) × AsksCompared options compared × (request ≡ Diff file compared o)

-- they ask for deleted cells
abbrev pub IsBetween : (options : List (List ℕ)) → (file : Bor (List ℕ)) → Options → Request → Type 0
IsBetween options file o request = (between : Between) × AsksBetween options between × (request ≡ DeletedDiff file between o)

-- the options of `diff` say this: what is compared, and what else is asked
abbrev pub IsDiff : (options : List (List ℕ)) → (file : Bor (List ℕ)) → Options → Request → Type 0
IsDiff options file o request = AreKnown Compares options × (o.at ≡ None)
    × (IsCompared options file o request ⊎ IsBetween options file o request)

-- they don't
abbrev pub AskNoDiff : (options : List (List ℕ)) → Options → Type 0
AskNoDiff options o = (¬ AreKnown Compares options) ⊎ (o.at ≢ None) ⊎ AsksNothingCompared options

-- the options of `salvage` say this: the file that it makes, whether it has places, and what else is asked
abbrev pub IsSalvage : (options : List (List ℕ)) → (file : Bor (List ℕ)) → Options → Request → Type 0
IsSalvage options file o request = AreKnown Salvages options
    × ((to : Bor (List ℕ)) × (places : Bool) × HasText (codes "--to") options to.now
    × (IsTrue places ↔ Contains options (codes "--places")) × (request ≡ Salvage file to places o))
