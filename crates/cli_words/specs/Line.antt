-- What the words of a command line ask for.
use Rattle.std.specs.Prelude.{◌≡◌, ◌≢◌, ◌⊎◌, ◌↔◌, Bool, IsTrue, Option, None, Some, ℕ, zero, suc, ◌-◌, ◌^◌, ◌<◌, ◌≤◌}
use Rattle.std.specs.Prelude.{List, [], ◌∷◌, ◌++◌, length, map, take, drop, slice_get, codes, unwrap_or}
use Rattle.std.specs.Borrow.{Bor}
use Rattle.std.specs.List.{Contains}
use Rattle.std.specs.Str.Parse.{IsNumeral, digits_value, without_leading_plus}
use Rattle.cli_words.specs.declared.requests.Part.{Part}
use Rattle.cli_words.specs.declared.requests.Part.TheVariants.{Header, Page, Log, Commits, Pages}
use Rattle.cli_words.specs.declared.requests.SuperJournal.{SuperJournal}
use Rattle.cli_words.specs.declared.requests.SuperJournal.TheVariants.{Present, Gone, Look}
use Rattle.cli_words.specs.declared.requests.Style.{Style}
use Rattle.cli_words.specs.declared.requests.Style.TheVariants.{Lines, Json}
use Rattle.cli_words.specs.declared.requests.RowForm.{RowForm}
use Rattle.cli_words.specs.declared.requests.RowForm.TheVariants.{Json as AsJson, Csv, Sql}
use Rattle.cli_words.specs.declared.requests.Cells.{Cells}
use Rattle.cli_words.specs.declared.requests.Cells.TheVariants.{Places, Deleted}
use Rattle.cli_words.specs.declared.requests.ChangeForm.{ChangeForm}
use Rattle.cli_words.specs.declared.requests.ChangeForm.TheVariants as changes
use Rattle.cli_words.specs.declared.requests.Between.{Between}
use Rattle.cli_words.specs.declared.requests.Compared.{Compared}
use Rattle.cli_words.specs.declared.requests.Deep.{Deep}
use Rattle.cli_words.specs.declared.requests.Options.{Options}
use Rattle.cli_words.specs.declared.requests.Request.{Request}
use Rattle.cli_words.specs.declared.requests.Request.TheVariants.{Show, Check, Rows, Cells as TellsCells, Diff, DeletedDiff, Recover, Report, Salvage, Version}
use Rattle.cli_words.specs.declared.words.Own.{Own}
use Rattle.cli_words.specs.declared.words.Own.TheVariants.{Checks, Recovers, Reports, Prints, Compares, Salvages}

-- the words behind the command, up to a "--"
pub record AreOptions (words options : List (List ℕ)) : Type 0 where
  pub end : ℕ
  pub behind : 2 ≤ end
  pub are : options ≡ drop 2 (take end words)
  pub none : (i : ℕ) → 2 ≤ i → i < end → slice_get words i ≢ Some (codes "--")
  pub last : (length words ≤ end) ⊎ (slice_get words end ≡ Some (codes "--"))

-- an option of this name gives this text: it stands behind the name, or behind the name and a "="
abbrev pub HasText : (name : List ℕ) → (options : List (List ℕ)) → (text : List ℕ) → Type 0
HasText name options text =
    ((i : ℕ) × (slice_get options i ≡ Some name) × (slice_get options (suc i) ≡ Some text))
    ⊎ Contains options (name ++ (codes "=" ++ text))

-- word i is an option of this name and gives this text
abbrev pub GivesText : (name : List ℕ) → (options : List (List ℕ)) → (i : ℕ) → (text : List ℕ) → Type 0
GivesText name options i text =
    ((slice_get options i ≡ Some name) × (slice_get options (suc i) ≡ Some text))
    ⊎ (slice_get options i ≡ Some (name ++ (codes "=" ++ text)))

-- the first words, so many, give these texts in their order, by options of this name
abbrev pub GiveTexts : (name : List ℕ) → (options : List (List ℕ)) → (n : ℕ) → (texts : List (List ℕ)) → Type 0
GiveTexts name options zero texts = texts ≡ []
GiveTexts name options (suc n) texts =
    ((first : List (List ℕ)) × (text : List ℕ) × GiveTexts name options n first × GivesText name options n text
    × (texts ≡ first ++ text ∷ []))
    ⊎ (GiveTexts name options n texts × ((text : List ℕ) → ¬ GivesText name options n text))

-- none does
abbrev pub HasNoText : (name : List ℕ) → (options : List (List ℕ)) → Type 0
HasNoText name options = (text : List ℕ) → ¬ HasText name options text

-- the text is this number in decimal digits
abbrev pub IsNumber : (text : List ℕ) → (n : ℕ) → Type 0
IsNumber text n = IsNumeral 10 (without_leading_plus text) × (digits_value 10 (without_leading_plus text) ≡ n)

-- and one that a page can have
abbrev pub IsPageNumber : (text : List ℕ) → (n : ℕ) → Type 0
IsPageNumber text n = (1 ≤ n) × (n < 2 ^ 32) × IsNumber text n

-- and one that a frame can have, or 0
abbrev pub IsFrameNumber : (text : List ℕ) → (n : ℕ) → Type 0
IsFrameNumber text n = (n < 2 ^ 32) × IsNumber text n

-- the options ask for this part
abbrev pub AsksPart : (options : List (List ℕ)) → Part → Type 0
AsksPart options Header = (¬ Contains options (codes "--log")) × (¬ Contains options (codes "--commits"))
    × (¬ Contains options (codes "--all")) × (¬ Contains options (codes "--pages")) × HasNoText (codes "--page") options
AsksPart options (Page n) = (¬ Contains options (codes "--log")) × (¬ Contains options (codes "--commits"))
    × (¬ Contains options (codes "--all")) × (¬ Contains options (codes "--pages"))
    × ((text : List ℕ) × HasText (codes "--page") options text × IsPageNumber text n)
AsksPart options (Log all) = Contains options (codes "--log") × (¬ Contains options (codes "--commits"))
    × (IsTrue all ↔ Contains options (codes "--all")) × (¬ Contains options (codes "--pages"))
    × HasNoText (codes "--page") options
AsksPart options Commits = (¬ Contains options (codes "--log")) × Contains options (codes "--commits")
    × (¬ Contains options (codes "--all")) × (¬ Contains options (codes "--pages")) × HasNoText (codes "--page") options
AsksPart options Pages = (¬ Contains options (codes "--log")) × (¬ Contains options (codes "--commits"))
    × (¬ Contains options (codes "--all")) × Contains options (codes "--pages") × HasNoText (codes "--page") options

-- they ask for none: for a page by what is no page's number, for two of a page, the log, the commits and the pages, or
-- for all of what isn't the log
abbrev pub AsksNoPart : (options : List (List ℕ)) → Type 0
AsksNoPart options =
    ((text : List ℕ) × HasText (codes "--page") options text × (((n : ℕ) → ¬ IsPageNumber text n)
    ⊎ Contains options (codes "--log") ⊎ Contains options (codes "--commits") ⊎ Contains options (codes "--pages")))
    ⊎ (Contains options (codes "--log") × Contains options (codes "--commits"))
    ⊎ (Contains options (codes "--all") × ¬ Contains options (codes "--log"))
    ⊎ (Contains options (codes "--pages") × (Contains options (codes "--log") ⊎ Contains options (codes "--commits")))

-- a word that is no option: it doesn't begin with a "-", or is a "-" alone
abbrev pub IsPlain : (word : List ℕ) → Type 0
IsPlain word = (rest : List ℕ) → word ≡ codes "-" ++ rest → rest ≡ []

-- a word that names an option with a value: the name, or the name with a "=" and the value
abbrev pub IsNamed : (name : List ℕ) → (word : List ℕ) → Type 0
IsNamed name word = (word ≡ name) ⊎ ((text : List ℕ) × (word ≡ name ++ (codes "=" ++ text)))

-- a word that each command knows
abbrev pub IsCommon : (word : List ℕ) → Type 0
IsCommon word = (word ≡ codes "-v") ⊎ (word ≡ codes "--verbose") ⊎ (word ≡ codes "--json") ⊎ (word ≡ codes "--large")
    ⊎ (word ≡ codes "--any") ⊎ (word ≡ codes "--super-journal=present") ⊎ (word ≡ codes "--super-journal=gone")
    ⊎ (word ≡ codes "--super-journal=look") ⊎ IsNamed (codes "--at") word

-- a word that is an option of this command and not of each: of `check`, `recover`, `report`, `rows`, `diff` or
-- `salvage`
abbrev pub IsOwn : Own → (word : List ℕ) → Type 0
IsOwn Checks word = (word ≡ codes "--deep") ⊎ (word ≡ codes "--complete") ⊎ (word ≡ codes "--pointer-maps")
IsOwn Recovers word = (word ≡ codes "--force") ⊎ IsNamed (codes "--to") word
IsOwn Reports word = (word ≡ codes "--changes") ⊎ (word ≡ codes "--pointer-maps") ⊎ IsNamed (codes "--to") word
IsOwn Prints word = (word ≡ codes "--csv") ⊎ (word ≡ codes "--sql") ⊎ (word ≡ codes "--places") ⊎ (word ≡ codes "--deleted")
    ⊎ (word ≡ codes "--all") ⊎ IsNamed (codes "--table") word
IsOwn Salvages word = (word ≡ codes "--places") ⊎ IsNamed (codes "--to") word
IsOwn Compares word = (word ≡ codes "--sql") ⊎ (word ≡ codes "--commits") ⊎ (word ≡ codes "--deleted") ⊎ IsNamed (codes "--table") word
    ⊎ IsNamed (codes "--from") word ⊎ IsNamed (codes "--to") word

-- a word behind such a command that is no option, or one of the command's
abbrev pub IsKnown : Own → (word : List ℕ) → Type 0
IsKnown own word = IsPlain word ⊎ IsCommon word ⊎ IsOwn own word

-- all are
abbrev pub AreKnown : Own → (words : List (List ℕ)) → Type 0
AreKnown own words = (i : ℕ) (word : List ℕ) → slice_get words i ≡ Some word → IsKnown own word

-- they ask to look for the super-journal, or to accept any database
abbrev pub AsksToLook : (options : List (List ℕ)) → Type 0
AsksToLook options = Contains options (codes "--super-journal=look") ⊎ Contains options (codes "--any")

-- what the options say of the super-journal
abbrev pub AsksOf : (options : List (List ℕ)) → Option SuperJournal → Type 0
AsksOf options None = (¬ Contains options (codes "--super-journal=present")) × (¬ Contains options (codes "--super-journal=gone"))
    × ¬ AsksToLook options
AsksOf options (Some Present) = Contains options (codes "--super-journal=present")
    × (¬ Contains options (codes "--super-journal=gone")) × ¬ AsksToLook options
AsksOf options (Some Gone) = (¬ Contains options (codes "--super-journal=present"))
    × Contains options (codes "--super-journal=gone") × ¬ AsksToLook options
AsksOf options (Some Look) = (¬ Contains options (codes "--super-journal=present"))
    × (¬ Contains options (codes "--super-journal=gone")) × AsksToLook options

-- they contradict themselves about the super-journal
abbrev pub AsksTwo : (options : List (List ℕ)) → Type 0
AsksTwo options =
    (Contains options (codes "--super-journal=present") × Contains options (codes "--super-journal=gone"))
    ⊎ ((Contains options (codes "--super-journal=present") ⊎ Contains options (codes "--super-journal=gone"))
    × AsksToLook options)

-- whether they accept databases above 1 GiB
abbrev pub AsksLarge : (options : List (List ℕ)) → Bool → Type 0
AsksLarge options large = IsTrue large ↔ (Contains options (codes "--large") ⊎ Contains options (codes "--any"))

-- whether they accept databases with auto-vacuum
abbrev pub AsksMaps : (options : List (List ℕ)) → Bool → Type 0
AsksMaps options maps = IsTrue maps ↔ (Contains options (codes "--pointer-maps") ⊎ Contains options (codes "--any"))

-- the commit that the option of this name gives, if it is there
abbrev pub AsksFrame : (name : List ℕ) → (options : List (List ℕ)) → Option ℕ → Type 0
AsksFrame name options None = HasNoText name options
AsksFrame name options (Some n) = (text : List ℕ) × HasText name options text × IsFrameNumber text n

-- at which commit they ask for the database, if at one in particular
abbrev pub AsksAt : (options : List (List ℕ)) → Option ℕ → Type 0
AsksAt options frame = AsksFrame (codes "--at") options frame

-- how they ask for what is found
abbrev pub AsksStyle : (options : List (List ℕ)) → Style → Type 0
AsksStyle options Lines = ¬ Contains options (codes "--json")
AsksStyle options Json = Contains options (codes "--json")

-- what each command is asked besides, exactly where an option says so
pub record AsksBesides (options : List (List ℕ)) (o : Options) : Type 0 where
  pub verbose : IsTrue o.verbose ↔ (Contains options (codes "-v") ⊎ Contains options (codes "--verbose"))
  pub super_journal : AsksOf options o.super_journal
  pub at_commit : AsksAt options o.at
  pub up_to_last : o.front ≡ None
  pub style : AsksStyle options o.style
  pub large : AsksLarge options o.large
  pub pointer_maps : AsksMaps options o.pointer_maps

-- the option of this name gives what is no frame of a commit
abbrev pub NamesNoFrame : (name : List ℕ) → (options : List (List ℕ)) → Type 0
NamesNoFrame name options = (text : List ℕ) × HasText name options text × ((n : ℕ) → ¬ IsFrameNumber text n)

-- they ask for nothing besides
abbrev pub AsksNoneBesides : (options : List (List ℕ)) → Type 0
AsksNoneBesides options = AsksTwo options ⊎ NamesNoFrame (codes "--at") options

-- a commit isn't named for a part that is of the whole log
abbrev pub MayBeAt : Part → (frame : Option ℕ) → Type 0
MayBeAt Header frame = Unit {0}
MayBeAt (Page n) frame = Unit {0}
MayBeAt (Log all) frame = frame ≡ None
MayBeAt Commits frame = frame ≡ None
MayBeAt Pages frame = Unit {0}

-- the text that the option of this name gives, if it is there: the file that a recovery is to make, the table
abbrev pub AsksText : (name : List ℕ) → (options : List (List ℕ)) → Option (Bor (List ℕ)) → Type 0
AsksText name options None = HasNoText name options
AsksText name options (Some text) = HasText name options text.now

-- how they ask for rows, which are lines of comma-separated values where they don't say it
abbrev pub AsksForm : (options : List (List ℕ)) → RowForm → Type 0
AsksForm options AsJson = Contains options (codes "--json") × (¬ Contains options (codes "--csv")) × (¬ Contains options (codes "--sql"))
AsksForm options Csv = (¬ Contains options (codes "--json")) × (¬ Contains options (codes "--sql"))
AsksForm options Sql = (¬ Contains options (codes "--json")) × (¬ Contains options (codes "--csv")) × Contains options (codes "--sql")

-- they ask for two forms
abbrev pub AsksNoForm : (options : List (List ℕ)) → Type 0
AsksNoForm options = (Contains options (codes "--json") × Contains options (codes "--csv"))
    ⊎ (Contains options (codes "--json") × Contains options (codes "--sql"))
    ⊎ (Contains options (codes "--csv") × Contains options (codes "--sql"))

-- they ask for no places of cells
abbrev pub AsksNoPlaces : (options : List (List ℕ)) → Type 0
AsksNoPlaces options =
    (¬ Contains options (codes "--places")) × (¬ Contains options (codes "--deleted")) × (¬ Contains options (codes "--all"))

-- which cells they ask for the places of
abbrev pub AsksCells : (options : List (List ℕ)) → Cells → Type 0
AsksCells options (Places table) = Contains options (codes "--places") × (¬ Contains options (codes "--deleted"))
    × (¬ Contains options (codes "--all"))
    × (¬ Contains options (codes "--csv")) × (¬ Contains options (codes "--sql")) × AsksText (codes "--table") options table
AsksCells options (Deleted all) = (¬ Contains options (codes "--places")) × Contains options (codes "--deleted")
    × (IsTrue all ↔ Contains options (codes "--all"))
    × (¬ Contains options (codes "--csv")) × (¬ Contains options (codes "--sql")) × HasNoText (codes "--table") options

-- they ask for places, and in another form than lines and objects, or for those of deleted cells and of others, or of a table; or
-- for all of what isn't those of deleted cells
abbrev pub AsksNoCells : (options : List (List ℕ)) → Type 0
AsksNoCells options =
    ((Contains options (codes "--places") ⊎ Contains options (codes "--deleted"))
    × (Contains options (codes "--csv") ⊎ Contains options (codes "--sql")))
    ⊎ (Contains options (codes "--deleted")
    × (Contains options (codes "--places") ⊎ ((text : List ℕ) × HasText (codes "--table") options text)))
    ⊎ (Contains options (codes "--all") × ¬ Contains options (codes "--deleted"))

-- they can't be those of `rows`: another one is among them, or two forms, or places of no cells
abbrev pub AreNoRows : (options : List (List ℕ)) → Type 0
AreNoRows options = (¬ AreKnown Prints options) ⊎ AsksNoForm options ⊎ AsksNoCells options

-- how they ask for changes of rows
abbrev pub AsksChangeForm : (options : List (List ℕ)) → ChangeForm → Type 0
AsksChangeForm options changes.Lines = (¬ Contains options (codes "--json")) × (¬ Contains options (codes "--sql"))
AsksChangeForm options changes.Json = Contains options (codes "--json") × (¬ Contains options (codes "--sql"))
AsksChangeForm options changes.Sql = (¬ Contains options (codes "--json")) × Contains options (codes "--sql")

-- they ask for two forms, or for a script of each commit
abbrev pub AsksNoChangeForm : (options : List (List ℕ)) → Type 0
AsksNoChangeForm options = Contains options (codes "--sql") × (Contains options (codes "--json") ⊎ Contains options (codes "--commits"))

-- between which commits they ask for changes of rows, from 0 where they don't say it, of which tables, and how
pub record AsksCompared (options : List (List ℕ)) (compared : Compared) : Type 0 where
  pub from : (frame : Option ℕ) × AsksFrame (codes "--from") options frame × (compared.from ≡ unwrap_or frame 0)
  pub to : AsksFrame (codes "--to") options compared.to
  pub tables : map (λ w. w.now) compared.tables.options.now ≡ options
  pub form : AsksChangeForm options compared.form
  pub commits : IsTrue compared.commits ↔ Contains options (codes "--commits")
  pub rows : ¬ Contains options (codes "--deleted")

-- they ask for deleted cells, and for a script, for each commit, or for a table
abbrev pub AsksNoBetween : (options : List (List ℕ)) → Type 0
AsksNoBetween options = Contains options (codes "--deleted")
    × (Contains options (codes "--sql") ⊎ Contains options (codes "--commits") ⊎ ((text : List ℕ) × HasText (codes "--table") options text))

-- between which commits they ask for deleted cells, from 0 where they don't say it
pub record AsksBetween (options : List (List ℕ)) (between : Between) : Type 0 where
  pub from : (frame : Option ℕ) × AsksFrame (codes "--from") options frame × (between.from ≡ unwrap_or frame 0)
  pub to : AsksFrame (codes "--to") options between.to
  pub deleted : Contains options (codes "--deleted")
  pub alone : (¬ Contains options (codes "--sql")) × (¬ Contains options (codes "--commits")) × HasNoText (codes "--table") options

-- they name no frame for one of both commits, or ask for no form, or for deleted cells and what doesn't go with them
abbrev pub AsksNothingCompared : (options : List (List ℕ)) → Type 0
AsksNothingCompared options =
    NamesNoFrame (codes "--from") options ⊎ NamesNoFrame (codes "--to") options ⊎ AsksNoChangeForm options ⊎ AsksNoBetween options

-- they can't be those of `diff`: another one is among them, or one commit by itself, or what can't be compared
abbrev pub AreNoDiff : (options : List (List ℕ)) → Type 0
AreNoDiff options = (¬ AreKnown Compares options) ⊎ ((text : List ℕ) × HasText (codes "--at") options text)
    ⊎ AsksNothingCompared options

-- which deep check they ask for, if any: that all is judged is asked of such a one alone
abbrev pub AsksDeep : (options : List (List ℕ)) → Option Deep → Type 0
AsksDeep options None = (¬ Contains options (codes "--deep")) × (¬ Contains options (codes "--complete"))
AsksDeep options (Some deep) = Contains options (codes "--deep") × (IsTrue deep.complete ↔ Contains options (codes "--complete"))

-- whether the words behind a command ask for all to be judged
abbrev pub AsksComplete : (words : List (List ℕ)) → Bool → Type 0
AsksComplete words complete =
    (options : List (List ℕ)) × AreOptions words options × (IsTrue complete ↔ Contains options (codes "--complete"))

-- they ask that of another check
abbrev pub AsksNoDeep : (options : List (List ℕ)) → Type 0
AsksNoDeep options = (¬ Contains options (codes "--deep")) × Contains options (codes "--complete")

-- they can't be those of `check`: another one is among them, or they ask that of another check
abbrev pub AreNoCheck : (options : List (List ℕ)) → Type 0
AreNoCheck options = (¬ AreKnown Checks options) ⊎ AsksNoDeep options

-- they can't be a report's: another one is among them, or the file to be made isn't named
abbrev pub AreNoReport : (options : List (List ℕ)) → Type 0
AreNoReport options = (¬ AreKnown Reports options) ⊎ HasNoText (codes "--to") options

-- they can't be those of `salvage`: another one is among them, or the file to be made isn't named
abbrev pub AreNoSalvage : (options : List (List ℕ)) → Type 0
AreNoSalvage options = (¬ AreKnown Salvages options) ⊎ HasNoText (codes "--to") options

-- a word behind which a value stands
abbrev pub TakesValue : (word : List ℕ) → Type 0
TakesValue word = (word ≡ codes "--page") ⊎ (word ≡ codes "--to") ⊎ (word ≡ codes "--at") ⊎ (word ≡ codes "--table")
    ⊎ (word ≡ codes "--from")

-- a word behind the command that stands for itself: behind a "--", or else plain and no option's value
pub record StandsFree (words : List (List ℕ)) (i : ℕ) (word : List ℕ) : Type 0 where
  pub behind : 2 ≤ i
  pub is : slice_get words i ≡ Some word
  pub free : Contains (drop 2 (take i words)) (codes "--")
      ⊎ (IsPlain word × ((before : List ℕ) → slice_get words (i - 1) ≡ Some before → ¬ TakesValue before))

-- the file is the only such word
abbrev pub IsFile : (words : List (List ℕ)) → (file : List ℕ) → Type 0
IsFile words file = (i : ℕ) × StandsFree words i file × ((j : ℕ) (other : List ℕ) → StandsFree words j other → j ≡ i)

-- a word that asks for the version
abbrev pub IsVersion : (word : List ℕ) → Type 0
IsVersion word = (word ≡ codes "--version") ⊎ (word ≡ codes "-V")

-- the first word behind the program's name asks for the version
abbrev pub AsksVersion : List (List ℕ) → Type 0
AsksVersion words = (word : List ℕ) × (slice_get words 1 ≡ Some word) × IsVersion word

-- The second word is the command, the file stands behind it, and the options before a "--" say the rest, each exactly where
-- it stands; behind all but `show` there are no others. A commit goes with no part of the whole log, with no changes of rows, and
-- with a recovery only where that makes another file; a report and a salvage make one.
abbrev pub Asks : List (List ℕ) → Request → Type 0
Asks words (Show file part o) =
    (slice_get words 1 ≡ Some (codes "show")) × IsFile words file.now
    × ((options : List (List ℕ)) × AreOptions words options × AsksPart options part × AsksBesides options o × MayBeAt part o.at)
Asks words (Check file deep o) =
    (slice_get words 1 ≡ Some (codes "check")) × IsFile words file.now
    × ((options : List (List ℕ)) × AreOptions words options × AreKnown Checks options × AsksBesides options o
    × AsksDeep options deep)
Asks words (Rows file table form o) =
    (slice_get words 1 ≡ Some (codes "rows")) × IsFile words file.now
    × ((options : List (List ℕ)) × AreOptions words options × AreKnown Prints options × AsksBesides options o
    × AsksText (codes "--table") options table × AsksForm options form × AsksNoPlaces options)
Asks words (TellsCells file cells o) =
    (slice_get words 1 ≡ Some (codes "rows")) × IsFile words file.now
    × ((options : List (List ℕ)) × AreOptions words options × AreKnown Prints options × AsksBesides options o
    × AsksCells options cells)
Asks words (Diff file compared o) =
    (slice_get words 1 ≡ Some (codes "diff")) × IsFile words file.now
    × ((options : List (List ℕ)) × AreOptions words options × AreKnown Compares options × AsksBesides options o
    × AsksCompared options compared × (o.at ≡ None))
Asks words (DeletedDiff file between o) =
    (slice_get words 1 ≡ Some (codes "diff")) × IsFile words file.now
    × ((options : List (List ℕ)) × AreOptions words options × AreKnown Compares options × AsksBesides options o
    × AsksBetween options between × (o.at ≡ None))
Asks words (Recover file to force o) =
    (slice_get words 1 ≡ Some (codes "recover")) × IsFile words file.now
    × ((options : List (List ℕ)) × AreOptions words options × AreKnown Recovers options × AsksBesides options o
    × (IsTrue force ↔ Contains options (codes "--force")) × AsksText (codes "--to") options to × (to ≡ None → o.at ≡ None))
Asks words (Report file to changes o) =
    (slice_get words 1 ≡ Some (codes "report")) × IsFile words file.now
    × ((options : List (List ℕ)) × AreOptions words options × AreKnown Reports options
    × HasText (codes "--to") options to.now × (IsTrue changes ↔ Contains options (codes "--changes")) × AsksBesides options o)
Asks words (Salvage file to places o) =
    (slice_get words 1 ≡ Some (codes "salvage")) × IsFile words file.now
    × ((options : List (List ℕ)) × AreOptions words options × AreKnown Salvages options × AsksBesides options o
    × HasText (codes "--to") options to.now × (IsTrue places ↔ Contains options (codes "--places")))
Asks words Version = AsksVersion words

-- a commit is named, and they ask for a part that is of the whole log
abbrev pub NamesOfLog : (options : List (List ℕ)) → (frame : Option ℕ) → Type 0
NamesOfLog options frame = (frame ≢ None) × (Contains options (codes "--log") ⊎ Contains options (codes "--commits"))

-- what the options of a command can't be: those of `show` ask for no part, or for one that has no commits; those of
-- `recover` have another among them, or name a commit and no file to be made; those of `report` have another among them,
-- or name no file to be made; those of `check`, `rows`, `diff` and `salvage` as above
abbrev pub AreAmiss : (command : List ℕ) → (options : List (List ℕ)) → Type 0
AreAmiss command options =
    (command ≡ codes "check" → AreNoCheck options)
    × (command ≡ codes "recover" → (¬ AreKnown Recovers options)
    ⊎ (((frame : Option ℕ) → AsksAt options frame → frame ≢ None) × HasNoText (codes "--to") options))
    × (command ≡ codes "report" → AreNoReport options)
    × (command ≡ codes "rows" → AreNoRows options)
    × (command ≡ codes "diff" → AreNoDiff options)
    × (command ≡ codes "salvage" → AreNoSalvage options)
    × (command ≡ codes "show" → AsksNoPart options
    ⊎ ((frame : Option ℕ) × AsksAt options frame × NamesOfLog options frame))

-- The words, of this command and this file, ask for nothing: the command is another one, or its options ask for nothing
-- besides, or are amiss.
abbrev pub AsksNothing : (words : List (List ℕ)) → (command file : List ℕ) → Type 0
AsksNothing words command file = slice_get words 1 ≡ Some command → IsFile words file
    → (options : List (List ℕ)) × AreOptions words options × (AsksNoneBesides options ⊎ AreAmiss command options)
