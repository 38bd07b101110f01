-- What a deep check doesn't judge of a database that it finds sound (own).
use Rattle.std.specs.Prelude.{◌≡◌, ◌⊎◌, ◌≤◌, ◌<◌, ◌==◌, ◌&&◌, ◌-◌, ℕ, zero, suc, Bool, true, false, if◌then◌else◌, List, [], ◌∷◌, ◌++◌, map, length, take, drop, count_by, codes, slice_get, Option, Some, None, pos}
use Rattle.std.specs.List.{list_any}
use Rattle.std.specs.Ordering.{int_eq}
use Rattle.schema_tokens.specs.Keywords.{is_same_word}
use Rattle.schema_tokens.specs.Pieces.{IsReading}
use Rattle.schema_tokens.specs.declared.kinds.Kind.{Kind as Tokens}
use Rattle.schema_tokens.specs.declared.kinds.Kind.TheVariants.{Reserved}
use Rattle.schema_tokens.specs.declared.kinds.Piece.{Piece}
use Rattle.sqschema.specs.Items.{Item, seen}
use Rattle.sqschema.specs.Roots.{most_text}
use Rattle.sqschema.specs.Rules.{is_index, is_view, is_trigger}
use Rattle.sqschema.specs.declared.check.Schema.{Schema}
use Rattle.sqdeepjudge.specs.declared.words.Words.{Words}
use Rattle.sqdeepjudge.specs.declared.not_judged.Kind.{Kind}
use Rattle.sqdeepjudge.specs.declared.not_judged.Kind.TheVariants.{Index, Table, Check, ForeignKey, View, Trigger, VirtualTable}
use Rattle.sqdeepjudge.specs.declared.not_judged.Why.{Why}
use Rattle.sqdeepjudge.specs.declared.not_judged.Why.TheVariants.{Entries, Where, Rows, Tree, Never}
use Rattle.sqdeepjudge.specs.declared.not_judged.NotJudged.{NotJudged}

-- what an object is: a table without a tree is a virtual one
abbrev pub kind_of : Item → Kind
kind_of x =
    if is_index x then Index
    else (if is_view x then View
    else (if is_trigger x then Trigger
    else (if int_eq x.root (pos 0) then VirtualTable else Table)))

-- the number of a kind, and whether two are the same (own)
abbrev pub number_of : Kind → ℕ
number_of Index = 1
number_of Table = 2
number_of Check = 3
number_of ForeignKey = 4
number_of View = 5
number_of Trigger = 6
number_of VirtualTable = 7

abbrev pub is_same : (a b : Kind) → Bool
is_same a b = number_of a == number_of b

-- how many of these are of a kind, and how many objects of a schema
abbrev pub things_of : Kind → List NotJudged → ℕ
things_of kind all = count_by (λ it. is_same kind it.kind) all

abbrev pub objects_of : Kind → Schema → ℕ
objects_of kind schema = count_by (λ x. is_same kind (kind_of (seen x))) schema.items.items

-- It has to be judged where all is to be: anything but the body of a view or of a trigger, which says nothing of a page.
abbrev pub counts : Kind → Bool
counts View = false
counts Trigger = false
counts _ = true

-- one of these has to be
abbrev pub lacks : List NotJudged → Bool
lacks all = list_any (λ it. counts it.kind) all

-- A token of a text is this keyword, and no name (lang_keywords).
abbrev pub is_reserved : Tokens → Bool
is_reserved Reserved = true
is_reserved _ = false

abbrev pub is_keyword : (sql word : List ℕ) → Piece → Bool
is_keyword sql word p = is_reserved p.kind && is_same_word (take (p.to - p.from) (drop p.from sql)) word

-- So often the tokens of a text are these keywords.
abbrev pub AreWordsIn : (sql : List ℕ) → Words → (ps : List Piece) → Type 0
AreWordsIn sql w ps = (w.checks ≡ count_by (is_keyword sql (codes "check")) ps)
    × (w.references ≡ count_by (is_keyword sql (codes "references")) ps) × (w.wheres ≡ count_by (is_keyword sql (codes "where")) ps)

abbrev pub no_words : Words
no_words = record { checks = 0; references = 0; wheres = 0 }

-- How often a text has them. One of more than 1,048,576 bytes isn't read (own): neither a table nor an index is judged by such a text.
abbrev pub HasWords : Option (List ℕ) → Words → Type 0
HasWords None w = w ≡ no_words
HasWords (Some sql) w = ((length sql ≤ most_text) × ((ps : List Piece) × (end : ℕ) × IsReading sql ps end × AreWordsIn sql w ps))
    ⊎ ((most_text < length sql) × (w ≡ no_words))

-- a row is one of these
abbrev pub has : (rows : List ℕ) → (row : ℕ) → Bool
has rows row = list_any (λ other. other == row) rows

-- one thing that isn't judged, of the object in this row of the schema
abbrev pub one : Kind → Why → (row : ℕ) → List NotJudged
one kind why row = record { kind = kind; why = why; row = row; number = 0 } ∷ []

-- so many clauses of the table there, from 0
abbrev pub numbered : Kind → (row count : ℕ) → List NotJudged
numbered kind row zero = []
numbered kind row (suc n) = numbered kind row n ++ record { kind = kind; why = Never; row = row; number = n } ∷ []

-- An index isn't judged where its entries aren't, or where it isn't judged which rows its WHERE selects.
abbrev pub of_index : (unjudged : Bool) → (row : ℕ) → Words → List NotJudged
of_index unjudged row w = if unjudged then one Index Entries row else (if w.wheres == 0 then [] else one Index Where row)

-- A table isn't where its rows aren't, or where its text isn't understood, so that the kind of its tree isn't; no CHECK ever is, and no
-- foreign key, which each have their word once (lang_createtable, "CHECK constraints"; foreignkeys, 1).
abbrev pub of_table : (unjudged aside : Bool) → (row : ℕ) → Words → List NotJudged
of_table unjudged aside row w =
    (if unjudged then one Table Rows row else (if aside then one Table Tree row else []))
    ++ (numbered Check row w.checks ++ numbered ForeignKey row w.references)

-- what isn't judged of an object of this kind, in a row of the schema: of views, triggers and virtual tables each one
abbrev pub parts_of : Kind → (asides indexes tables : List ℕ) → (row : ℕ) → Words → List NotJudged
parts_of Index asides indexes tables row w = of_index (has indexes row) row w
parts_of Table asides indexes tables row w = of_table (has tables row) (has asides row) row w
parts_of kind asides indexes tables row w = one kind Never row

-- The same of the first n objects of a schema, one after another.
abbrev pub AreOfFirst : (xs : List Item) → (asides indexes tables : List ℕ) → (n : ℕ) → List NotJudged → Type 0
AreOfFirst xs asides indexes tables zero all = all ≡ []
AreOfFirst xs asides indexes tables (suc n) all = (before : List NotJudged) × (x : Item) × (w : Words)
    × AreOfFirst xs asides indexes tables n before × (slice_get xs n ≡ Some x) × HasWords x.sql w
    × (all ≡ before ++ parts_of (kind_of x) asides indexes tables n w)

-- This is what isn't judged of a schema of which these indexes and these tables aren't: each thing once, and nothing else.
abbrev pub AreNotJudged : Schema → (indexes tables : List ℕ) → List NotJudged → Type 0
AreNotJudged schema indexes tables all =
    AreOfFirst (map seen schema.items.items) schema.asides.items indexes tables (length schema.items.items) all
