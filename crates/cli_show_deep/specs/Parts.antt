-- How it is printed what a deep check doesn't judge of a sound database (own).
use Rattle.std.specs.Prelude.{ℕ, ◌==◌, if◌then◌else◌, List, [], ◌++◌, length, map, take, slice_get, Option, Some, None, codes}
use Rattle.std.specs.Fmt.{decimal}
use Rattle.std.specs.Str.{is_utf8}
use Rattle.hex.specs.Hex.{encode_lower}
use Rattle.sqcheck.specs.declared.report.Report.{Report}
use Rattle.sqschema.specs.declared.check.Schema.{Schema}
use Rattle.sqschema.specs.declared.item.Item.{Item}
use Rattle.sqdeepjudge.specs.NotJudged.{objects_of, things_of}
use Rattle.sqdeepjudge.specs.declared.not_judged.Kind.{Kind}
use Rattle.sqdeepjudge.specs.declared.not_judged.Kind.TheVariants.{Index, Table, Check, ForeignKey, View, Trigger, VirtualTable}
use Rattle.sqdeepjudge.specs.declared.not_judged.Why.{Why}
use Rattle.sqdeepjudge.specs.declared.not_judged.Why.TheVariants.{Entries, Where, Rows, Tree, Never}
use Rattle.sqdeepjudge.specs.declared.not_judged.NotJudged.{NotJudged}
use Rattle.cli_text.specs.Facts.{joined}
use Rattle.cli_row_text.specs.Lines.{json_string}

-- the words for what isn't judged, and for why
abbrev pub kind_word : Kind → List ℕ
kind_word Index = codes "index"
kind_word Table = codes "table"
kind_word Check = codes "check"
kind_word ForeignKey = codes "foreign key"
kind_word View = codes "view"
kind_word Trigger = codes "trigger"
kind_word VirtualTable = codes "virtual table"

abbrev pub why_word : Why → List ℕ
why_word Entries = codes "entries"
why_word Where = codes "where"
why_word Rows = codes "rows"
why_word Tree = codes "tree"
why_word Never = codes "never"

-- how many of a kind aren't judged, of how many
abbrev pub share_text : (left total : ℕ) → (word : List ℕ) → List ℕ
share_text left total word = decimal left ++ (codes " of " ++ (decimal total ++ (codes " " ++ word)))

-- those of a kind of which none is, where there are some
abbrev pub never_text : (n : ℕ) → (word : List ℕ) → List ℕ
never_text n word = if n == 0 then [] else codes ", " ++ share_text n n word

-- How many of each kind aren't: of indexes, tables and CHECKs always, and then of what is never judged, where there are some.
abbrev pub shares_text : Schema → List NotJudged → List ℕ
shares_text schema all =
    share_text (things_of Index all) (objects_of Index schema) (codes "indexes")
    ++ (codes ", " ++ (share_text (things_of Table all) (objects_of Table schema) (codes "tables")
    ++ (codes ", " ++ share_text (things_of Check all) (things_of Check all) (codes "checks"))))

abbrev pub nevers_text : List NotJudged → List ℕ
nevers_text all =
    never_text (things_of View all) (codes "views") ++ (never_text (things_of Trigger all) (codes "triggers")
    ++ (never_text (things_of VirtualTable all) (codes "virtual tables") ++ never_text (things_of ForeignKey all) (codes "foreign keys")))

-- what stands before that: the pages by their use
abbrev pub line_head : Report → List ℕ
line_head r =
    codes "clean: " ++ (decimal r.pages ++ (codes " pages, " ++ (decimal r.trees ++ (codes " trees, "
    ++ (decimal r.btree ++ (codes " b-tree, " ++ (decimal r.overflow ++ (codes " overflow, " ++ (decimal r.free ++ codes " free; not fully judged: ")))))))))

-- a sound database of which not all is judged
abbrev pub part_line : Report → Schema → List NotJudged → List ℕ
part_line r schema all = line_head r ++ (shares_text schema all ++ (nevers_text all ++ codes "\n"))

-- bytes as a string of hex
abbrev pub hex_string : List ℕ → List ℕ
hex_string bytes = codes "\"hex:" ++ (encode_lower bytes ++ codes "\"")

-- a name of the schema as a string of JSON: its bytes as hex where they aren't UTF-8
abbrev pub name_string : List ℕ → List ℕ
name_string name = if is_utf8 name then json_string name else hex_string name

-- the name of what isn't judged: of a CHECK and of a foreign key its number in its table, from 0
abbrev pub part_name : Kind → (number : ℕ) → (name : List ℕ) → List ℕ
part_name Check number name = codes "\"" ++ (decimal number ++ codes "\"")
part_name ForeignKey number name = codes "\"" ++ (decimal number ++ codes "\"")
part_name kind number name = name_string name

-- one thing that isn't, of this object, as an object
abbrev pub thing_object : (name table : List ℕ) → NotJudged → List ℕ
thing_object name table it =
    codes "{\"kind\":\"" ++ (kind_word it.kind ++ (codes "\",\"name\":" ++ (part_name it.kind it.number name
    ++ (codes ",\"table\":" ++ (name_string table ++ (codes ",\"why\":\"" ++ (why_word it.why ++ codes "\"}")))))))

abbrev pub thing_of : Option Item → NotJudged → List ℕ
thing_of (Some x) it = thing_object x.name.items x.table.items it
thing_of None it = thing_object [] [] it

abbrev pub thing_text : Schema → NotJudged → List ℕ
thing_text schema it = thing_of (slice_get schema.items.items it.row) it

-- how many are listed at most (own)
abbrev pub most_listed : ℕ
most_listed = 1000

-- the first members of the object: the counts, and how many cells have a text that isn't one in the encoding
abbrev pub part_counts : Report → List ℕ
part_counts r =
    codes "{\"check\":\"clean\",\"records\":\"sound\",\"schema\":\"sound\",\"indexes\":\"in part\",\"pages\":" ++ (decimal r.pages
    ++ (codes ",\"trees\":" ++ (decimal r.trees ++ (codes ",\"b-tree\":" ++ (decimal r.btree ++ (codes ",\"overflow\":" ++ (decimal r.overflow
    ++ (codes ",\"free\":" ++ (decimal r.free ++ codes ",\"ill_formed\":")))))))))

abbrev pub part_head : Report → (ill_formed : ℕ) → List ℕ
part_head r ill_formed = part_counts r ++ (decimal ill_formed ++ codes ",\"not_judged\":[")

-- what stands between two of them
abbrev pub comma : List ℕ
comma = codes ","

-- its last member: how many there are
abbrev pub part_end : List NotJudged → List ℕ
part_end all = codes "],\"not_judged_count\":" ++ (decimal (length all) ++ codes "}\n")

-- the same as an object, with the first thousand things that aren't judged, and how many there are
abbrev pub part_object : Report → Schema → List NotJudged → (ill_formed : ℕ) → List ℕ
part_object r schema all ill_formed =
    part_head r ill_formed ++ (joined comma (map (thing_text schema) (take most_listed all)) ++ part_end all)
