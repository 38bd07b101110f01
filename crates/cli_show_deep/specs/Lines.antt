-- How it is printed what a deep check finds (own).
use Rattle.std.specs.Prelude.{ℕ, ◌+◌, Option, None, Some, List, [], ◌∷◌, ◌++◌, codes}
use Rattle.std.specs.Fmt.{decimal}
use Rattle.sqcheck.specs.declared.report.Report.{Report}
use Rattle.sqpage.specs.Faults as pages
use Rattle.sqpage.specs.declared.fault.CheckError.{CheckError}
use Rattle.sqdeep.specs.Faults as inside
use Rattle.sqdeep.specs.declared.fault.InnerError.{InnerError}
use Rattle.sqschema.specs.SchemaFaults as schemas
use Rattle.sqschema.specs.declared.error.ObjectError.{ObjectError}
use Rattle.sqindex.specs.IndexFaults as indexes
use Rattle.sqindex.specs.RowFaults as rows
use Rattle.sqcontents.specs.declared.error.ContentError.{ContentError}
use Rattle.sqcontents.specs.declared.error.TableRowError.{TableRowError}
use Rattle.cli_words.specs.declared.requests.Style.{Style}
use Rattle.cli_words.specs.declared.requests.Style.TheVariants.{Lines, Json}
use Rattle.cli_text.specs.Facts.{number_text, object_text, word_text}
use Rattle.cli_text.specs.Verdicts.{fault_text, report_text}
use Rattle.sqschema.specs.declared.check.Schema.{Schema as OwnSchema}
use Rattle.sqdeepjudge.specs.declared.not_judged.NotJudged.{NotJudged}
use Rattle.sqdeepjudge.specs.declared.verdict.Damage.TheVariants.{Cut, Excess, Check, Inner, Schema, Content, Row}
use Rattle.sqdeepjudge.specs.declared.verdict.DeepVerdict.{DeepVerdict}
use Rattle.sqdeepjudge.specs.declared.verdict.DeepVerdict.TheVariants.{Clean, Sound, Damaged}
use Rattle.cli_show_deep.specs.Parts.{part_line, part_object}

-- a database of which all is judged, and sound: its pages by their use, and in an object also how many cells have a text that
-- isn't one in its encoding
abbrev pub sound_text : Style → Report → (ill_formed : ℕ) → List ℕ
sound_text Lines r ill_formed =
    codes "clean: " ++ (decimal r.pages ++ (codes " pages, " ++ (decimal r.trees ++ (codes " trees, "
    ++ (decimal r.btree ++ (codes " b-tree, " ++ (decimal r.overflow ++ (codes " overflow, " ++ (decimal r.free ++ codes " free; records, schema and indexes sound\n")))))))))
sound_text Json r ill_formed = object_text Json (
    word_text Json (codes "check") (codes "clean")
    ∷ word_text Json (codes "records") (codes "sound")
    ∷ word_text Json (codes "schema") (codes "sound")
    ∷ word_text Json (codes "indexes") (codes "sound")
    ∷ number_text Json (codes "pages") r.pages
    ∷ number_text Json (codes "trees") r.trees
    ∷ number_text Json (codes "b-tree") r.btree
    ∷ number_text Json (codes "overflow") r.overflow
    ∷ number_text Json (codes "free") r.free
    ∷ number_text Json (codes "ill_formed") ill_formed ∷ [])

-- a sound database, of which this isn't judged
abbrev pub whole_or_part : Style → Report → OwnSchema → List NotJudged → (ill_formed : ℕ) → List ℕ
whole_or_part style r schema [] ill_formed = sound_text style r ill_formed
whole_or_part Lines r schema (it ∷ all) ill_formed = part_line r schema (it ∷ all)
whole_or_part Json r schema (it ∷ all) ill_formed = part_object r schema (it ∷ all) ill_formed

-- a well-formed database of which this page is the least that is missing, as an object
abbrev pub clean_counts : Report → List ℕ
clean_counts r =
    codes "{\"check\":\"clean\",\"pages\":" ++ (decimal r.pages ++ (codes ",\"trees\":" ++ (decimal r.trees
    ++ (codes ",\"b-tree\":" ++ (decimal r.btree ++ (codes ",\"overflow\":" ++ (decimal r.overflow
    ++ (codes ",\"free\":" ++ (decimal r.free ++ codes ",\"missing\":")))))))))

abbrev pub clean_object : Report → (p : ℕ) → List ℕ
clean_object r p = clean_counts r ++ (decimal p ++ codes "}\n")

-- the same of a fault at a page
abbrev pub damage_object : CheckError → (p : ℕ) → List ℕ
damage_object e p = object_text Json (
    number_text Json (codes "page") e.page
    ∷ number_text Json (codes "fault") (pages.number_of e.fault)
    ∷ word_text Json (codes "name") (pages.name_of e.fault)
    ∷ number_text Json (codes "missing") p ∷ [])

-- what a check that isn't deep finds: in an object also the least page that is missing
abbrev pub clean_text : Style → Report → (missing : Option ℕ) → List ℕ
clean_text style r None = report_text style r
clean_text Lines r (Some p) = report_text Lines r
clean_text Json r (Some p) = clean_object r p

abbrev pub damage_text : Style → CheckError → (missing : Option ℕ) → List ℕ
damage_text style e None = fault_text style e
damage_text Lines e (Some p) = fault_text Lines e
damage_text Json e (Some p) = damage_object e p

-- what stands behind the page of a fault: the cell, where it is one of a cell
abbrev pub cell_text : Option ℕ → List ℕ
cell_text None = []
cell_text (Some i) = codes " cell " ++ decimal i

-- the numbers of a fault's page and cell
abbrev pub place_texts : (p : ℕ) → (cell : Option ℕ) → (texts : List (List ℕ)) → List (List ℕ)
place_texts p None texts = number_text Json (codes "page") p ∷ texts
place_texts p (Some i) texts = number_text Json (codes "page") p ∷ number_text Json (codes "cell") i ∷ texts

-- a page that is missing: fault 36
abbrev pub cut_text : Style → (p : ℕ) → List ℕ
cut_text Lines p = codes "page " ++ (decimal p ++ codes ": fault 36 FileCut\n")
cut_text Json p = codes "{\"page\":" ++ (decimal p ++ codes ",\"fault\":36,\"name\":\"FileCut\"}\n")

-- a header that counts too many pages: fault 37, at page 1
abbrev pub excess_text : Style → List ℕ
excess_text Lines = codes "page 1: fault 37 PageCount\n"
excess_text Json = codes "{\"page\":1,\"fault\":37,\"name\":\"PageCount\"}\n"

-- a fault inside, at a page, or at a cell of it
abbrev pub inner_text : Style → InnerError → List ℕ
inner_text Lines e =
    codes "page " ++ (decimal e.page ++ (cell_text e.cell ++ (codes ": fault " ++ (decimal (inside.number_of e.fault) ++ (codes " " ++ (inside.name_of e.fault ++ codes "\n"))))))
inner_text Json e = object_text Json (place_texts e.page e.cell (
    number_text Json (codes "fault") (inside.number_of e.fault)
    ∷ word_text Json (codes "name") (inside.name_of e.fault) ∷ []))

-- a fault of a row of the schema, counted from 1 in the order of rowids
abbrev pub schema_text : Style → ObjectError → List ℕ
schema_text Lines e = codes "schema row " ++ (decimal (e.row + 1) ++ (codes ": fault " ++ (decimal (schemas.number_of e.fault) ++ (codes " " ++ (schemas.name_of e.fault ++ codes "\n")))))
schema_text Json e = object_text Json (
    number_text Json (codes "row") (e.row + 1)
    ∷ number_text Json (codes "fault") (schemas.number_of e.fault)
    ∷ word_text Json (codes "name") (schemas.name_of e.fault) ∷ [])

-- a fault at a cell of a page, of what this row of the schema names
abbrev pub place_text : Style → (row page cell fault : ℕ) → (name : List ℕ) → List ℕ
place_text Lines row page cell fault name =
    codes "schema row " ++ (decimal (row + 1) ++ (codes ": page " ++ (decimal page ++ (codes " cell " ++ (decimal cell
    ++ (codes ": fault " ++ (decimal fault ++ (codes " " ++ (name ++ codes "\n")))))))))
place_text Json row page cell fault name = object_text Json (
    number_text Json (codes "row") (row + 1)
    ∷ number_text Json (codes "page") page
    ∷ number_text Json (codes "cell") cell
    ∷ number_text Json (codes "fault") fault
    ∷ word_text Json (codes "name") name ∷ [])

-- a fault of the index in this row of the schema
abbrev pub content_text : Style → ContentError → List ℕ
content_text style e = place_text style e.row e.error.page e.error.cell (indexes.number_of e.error.fault) (indexes.name_of e.error.fault)

-- a fault of a row of the table in this row of the schema
abbrev pub table_row_text : Style → TableRowError → List ℕ
table_row_text style e = place_text style e.row e.error.page e.error.cell (rows.number_of e.error.fault) (rows.name_of e.error.fault)

-- what a check finds, or a deep one; and of one that isn't deep the least page that is missing, where one is
abbrev pub found_text : Style → DeepVerdict → (missing : Option ℕ) → List ℕ
found_text style (Clean report) missing = clean_text style report missing
found_text style (Sound report schema unjudged) missing = whole_or_part style report schema unjudged.all.items unjudged.ill_formed
found_text style (Damaged (Cut p)) missing = cut_text style p
found_text style (Damaged (Excess n)) missing = excess_text style
found_text style (Damaged (Check e)) missing = damage_text style e missing
found_text style (Damaged (Inner e)) missing = inner_text style e
found_text style (Damaged (Schema e)) missing = schema_text style e
found_text style (Damaged (Content e)) missing = content_text style e
found_text style (Damaged (Row e)) missing = table_row_text style e
