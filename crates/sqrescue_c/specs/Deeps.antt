-- What a deep check of files answers.
use Rattle.std.specs.Prelude.{◌≡◌, ◌⊎◌, ◌<◌, ◌&&◌, ℕ, true, cond, List, ◌++◌, length, get_or, Option, Some, None}
use Rattle.sqpage.specs.Faults.{number_of}
use Rattle.sqpage.specs.declared.fault.Fault.{Fault}
use Rattle.sqval.specs.Database.{Database}
use Rattle.sqdeep.specs.Faults as inner
use Rattle.sqschema.specs.SchemaFaults as schemas
use Rattle.sqindex.specs.IndexFaults as indexes
use Rattle.sqindex.specs.RowFaults as tables
use Rattle.sqview.specs.declared.view_error.ViewError.TheVariants.{Header}
use Rattle.sqpast.specs.declared.past_error.PastError.TheVariants.{Refused}
use Rattle.sqpast.specs.declared.used.Counts.{Counts}
use Rattle.sqdeepjudge.specs.Counted.{FindsExcess}
use Rattle.sqdeepjudge.specs.Missing.{FindsCut, IsMissing}
use Rattle.sqdeepjudge.specs.Verdicts.{FindsDeep, is_damaged, is_in_part}
use Rattle.sqdeepjudge.specs.declared.verdict.Damage.TheVariants.{Cut, Excess, Check, Inner, Schema, Content, Row}
use Rattle.sqdeepjudge.specs.declared.verdict.DeepVerdict.{DeepVerdict}
use Rattle.sqdeepjudge.specs.declared.verdict.Unjudged.{Unjudged}
use Rattle.sqdeepjudge.specs.declared.verdict.DeepVerdict.TheVariants.{Clean, Sound, Damaged}
use Rattle.sqcheck.specs.declared.report.Report.{Report}
use Rattle.sqrescue_c.specs.Asked.{AreAskedCounts, HasPage, ShowsAsked, AskedRefused, is_complete}
use Rattle.sqrescue_c.specs.Checks.{IsViewRefused}
use Rattle.sqrescue_c.specs.declared.deep.DeepAnswer.{DeepAnswer}
use Rattle.sqrescue_c.specs.declared.deep.DeepReport.{DeepReport}

-- a fault, and which of page, 1, cell, 2, and row of the schema, 4, it names
abbrev pub fault_at : (fault places page cell row : ℕ) → DeepReport
fault_at fault places page cell row = record {
  fault = fault;
  places = places;
  page = page;
  pages = 0;
  trees = 0;
  btree = 0;
  overflow = 0;
  free = 0;
  cell = cell;
  row = row;
  indexes = 0;
  tables = 0;
  asides = 0;
}

-- the counts of a database, and of its indexes and its tables that aren't judged, and of its tables that aren't understood
abbrev pub counts_of : Report → (indexes tables asides : ℕ) → DeepReport
counts_of r indexes tables asides = record {
  fault = 0;
  places = 0;
  page = 0;
  pages = r.pages;
  trees = r.trees;
  btree = r.btree;
  overflow = r.overflow;
  free = r.free;
  cell = 0;
  row = 0;
  indexes = indexes;
  tables = tables;
  asides = asides;
}

abbrev pub inner_at : (fault page : ℕ) → (cell : Option ℕ) → DeepReport
inner_at fault page None = fault_at fault 1 page 0 0
inner_at fault page (Some cell) = fault_at fault 3 page cell 0

-- what a caller is told of a verdict
abbrev pub deep_report : DeepVerdict → DeepReport
deep_report (Clean r) = counts_of r 0 0 0
deep_report (Sound r schema unjudged) = counts_of r (length unjudged.indexes.items) (length unjudged.tables.items) (length schema.asides.items)
deep_report (Damaged (Cut p)) = fault_at 36 1 p 0 0
deep_report (Damaged (Excess n)) = fault_at 37 1 1 0 0
deep_report (Damaged (Check e)) = fault_at (number_of e.fault) 1 e.page 0 0
deep_report (Damaged (Inner e)) = inner_at (inner.number_of e.fault) e.page e.cell
deep_report (Damaged (Schema e)) = fault_at (schemas.number_of e.fault) 4 0 0 e.row
deep_report (Damaged (Content e)) = fault_at (indexes.number_of e.error.fault) 7 e.error.page e.error.cell e.row
deep_report (Damaged (Row e)) = fault_at (tables.number_of e.error.fault) 7 e.error.page e.error.cell e.row

-- the rows of the indexes that aren't judged, and then those of the tables
abbrev pub rows_of : Unjudged → List ℕ
rows_of unjudged = unjudged.indexes.items ++ unjudged.tables.items

-- as many of these as there is room for
abbrev pub AreRowsToldOf : DeepVerdict → (rows : List ℕ) → Type 0
AreRowsToldOf (Sound r schema unjudged) rows = (i : ℕ) → i < length rows → i < length (rows_of unjudged) → get_or rows i 0 ≡ get_or (rows_of unjudged) i 0
AreRowsToldOf _ rows = Unit {0}

-- The least page of a database that is missing is the fault, and no other fault is found if there is one.
abbrev pub IsWholeOrCut : (flags m size : ℕ) (db wal journal : List ℕ) → Database → DeepVerdict → Type 0
IsWholeOrCut flags m size db wal journal d verdict = FindsCut (IsMissing (HasPage flags m size wal journal) size (length db)) (length d) verdict

-- A header that counts more pages than the database has by its log is the fault, if no page is missing, and no other fault is found
-- but one that comes first.
abbrev pub IsCounted : (flags m : ℕ) (db wal journal : List ℕ) → DeepVerdict → Type 0
IsCounted flags m db wal journal verdict = (counts : Counts) × AreAskedCounts flags m db wal journal counts × FindsExcess counts verdict

-- What is found of the database that flags ask for, with its pointer maps, where there are some; or the fault of a header that
-- names none.
abbrev pub IsAskedDeep : (flags m : ℕ) (db wal journal : List ℕ) → DeepVerdict → Type 0
IsAskedDeep flags m db wal journal verdict =
    ((size : ℕ) × (d : Database) × ShowsAsked flags m size db wal journal d × FindsDeep true d size verdict
    × IsWholeOrCut flags m size db wal journal d verdict × IsCounted flags m db wal journal verdict)
    ⊎ ((fault : Fault) × (verdict ≡ Damaged (Check (record { page = 1; fault = fault }))) × AskedRefused flags m db wal journal (Refused (Header fault)))

-- The status of a verdict: 1 of a damaged database; 31 of a sound one where all is to be judged, and something that has to be
-- isn't; otherwise 0.
abbrev pub deep_status : (flags : ℕ) → DeepVerdict → ℕ
deep_status flags verdict = cond (is_damaged verdict) 1 (cond (is_complete flags && is_in_part verdict) 31 0)

-- That is told, with its status.
abbrev pub IsDeepAnswer : (flags m : ℕ) (db wal journal : List ℕ) (status : ℕ) → DeepReport → (rows : List ℕ) → Type 0
IsDeepAnswer flags m db wal journal status out rows =
    (verdict : DeepVerdict) × IsAskedDeep flags m db wal journal verdict × (status ≡ deep_status flags verdict)
    × (out ≡ deep_report verdict) × AreRowsToldOf verdict rows

-- how many things of a sound database aren't judged
abbrev pub left_of : DeepVerdict → ℕ
left_of (Sound r schema unjudged) = length unjudged.all.items
left_of _ = 0

-- how many of its cells have a text that isn't one in its encoding
abbrev pub ill_formed_of : DeepVerdict → ℕ
ill_formed_of (Sound r schema unjudged) = unjudged.ill_formed
ill_formed_of _ = 0

-- The same is told, and how many these are.
abbrev pub IsDeepAnswerAll : (flags m : ℕ) (db wal journal : List ℕ) (status : ℕ) → DeepAnswer → (rows : List ℕ) → Type 0
IsDeepAnswerAll flags m db wal journal status answer rows =
    (verdict : DeepVerdict) × IsAskedDeep flags m db wal journal verdict × (status ≡ deep_status flags verdict)
    × (answer.report ≡ deep_report verdict) × AreRowsToldOf verdict rows × (answer.left ≡ left_of verdict) × (answer.ill_formed ≡ ill_formed_of verdict)

-- Why it isn't judged, by its number: what refuses its view, no memory too.
abbrev pub AreDeepUnjudged : (flags m : ℕ) (db wal journal : List ℕ) → (number : ℕ) → Type 0
AreDeepUnjudged flags m db wal journal number = IsViewRefused flags m db wal journal number
