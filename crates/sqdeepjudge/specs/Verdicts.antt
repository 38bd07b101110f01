-- What a deep check finds (own).
use Rattle.std.specs.Prelude.{ℕ, ◌^◌, Bool, true, false, List, Option, Some, None, map, option_map, slice_get, Result, Ok, Err}
use Rattle.sqval.specs.Database.{Database}
use Rattle.sqcheck.specs.WellFormed.{WellFormedWith}
use Rattle.sqdeep.specs.Forms.{AreIllFormed}
use Rattle.sqdeep.specs.Inside.{IsSoundInside, StandsInside}
use Rattle.sqschema.specs.Schema.{IsSchemaOf, IsSoundSchema, StandsInSchema}
use Rattle.sqschema.specs.declared.check.Schema.{Schema as OwnSchema}
use Rattle.sqview.specs.Verdicts.{FindsWith, verdict_without}
use Rattle.sqview.specs.declared.judge_error.JudgeError.{JudgeError}
use Rattle.sqview.specs.declared.verdict.Verdict.{Verdict}
use Rattle.sqview.specs.declared.verdict.Verdict.TheVariants as plain
use Rattle.sqview.specs.declared.view_error.ViewError.{ViewError}
use Rattle.sqschema.specs.Items.{seen}
use Rattle.sqcontents.specs.Contents.{AreIndexesJudged, AreTablesJudged, ContentsRefused}
use Rattle.sqcontents.specs.declared.error.ContentsError.TheVariants.{Content as OwnContent}
use Rattle.sqcontents.specs.declared.error.ContentsError.TheVariants.{Row as OwnRow}
use Rattle.sqdeepjudge.specs.NotJudged.{AreNotJudged, lacks}
use Rattle.sqdeepjudge.specs.declared.verdict.Damage.TheVariants.{Cut, Excess, Check, Inner, Schema, Content, Row}
use Rattle.sqdeepjudge.specs.declared.verdict.DeepVerdict.{DeepVerdict}
use Rattle.sqdeepjudge.specs.declared.verdict.DeepVerdict.TheVariants as deep

-- the verdict of a check that isn't deep
abbrev pub verdict_as : Verdict → DeepVerdict
verdict_as (plain.Clean report) = deep.Clean report
verdict_as (plain.Damaged e) = deep.Damaged (Check e)

-- a check's answer as that of a deep one
abbrev pub result_as : Result Verdict JudgeError → Result DeepVerdict JudgeError
result_as (Ok verdict) = Ok (verdict_as verdict)
result_as (Err e) = Err e

-- what is found where there is no view
abbrev pub deep_without : ViewError → Result DeepVerdict JudgeError
deep_without e = result_as (verdict_without e)

-- something is wrong
abbrev pub is_damaged : DeepVerdict → Bool
is_damaged (deep.Damaged damage) = true
is_damaged _ = false

-- it is sound, and something that has to be judged where all is to be isn't
abbrev pub is_in_part : DeepVerdict → Bool
is_in_part (deep.Sound report schema unjudged) = lacks unjudged.all.items
is_in_part _ = false

-- Of a database of pages of this size, with pointer maps or without: a check finds it well formed, and it is sound inside,
-- with so many cells that have a text that isn't one in its encoding, whatever its schema is; or a page is missing, or its header counts too many; or a check finds damage; or it is well formed, and the fault stands inside, at the page and
-- the cell.
abbrev pub FindsInside : (maps : Bool) → Database → (size : ℕ) → DeepVerdict → Type 0
FindsInside maps d size (deep.Clean report) = ⊥
FindsInside maps d size (deep.Sound report schema unjudged) = FindsWith maps d size (plain.Clean report) × IsSoundInside d × AreIllFormed d unjudged.ill_formed
FindsInside maps d size (deep.Damaged (Cut p)) = Unit {0}
FindsInside maps d size (deep.Damaged (Excess n)) = Unit {0}
FindsInside maps d size (deep.Damaged (Check e)) = FindsWith maps d size (plain.Damaged e)
FindsInside maps d size (deep.Damaged (Inner e)) = WellFormedWith maps d size × StandsInside d e.fault e.page e.cell × ¬ IsSoundInside d
FindsInside maps d size (deep.Damaged (Schema e)) = WellFormedWith maps d size × IsSoundInside d
FindsInside maps d size (deep.Damaged (Content e)) = WellFormedWith maps d size × IsSoundInside d
FindsInside maps d size (deep.Damaged (Row e)) = WellFormedWith maps d size × IsSoundInside d

-- how much memory the entries of an index may take: 1 GiB (own)
abbrev pub most_bytes : ℕ
most_bytes = 2 ^ 30

-- Of one that is sound inside: this is its schema, which is sound, and so is each index and each table that isn't one of these, and
-- it is listed what isn't judged; or the schema isn't sound, and the fault stands at the row; or it is, and the fault stands in the index, or at a row of the table,
-- of that row.
abbrev pub FindsSchema : Database → DeepVerdict → Type 0
FindsSchema d (deep.Sound report schema unjudged) =
    IsSchemaOf d schema × AreIndexesJudged d (map seen schema.items.items) most_bytes unjudged.indexes.items × AreTablesJudged d (map seen schema.items.items) unjudged.tables.items
    × AreNotJudged schema unjudged.indexes.items unjudged.tables.items unjudged.all.items
FindsSchema d (deep.Damaged (Schema e)) = StandsInSchema d e.fault e.row × ¬ IsSoundSchema d
FindsSchema d (deep.Damaged (Content e)) = (schema : OwnSchema) × IsSchemaOf d schema × ContentsRefused d (map seen schema.items.items) (OwnContent e)
FindsSchema d (deep.Damaged (Row e)) = (schema : OwnSchema) × IsSchemaOf d schema × ContentsRefused d (map seen schema.items.items) (OwnRow e)
FindsSchema d _ = Unit {0}

-- Both: it is well formed, sound inside, and its schema, its indexes and its tables are sound; or this is damaged.
abbrev pub FindsDeep : (maps : Bool) → Database → (size : ℕ) → DeepVerdict → Type 0
FindsDeep maps d size verdict = FindsInside maps d size verdict × FindsSchema d verdict

-- the name of an item of a schema, where there is one
abbrev pub name_at : OwnSchema → Option ℕ → Option (List ℕ)
name_at schema None = None
name_at schema (Some k) = option_map (λ x. x.name.items) (slice_get schema.items.items k)

-- the name of the i-th table whose text isn't understood
abbrev pub aside_name : DeepVerdict → (i : ℕ) → Option (List ℕ)
aside_name (deep.Sound report schema unjudged) i = name_at schema (slice_get schema.asides.items i)
aside_name _ i = None

-- the name of the i-th index that isn't judged
abbrev pub unjudged_name : DeepVerdict → (i : ℕ) → Option (List ℕ)
unjudged_name (deep.Sound report schema unjudged) i = name_at schema (slice_get unjudged.indexes.items i)
unjudged_name _ i = None

-- the name of the i-th table whose rows aren't judged
abbrev pub unjudged_table_name : DeepVerdict → (i : ℕ) → Option (List ℕ)
unjudged_table_name (deep.Sound report schema unjudged) i = name_at schema (slice_get unjudged.tables.items i)
unjudged_table_name _ i = None
