-- The rows of a table WITHOUT ROWID, in the order of their primary key (SQLite's withoutrowid; fileformat2, 1.6 and 2.4), beside
-- what its columns keep to.
use Rattle.std.specs.Prelude.{◌≡◌, ◌+◌, ℕ, Bool, List, take, slice_get, Some, MatchBool}
use Rattle.std.specs.List.{All, Contains}
use Rattle.std.specs.declared.cmp.Ordering.TheVariants.{Less}
use Rattle.sqval.specs.Database.{Database}
use Rattle.sqval.specs.Record.{most_bytes}
use Rattle.sqlite_value.specs.Keys.{prefix_cmp}
use Rattle.sqkeys.specs.declared.keyed.RowKey.{RowKey}
use Rattle.sqindex.specs.declared.row_fault.RowFault.{RowFault}
use Rattle.sqindex.specs.declared.row_fault.RowFault.TheVariants as faults
use Rattle.sqindex.specs.declared.error.TableError.{TableError}
use Rattle.sqindex.specs.declared.error.TableError.TheVariants as errors
use Rattle.sqindex.specs.Stored.{Stored}
use Rattle.sqindex.specs.Keys.{values_of}
use Rattle.sqindex.specs.Rules.{HasEntries}
use Rattle.sqindex.specs.Indexes.{ReadRefused, NoEntries, IsLimit, StandsBehind}
use Rattle.sqindex.specs.RowsKept.{IsFaultless, HasFault, IsClear, IsUnclear}

-- The first row's primary key comes before that of the second one.
abbrev pub IsKeyBefore : RowKey → (a b : Stored) → Type 0
IsKeyBefore key a b = prefix_cmp key.order (values_of a) (take key.width (values_of b)) ≡ Less

-- Each row's comes before that of the next one, so that no two are the same.
abbrev pub KeysAscend : RowKey → List Stored → Type 0
KeysAscend key rows = (i : ℕ) (a b : Stored) → slice_get rows i ≡ Some a → slice_get rows (i + 1) ≡ Some b → IsKeyBefore key a b

-- The tree with this root is an index's, whose entries are the rows of the table: they are in order, and keep to what its columns
-- do, as far as it is known what stands in them: whether that is known of all.
pub record AreKeyedRows (d : Database) (table : ℕ) (key : RowKey) (clear : Bool) : Type 0 where
  pub rows : List Stored
  pub of_table : HasEntries d table rows
  pub ascend : KeysAscend key rows
  pub faultless : All (λ row. IsFaultless key.rules.items (values_of row)) rows
  pub known : MatchBool clear (All (λ row. IsClear key.rules.items (values_of row)) rows) ((row : Stored) × Contains rows row × IsUnclear key.rules.items (values_of row))

-- What is wrong with row i, which is x: its key doesn't come behind that of the row before, or a value doesn't keep to its column.
abbrev pub RowIsWrong : RowKey → (rows : List Stored) → (i : ℕ) → (x : Stored) → RowFault → Type 0
RowIsWrong key rows i x faults.RowOrder = StandsBehind (λ a b. ¬ IsKeyBefore key a b) rows i x
RowIsWrong key rows i x fault = HasFault key.rules.items (values_of x) fault

-- The fault stands at a row, in cell `cell` of page `page`.
abbrev pub StandsInKeyed : Database → (table : ℕ) → RowKey → RowFault → (page cell : ℕ) → Type 0
StandsInKeyed d table key fault page cell =
    (rows : List Stored) × (i : ℕ) × (x : Stored) × HasEntries d table rows
    × (slice_get rows i ≡ Some x) × (x.page ≡ page) × (x.cell ≡ cell) × RowIsWrong key rows i x fault

-- Why the rows aren't found to be so: they can't be read, or a fault stands at one.
abbrev pub KeyedRefused : Database → (table : ℕ) → RowKey → TableError → Type 0
KeyedRefused d table key (errors.Unread e) = ReadRefused d table most_bytes (NoEntries d table) e
KeyedRefused d table key (errors.Row e) = StandsInKeyed d table key e.fault e.page e.cell

-- What a refusal refutes: that they are, unless by a limit.
abbrev pub RefutesKeyed : Database → (table : ℕ) → RowKey → TableError → Type 0
RefutesKeyed d table key (errors.Unread e) = ¬ IsLimit e → (clear : Bool) → ¬ AreKeyedRows d table key clear
RefutesKeyed d table key (errors.Row e) = (clear : Bool) → ¬ AreKeyedRows d table key clear
