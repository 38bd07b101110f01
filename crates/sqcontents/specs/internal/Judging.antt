-- Words of the functions that judge the indexes and the tables of a schema (own). No public contract cites them.
use Rattle.std.specs.Prelude.{◌≡◌, ◌≢◌, ◌<◌, ◌≤◌, ◌+◌, ℕ, Bool, true, false, List, slice_get, Some}
use Rattle.sqval.specs.Bytes.{word}
use Rattle.sqval.specs.Database.{Database, page}
use Rattle.sqpage.specs.Lists.{In}
use Rattle.sqpage.specs.declared.fault.Fault.TheVariants as faults
use Rattle.sqindex.specs.declared.error.ReadError.{ReadError}
use Rattle.sqindex.specs.declared.error.ReadError.TheVariants as reads
use Rattle.sqindex.specs.declared.error.ReadError.TheVariants.{Tree}
use Rattle.sqindex.specs.declared.error.IndexError.{IndexError}
use Rattle.sqindex.specs.declared.error.IndexError.TheVariants as indexes
use Rattle.sqindex.specs.declared.error.TableError.{TableError}
use Rattle.sqindex.specs.declared.error.TableError.TheVariants as tables
use Rattle.sqindex.specs.Indexes.{IndexRefused, RefutesIndex}
use Rattle.sqindex.specs.EntryIndexes.{IndexRefusedBy, RefutesIndexBy}
use Rattle.sqindex.specs.RowsKept.{TableRefused, RefutesTable}
use Rattle.sqindex.specs.KeyedRows.{KeyedRefused, RefutesKeyed}
use Rattle.sqcontents.specs.declared.item_key.ItemKey.{ItemKey}
use Rattle.sqcontents.specs.declared.item_key.ItemKey.TheVariants.{Rowid, Entries}
use Rattle.sqcontents.specs.declared.table_rules.TableRules.{TableRules}
use Rattle.sqcontents.specs.declared.table_rules.TableRules.TheVariants.{Columns, Keyed}
use Rattle.sqcontents.specs.declared.error.ContentsError.{ContentsError}
use Rattle.sqcontents.specs.declared.error.ContentsError.TheVariants as contents
use Rattle.sqschema.specs.Items.{Item}
use Rattle.sqschema.specs.Rules.{is_index}
use Rattle.sqcontents.specs.declared.first.Numbers.{Numbers}
use Rattle.sqcontents.specs.Contents.{IsSoundIndex, IsUnjudged, IsRooted, IsSoundTable, IsTableUnjudged}

-- a page number of a database of so many pages
abbrev pub IsWithin : (count r : ℕ) → Type 0
IsWithin count r = (1 ≤ r) × (r ≤ count)

-- These are the numbers in the header.
pub record AreNumbersOf (d : Database) (numbers : Numbers) : Type 0 where
  pub format : numbers.format ≡ word (page d 1) 44
  pub encoding : numbers.encoding ≡ word (page d 1) 56

-- It is said whether item `row`, where it is of a kind, is sound, or open.
abbrev pub Judges : (Is IsSound IsOpen : Item → Type 0) → List Item → (row : ℕ) → Bool → Type 0
Judges Is IsSound IsOpen xs row true = (x : Item) → slice_get xs row ≡ Some x → Is x → IsSound x
Judges Is IsSound IsOpen xs row false = (x : Item) × (slice_get xs row ≡ Some x) × Is x × IsOpen x

abbrev pub JudgesIndex : Database → List Item → (limit row : ℕ) → Bool → Type 0
JudgesIndex d xs limit row judged = Judges (λ x. is_index x ≡ true) (IsSoundIndex d xs) (IsUnjudged d xs limit) xs row judged

abbrev pub JudgesTable : Database → List Item → (row : ℕ) → Bool → Type 0
JudgesTable d xs row judged = Judges IsRooted (IsSoundTable d) (IsTableUnjudged d) xs row judged

-- A tree isn't sound, whatever memory there is.
abbrev pub IsUnsound : ReadError → Type 0
IsUnsound (Tree e) = (e.fault ≢ faults.Source) × (e.fault ≢ faults.NoMemory)
IsUnsound reads.NoMemory = ⊥
IsUnsound _ = Unit {0}

-- a page could not be read, or memory ran out
abbrev pub IsRefusedBy : ReadError → ContentsError → Type 0
IsRefusedBy (Tree e) contents.Source = e.fault ≡ faults.Source
IsRefusedBy _ contents.NoMemory = Unit {0}
IsRefusedBy _ _ = ⊥

-- Why an index isn't found sound by its key, and what that refutes.
abbrev pub ItemRefused : Database → (table index : ℕ) → ItemKey → (limit : ℕ) → IndexError → Type 0
ItemRefused d table index (Rowid key) limit e = IndexRefused d table index key limit e
ItemRefused d table index (Entries entry) limit e = IndexRefusedBy d table index entry limit e

abbrev pub RefutesItem : Database → (table index : ℕ) → ItemKey → IndexError → Type 0
RefutesItem d table index (Rowid key) e = RefutesIndex d table index key e
RefutesItem d table index (Entries entry) e = RefutesIndexBy d table index entry e

-- The same of the rows of a table by their rules.
abbrev pub RowsRefused : Database → (table : ℕ) → TableRules → TableError → Type 0
RowsRefused d table (Columns rules) e = TableRefused d table rules.items e
RowsRefused d table (Keyed key) e = KeyedRefused d table key e

abbrev pub RefutesRows : Database → (table : ℕ) → TableRules → TableError → Type 0
RefutesRows d table (Columns rules) e = RefutesTable d table rules.items e
RefutesRows d table (Keyed key) e = RefutesKeyed d table key e

-- An index isn't judged: it is too large, or a tree isn't sound.
abbrev pub IsUnjudgedBy : IndexError → Type 0
IsUnjudgedBy (indexes.Table e) = IsUnsound e
IsUnjudgedBy (indexes.Index e) = IsUnsound e
IsUnjudgedBy indexes.TooLarge = Unit {0}
IsUnjudgedBy (indexes.Entry e) = ⊥

-- Index `row` has this fault, a page could not be read, or memory ran out.
abbrev pub IsErrorBy : IndexError → (row : ℕ) → ContentsError → Type 0
IsErrorBy (indexes.Table e) row error = IsRefusedBy e error
IsErrorBy (indexes.Index e) row error = IsRefusedBy e error
IsErrorBy (indexes.Entry e) row error = error ≡ contents.Content (record { error = e; row = row })
IsErrorBy indexes.TooLarge row error = ⊥

-- The rows of a table can't be read; or this is the fault of table `row`, a page could not be read, or memory ran out.
abbrev pub IsUnknownBy : TableError → Type 0
IsUnknownBy (tables.Unread e) = IsUnsound e
IsUnknownBy (tables.Row e) = ⊥

abbrev pub IsTableErrorBy : TableError → (row : ℕ) → ContentsError → Type 0
IsTableErrorBy (tables.Unread e) row error = IsRefusedBy e error
IsTableErrorBy (tables.Row e) row error = error ≡ contents.Row (record { error = e; row = row })

-- The first n items that are of a kind are judged.
pub record AreJudgedBelow (Is IsSound IsOpen : Item → Type 0) (xs : List Item) (n : ℕ) (asides : List ℕ) : Type 0 where
  pub each : (i : ℕ) (x : Item) → i < n → slice_get xs i ≡ Some x → Is x → ¬ In i asides → IsSound x
  pub why : (i : ℕ) → In i asides → (x : Item) × (i < n) × (slice_get xs i ≡ Some x) × Is x × IsOpen x
  pub rise : (k i j : ℕ) → slice_get asides k ≡ Some i → slice_get asides (k + 1) ≡ Some j → i < j

abbrev pub AreIndexesBelow : Database → List Item → (limit n : ℕ) → (asides : List ℕ) → Type 0
AreIndexesBelow d xs limit n asides = AreJudgedBelow (λ x. is_index x ≡ true) (IsSoundIndex d xs) (IsUnjudged d xs limit) xs n asides

abbrev pub AreTablesBelow : Database → List Item → (n : ℕ) → (asides : List ℕ) → Type 0
AreTablesBelow d xs n asides = AreJudgedBelow IsRooted (IsSoundTable d) (IsTableUnjudged d) xs n asides
