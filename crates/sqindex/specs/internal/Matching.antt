-- Words of the functions that match the rows and the entries of a range of rowids (own). No public contract cites them.
use Rattle.std.specs.Prelude.{◌≡◌, ◌⊎◌, ℕ, List, [], ◌++◌, ◌∷◌, Option, Some, None, Result, Ok, Err, MatchResult, ℤ}
use Rattle.sqval.specs.Database.{Database}
use Rattle.sqval.specs.Record.{most_bytes}
use Rattle.sqkeys.specs.declared.key.IndexKey.{IndexKey}
use Rattle.sqindex.specs.declared.entries.Entries.{Entries}
use Rattle.sqindex.specs.declared.error.ReadError.{ReadError}
use Rattle.sqindex.specs.declared.error.IndexError.{IndexError}
use Rattle.sqindex.specs.declared.error.IndexError.TheVariants as errors
use Rattle.sqindex.specs.declared.join.Join.{Join}
use Rattle.sqindex.specs.declared.part.Part.{Part}
use Rattle.sqindex.specs.declared.rows.Rows.{Rows}
use Rattle.sqindex.specs.declared.stream.Stage.{Stage}
use Rattle.sqindex.specs.declared.stream.Stage.TheVariants.{Lost}
use Rattle.sqindex.specs.Stored.{Stored}
use Rattle.sqindex.specs.Rules.{Rise, HasKeyedRows, Match}
use Rattle.sqindex.specs.Indexes.{ReadRefused, NoRows, IndexRefused}
use Rattle.sqindex.specs.internal.Held.{held_by}
use Rattle.sqindex.specs.internal.Judging.{AreByRowid}
use Rattle.sqindex.specs.internal.Joining.{IsJoined, EndTells, BothRefused}
use Rattle.sqindex.specs.internal.RowsGiven.{IsCursor, IsReadTo}
use Rattle.sqindex.specs.internal.Spans.{rows_in, rows_to, entries_to}

-- It was so of the rows of the range before a row, and is so with it.
abbrev pub SeesIn : IndexKey → Part → (rows : List Stored) → (old : Join) → (row : Stored) → (new : Join) → Type 0
SeesIn key part rows old row new =
    AreByRowid key part.entries → Rise (rows ++ row ∷ []) → IsJoined key part.entries (rows_in part.span rows) old → IsJoined key part.entries (rows_in part.span (rows ++ row ∷ [])) new

-- the table has rows in order
abbrev pub HasRowsInOrder : Database → (table : ℕ) → Type 0
HasRowsInOrder d table = (rows : List Stored) × HasKeyedRows d table rows

-- The entries are those of the rows of the table in their range. Where that has no end the table has rows in order.
abbrev pub IsMatchedIn : Database → (table : ℕ) → IndexKey → Part → Type 0
IsMatchedIn d table key part = (part.span.last ≡ None → HasRowsInOrder d table)
    × ((rows : List Stored) → HasKeyedRows d table rows → Match key (rows_in part.span rows) (held_by part.entries))

-- Why they aren't.
abbrev pub MatchRefusedIn : Database → (table : ℕ) → IndexKey → Part → IndexError → Type 0
MatchRefusedIn d table key part (errors.Table e) = ReadRefused d table most_bytes (NoRows d table) e
MatchRefusedIn d table key part (errors.Entry e) = (rows : List Stored) × HasKeyedRows d table rows × BothRefused key (held_by part.entries) (rows_in part.span rows) e.fault e.page e.cell
MatchRefusedIn d table key part _ = ⊥

-- The entries are those of the rows of the table in their range, of which the cursor has given all.
abbrev pub IsMatchedTo : Database → (table : ℕ) → IndexKey → Part → Rows → Type 0
IsMatchedTo d table key part rows = IsMatchedIn d table key part × ((b : ℤ) → part.span.last ≡ Some b → IsReadTo d table (Some b) rows)

-- Why a range isn't closed: the rows behind it aren't read, or this is told of it, and the table has rows in order.
abbrev pub CloseRefused : Database → (table : ℕ) → Entries → Join → IndexError → Type 0
CloseRefused d table entries join e =
    ((refusal : ReadError) × (e ≡ errors.Table refusal) × ReadRefused d table most_bytes (NoRows d table) refusal)
    ⊎ (EndTells entries join (Err e) × HasRowsInOrder d table)

-- What was found before stays; else the range is matched, or this is why not.
abbrev pub MatchesNext : Database → (table : ℕ) → IndexKey → Part → (old new : Result Rows IndexError) → Type 0
MatchesNext d table key part (Ok rows) new = IsReadTo d table part.span.above rows → MatchResult new (IsMatchedTo d table key part) (MatchRefusedIn d table key part)
MatchesNext d table key part (Err e) new = new ≡ Err e

-- The entries up to this rowid are those of the table's rows, which were given so far.
abbrev pub AreMatchedBy : Database → (table : ℕ) → IndexKey → (above : Option ℤ) → (xs : List Stored) → Rows → Type 0
AreMatchedBy d table key above xs cursor =
    IsReadTo d table above cursor × ((rows : List Stored) → HasKeyedRows d table rows → Match key (rows_to above rows) (entries_to key above xs))

-- The same; or this was found.
abbrev pub AreMatchedTo : Database → (table index : ℕ) → IndexKey → (limit : ℕ) → (above : Option ℤ) → (xs : List Stored) → Result Rows IndexError → Type 0
AreMatchedTo d table index key limit above xs (Ok cursor) = AreMatchedBy d table key above xs cursor
AreMatchedTo d table index key limit above xs (Err e) = IndexRefused d table index key limit e

-- The entries are those of the rows of the table.
abbrev pub IsMatched : Database → (table : ℕ) → IndexKey → List Stored → Type 0
IsMatched d table key xs = (rows : List Stored) × HasKeyedRows d table rows × Match key rows xs

-- The first range: what was held, or a new one from the first rowid on.
abbrev pub IsFirstPart : Stage → (old new : Part) → Type 0
IsFirstPart Lost old new = new.span.above ≡ None
IsFirstPart _ old new = new ≡ old

-- The rows from the first range on: what is left of them, or all.
abbrev pub AreFirstRows : Database → (table : ℕ) → Stage → (old : Rows) → (new : Result Rows IndexError) → Type 0
AreFirstRows d table Lost old new =
    MatchResult new (λ rows. IsCursor d table rows []) (λ e. (index limit : ℕ) (key : IndexKey) → IndexRefused d table index key limit e)
AreFirstRows d table _ old new = new ≡ Ok old
