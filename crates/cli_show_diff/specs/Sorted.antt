-- How the rows of tables are sorted, and the changes between two of them (own; withoutrowid; fileformat2, 1.3.8 and 2.4).
use Rattle.std.specs.Prelude.{◌≡◌, ◌≢◌, ◌⊎◌, ◌&&◌, ℕ, zero, suc, Bool, true, false, List, Option, Some, None}
use Rattle.sqval.specs.Bytes.{word}
use Rattle.sqval.specs.Database.{Database, page}
use Rattle.sqlite_value.specs.declared.keys.Collation.{Collation}
use Rattle.sqlite_value.specs.declared.keys.Collation.TheVariants.{Binary, NoCase, RTrim}
use Rattle.sqlite_value.specs.declared.keys.Order.{Order}
use Rattle.sqlite_value.specs.Keys.{first_key, later}
use Rattle.sqdeep.specs.declared.text.Encoding.{Encoding}
use Rattle.sqdeep.specs.declared.text.Encoding.TheVariants.{Utf8, Utf16Le, Utf16Be}
use Rattle.sqdeep.specs.Records.{encoding_of}
use Rattle.sqkeys.specs.declared.keyed.RowKey.{RowKey}
use Rattle.sqkeys.specs.Keyed.{HasNoRowKey, IsRowKeyOf}
use Rattle.sqdiff.specs.Changes.{Change, HasChanges}
use Rattle.sqkeydiff.specs.declared.key.KeyOrder.{KeyOrder}
use Rattle.sqkeydiff.specs.KeyChanges.{HasKeyChanges}

-- the number of the schema's format, in which DESC counts or doesn't
abbrev pub format_of : Database → ℕ
format_of d = word (page d 1) 44

-- texts are compared by the bytes that are stored
abbrev pub is_stored_order : Collation → Bool
is_stored_order Binary = true
is_stored_order NoCase = false
is_stored_order RTrim = false

-- Each column of a key compares texts by the bytes that are stored, as BINARY does in each encoding.
abbrev pub is_binary : (width : ℕ) → Order → Bool
is_binary zero order = true
is_binary (suc width) order = is_stored_order (first_key order).collation && is_binary width (later order)

-- It is known how texts in this encoding are sorted by a key: NOCASE and RTRIM are defined on UTF-8 (SQLite's datatype3, 7).
abbrev pub is_known_in : Encoding → RowKey → Bool
is_known_in Utf8 row = true
is_known_in Utf16Le row = is_binary row.width row.order
is_known_in Utf16Be row = is_binary row.width row.order

-- The table that a text makes is WITHOUT ROWID, and its rows are sorted so by their keys; or no key is known of it, or not how
-- texts in the encoding are sorted by it.
abbrev pub IsSortedBy : (text : List ℕ) → (format : ℕ) → Encoding → (key : Option KeyOrder) → Type 0
IsSortedBy text format encoding None =
    HasNoRowKey text format ⊎ ((row : RowKey) × IsRowKeyOf text format row × (is_known_in encoding row ≡ false))
IsSortedBy text format encoding (Some by) =
    (row : RowKey) × IsRowKeyOf text format row × (is_known_in encoding row ≡ true) × (by ≡ record { width = row.width; order = row.order })

-- The rows of a table in a database are.
abbrev pub IsSortedIn : Database → (text : List ℕ) → (key : Option KeyOrder) → Type 0
IsSortedIn d text key = IsSortedBy text (format_of d) (encoding_of d) key

-- Those of both databases' tables are, whose texts are in one encoding. Where these have other formats none is taken to be known.
abbrev pub AreSortedBy : Database → Database → (text : List ℕ) → (key : Option KeyOrder) → Type 0
AreSortedBy d e text key =
    ((format_of d ≡ format_of e) × IsSortedIn d text key)
    ⊎ ((format_of d ≢ format_of e) × (key ≡ None))

-- The changes between two tables: by key where it is known how they are sorted by it, and else by rowid.
abbrev pub HasChangesBy : (key : Option KeyOrder) → Database → (old_root : ℕ) → Database → (new_root : ℕ) → List Change → Type 0
HasChangesBy None d old_root e new_root cs = HasChanges d old_root e new_root cs
HasChangesBy (Some key) d old_root e new_root cs = HasKeyChanges key d old_root e new_root cs
